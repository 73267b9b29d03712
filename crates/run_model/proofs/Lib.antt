mod Rows
mod WrongRecords
