pub mod NumberLaws
pub mod FieldLaws
pub mod FormLaws
pub mod Writing
pub mod Appending
pub mod Answering
