pub mod Joins
pub mod Collecting
