pub mod Counting
pub mod Sections
