pub mod Cutting
pub mod Digits
pub mod Lines
pub mod Lists
pub mod Spelling
mod Writing
