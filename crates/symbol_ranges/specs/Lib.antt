pub mod Lines
pub mod Reads
pub mod Index
pub mod Reading
pub mod Readings
pub mod Words
