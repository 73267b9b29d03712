pub mod Keeping
pub mod Outlines
