pub mod Placing
pub mod Summing
pub mod Bounding
