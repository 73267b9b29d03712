pub mod Bounding
pub mod Taking
