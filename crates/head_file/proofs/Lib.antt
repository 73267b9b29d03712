pub mod Apart
pub mod Front
pub mod Lines
pub mod Limits
pub mod Shape
