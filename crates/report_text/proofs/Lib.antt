pub mod Division
pub mod Lines
mod Examples
