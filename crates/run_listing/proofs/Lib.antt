mod Examples
pub mod Recording
pub mod Progress
pub mod Stops
pub mod InOrder
