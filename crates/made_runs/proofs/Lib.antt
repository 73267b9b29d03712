pub mod Stopping
pub mod Empty
pub mod Counted
pub mod Taken
