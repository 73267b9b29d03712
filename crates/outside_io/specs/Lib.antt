pub mod Causes
pub mod Faults
pub mod Memory
pub mod Prefix
pub mod Streams
