pub mod Commits
pub mod Databases
pub mod Faults
pub mod Orders
pub mod Puts
pub mod Reading
pub mod Seals
