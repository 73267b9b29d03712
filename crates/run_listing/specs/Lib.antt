pub mod Orders
pub mod Runs
pub mod Texts
pub mod Steps
