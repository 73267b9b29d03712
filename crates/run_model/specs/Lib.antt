pub mod Daemon
pub mod Running
pub mod Shares
pub mod Validity
pub mod Books
