-- The definitions that the contracts of this crate cite.
pub mod Seen
pub mod Told
pub mod Steps
pub mod Ready
pub mod Runs
