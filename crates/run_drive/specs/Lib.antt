-- The definitions that the contracts of this crate cite.
pub mod Outcomes
pub mod Running
pub mod Ending
pub mod Rooms
