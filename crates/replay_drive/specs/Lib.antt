-- The definitions that the contracts of this crate cite.
pub mod Players
pub mod Standing
pub mod Growing
pub mod Replaying
pub mod Outcomes
pub mod Ending
