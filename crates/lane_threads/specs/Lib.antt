-- The definitions that the contracts of this crate cite.
pub mod Pairs
pub mod Working
pub mod Starting
pub mod Promising
pub mod Ending
