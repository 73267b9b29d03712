-- The definitions that the contracts of this crate cite.
pub mod Flushes
pub mod Collection
pub mod Polling
pub mod Storing
pub mod Parts
pub mod Advancing
pub mod Finishing
pub mod Counting
pub mod Insides
pub mod Booking
