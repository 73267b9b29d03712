-- The definitions that the contracts of this crate cite.
pub mod Knowing
pub mod Sides
pub mod Going
pub mod Beginning
pub mod Storing
