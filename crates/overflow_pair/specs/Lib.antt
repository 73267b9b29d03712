-- The definitions that the contracts of this crate cite.
pub mod Contents
pub mod Pairs
