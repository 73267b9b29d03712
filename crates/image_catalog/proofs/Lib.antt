pub mod Adding
pub mod Halving
pub mod Places
