-- The lemmas behind the answers.
pub mod Pairing
pub mod Starting
pub mod Yielded
pub mod Keeping
pub mod Turns
