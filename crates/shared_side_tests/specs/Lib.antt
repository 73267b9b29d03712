pub mod Rounds
pub mod Working
