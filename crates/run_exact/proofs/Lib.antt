pub mod Sums
pub mod Upto
pub mod Places
pub mod Plainly
