pub mod Adding
pub mod Runs
pub mod Listings
pub mod Sites
pub mod EpochSums
pub mod Taken
