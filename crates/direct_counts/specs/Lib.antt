pub mod Hashes
pub mod Lines
pub mod Lists
pub mod Ranks
pub mod Sites
pub mod Walks
