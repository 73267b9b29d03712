pub mod Picked
pub mod Profiles
pub mod Sharing
pub mod Counts
pub mod HeadRows
pub mod Fits
