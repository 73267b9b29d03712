pub mod Lists
pub mod Table
pub mod Sides
pub mod Handover
pub mod Driver
pub mod Invariant
pub mod Runs
