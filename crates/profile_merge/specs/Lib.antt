pub mod Sums
pub mod Gathering
pub mod Faults
pub mod Merging
pub mod Numbering
pub mod Renewing
pub mod Changing
pub mod Laws
