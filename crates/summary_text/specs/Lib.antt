-- What the contracts of a summary cite.
pub mod Bounds
pub mod Summaries
