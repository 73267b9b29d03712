-- What the contracts of made runs cite.
pub mod FirstRuns
pub mod Openings
pub mod Stopping
