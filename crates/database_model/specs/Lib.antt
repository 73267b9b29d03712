pub mod Runs
pub mod Ranges
pub mod ProfileForm
pub mod SegmentForm
pub mod Tally
