-- What the contracts of the top call cite.
pub mod Answers
pub mod Causes
pub mod Checks
pub mod Commands
pub mod Heads
pub mod Inputs
pub mod Listings
pub mod Makes
pub mod Messages
pub mod Moments
pub mod Owing
pub mod Plains
pub mod Refusals
pub mod Replays
pub mod Streams
pub mod Tidies
