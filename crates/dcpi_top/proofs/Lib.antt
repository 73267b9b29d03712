-- Lemmas of the top call.
pub mod Forms
pub mod Heading
pub mod KnownLaws
pub mod Listed
pub mod Makings
pub mod OneStop
pub mod Owed
pub mod PartsBefore
pub mod Passing
pub mod Promises
pub mod Replayed
pub mod RowCounts
pub mod Sound
pub mod Telling
pub mod Tidied
pub mod Transfers
pub mod Unprinted
