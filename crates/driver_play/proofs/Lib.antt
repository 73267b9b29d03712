-- The lemmas behind the answers.
pub mod Playing
pub mod Marking
