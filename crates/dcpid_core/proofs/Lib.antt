-- The lemmas behind the answers.
pub mod PartStored
pub mod Current
pub mod Bells
pub mod Rungs
pub mod Images
pub mod Counted
