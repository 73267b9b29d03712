pub mod Chains
pub mod Exits
pub mod FileTexts
pub mod History
pub mod Presence
