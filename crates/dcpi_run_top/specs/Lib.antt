-- What the contracts of the top call with threads cite.
pub mod Answering
pub mod Beginning
pub mod Paces
pub mod Runs
