pub mod Examples
pub mod Judging
pub mod Holding
pub mod Steps
