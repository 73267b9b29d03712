pub mod Examples
pub mod Pushing
pub mod Tests
