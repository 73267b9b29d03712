pub mod Events
pub mod Counted
pub mod Headers
pub mod Sent
pub mod Bags
pub mod Marks
pub mod Room
