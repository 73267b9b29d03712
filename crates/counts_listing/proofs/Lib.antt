pub mod Blocks
pub mod Heads
pub mod Ordered
pub mod Placed
pub mod FilesRead
pub mod Totals
