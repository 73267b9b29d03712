pub mod Gone
pub mod Keeping
pub mod Sets
pub mod Spelled
pub mod Still
