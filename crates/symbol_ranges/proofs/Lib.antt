pub mod Order
pub mod Halving
pub mod Adding
pub mod Cutting
pub mod Walking
pub mod Exclusive
pub mod Shortness
