pub mod Placing
pub mod Rising
pub mod Halving
pub mod Applying
pub mod Cases
pub mod Covering
pub mod Inserting
