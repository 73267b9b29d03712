pub mod Own
pub mod Taking
pub mod Measure
pub mod Finishing
