pub mod Additions
pub mod Growth
pub mod Grown
pub mod Fitting
pub mod Laws
