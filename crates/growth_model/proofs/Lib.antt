pub mod Sums
pub mod Rises
pub mod Determined
pub mod Alike
pub mod Places
pub mod HeadRows
pub mod Rows
pub mod TwoEpochs
pub mod Weights
mod TwoHeads
mod Nothing
mod WrongGrowths
