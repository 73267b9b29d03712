pub mod BellSteps
pub mod Readying
pub mod CellSteps
pub mod SoundCells
pub mod LastParcel
