pub mod Adding
pub mod WholeRun
