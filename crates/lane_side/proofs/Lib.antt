pub mod CutLemmas
pub mod Bells
pub mod CellLemmas
pub mod PlainLemmas
pub mod PlainCalls
mod HandingLemmas
mod PlainHanding
