pub mod Steps
pub mod KeyLaws
pub mod LossLaws
pub mod Parts
pub mod SegmentLaws
pub mod TallyLaws
