use Rattle.run_record.proofs.SegmentLaws.{segment_told}
use Rattle.run_record.proofs.laws.segments_are_in_range.Goals as goal

pub returns : goal.returns
returns c = segment_told
