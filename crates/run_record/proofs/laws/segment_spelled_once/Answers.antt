use Rattle.run_record.proofs.SegmentLaws.{spelled_once}
use Rattle.run_record.proofs.laws.segment_spelled_once.Goals as goal

pub returns : goal.returns
returns c = spelled_once
