use Rattle.var_bytes.proofs.FormLaws.{none_begins}
use Rattle.database_model.specs.SegmentForm.{segment}
use Rattle.run_record.proofs.laws.segment_begins_no_other.Goals as goal

pub returns : goal.returns
returns c = none_begins segment
