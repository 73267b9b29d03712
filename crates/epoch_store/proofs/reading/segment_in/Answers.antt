-- What was read is what the bytes tell, and a bad field is one of bytes that tell nothing.
use Rattle.std.proofs.Common.{arith, Err, refl, ap, ◌∙◌}
use Rattle.database_model.specs.SegmentForm.{segment}
use Rattle.epoch_store.proofs.Values.{tells, tells_none}
use Rattle.epoch_store.proofs.reading.segment_in.Goals as goal

pub returns-in-Ok-clause-segment : goal.returns-in-Ok-clause-segment
returns-in-Ok-clause-segment c = tells segment c.args.bytes.now _ c.in-Ok.ensures.found

pub returns-in-Err-Bad-clause-segment : goal.returns-in-Err-Bad-clause-segment
returns-in-Err-Bad-clause-segment c = (refl, tells_none segment c.args.bytes.now c.in-Err-Bad.field-0-0 (λ i. omega (arith, c.type_inv.bytes i)) (c.read_segment.ensures.bad c.in-Err-Bad.field-0-0 (c.in-Err-Bad.is ∙ ap Err c.in-Err-Bad.field-0-is)))
