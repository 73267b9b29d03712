use Rattle.std.proofs.Common.{arith}
use Rattle.var_bytes.proofs.Answering.{is_found, is_only, is_bad, is_refused}
use Rattle.database_model.specs.SegmentForm.{segment}
use Rattle.run_record.proofs.SegmentLaws.{by_form, is_in_range}
use Rattle.run_record.proofs.reading.read_segment.Goals as goal

pub returns-clause-found : goal.returns-clause-found
returns-clause-found c = is_found segment c.args.bytes.now c.whole_segment.result (λ i. omega (arith, c.type_inv.bytes i)) (by_form c.args.bytes.now c.whole_segment.result c.whole_segment.ensures)

pub returns-clause-only : goal.returns-clause-only
returns-clause-only c = is_only segment c.args.bytes.now c.whole_segment.result (by_form c.args.bytes.now c.whole_segment.result c.whole_segment.ensures)

pub returns-clause-bad : goal.returns-clause-bad
returns-clause-bad c = is_bad segment c.args.bytes.now c.whole_segment.result (λ i. omega (arith, c.type_inv.bytes i)) (by_form c.args.bytes.now c.whole_segment.result c.whole_segment.ensures)

pub returns-clause-refused : goal.returns-clause-refused
returns-clause-refused c = is_refused segment c.args.bytes.now c.whole_segment.result (λ i. omega (arith, c.type_inv.bytes i)) (by_form c.args.bytes.now c.whole_segment.result c.whole_segment.ensures)

pub returns-clause-ranges : goal.returns-clause-ranges
returns-clause-ranges c = is_in_range c.args.bytes.now c.whole_segment.result (λ i. omega (arith, c.type_inv.bytes i)) c.whole_segment.ensures
