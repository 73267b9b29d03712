use Rattle.report_text.proofs.csvs.put_unknown.Goals as goal

pub returns-then-procedures-clause-bytes : goal.returns-then-procedures-clause-bytes
returns-then-procedures-clause-bytes g c = rw c.if-procedures.true c.put_fields.ensures.bytes

pub returns-else-procedures-clause-bytes : goal.returns-else-procedures-clause-bytes
returns-else-procedures-clause-bytes g c = rw c.if-procedures.false c.put_fields-else-procedures.ensures.bytes
