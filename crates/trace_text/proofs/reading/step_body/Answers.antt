use Rattle.trace_text.proofs.reading.step_body.Goals as goal

pub returns-then-branch-clause-taken : goal.returns-then-branch-clause-taken
returns-then-branch-clause-taken g c = (rw c.if-branch.true at c.in_ok-take_whole_sample.ensures).0 (g.S.Source.left c.args.source.now)
