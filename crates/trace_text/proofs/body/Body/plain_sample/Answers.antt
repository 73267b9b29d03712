use Rattle.trace_text.proofs.BodySteps.{sample_judged}
use Rattle.trace_text.proofs.body.Body.plain_sample.Goals as goal

pub returns-in-None : goal.returns-in-None
returns-in-None c = sample_judged c.args.self.now c.args.line.now c.in_ok-sample.sample c.requires c.in_ok-sample.ensures c.if-sample-ne0.false c.in-None.ensures
