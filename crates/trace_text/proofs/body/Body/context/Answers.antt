use Rattle.std.proofs.Common.{ap, ◌∙◌}
use Rattle.trace_text.specs.Faults.{sample_fault}
use Rattle.trace_text.proofs.BodySteps.{by_line}
use Rattle.trace_text.proofs.body.Body.context.Goals as goal

pub returns-in-Sample : goal.returns-in-Sample
returns-in-Sample c = by_line c.args.self.now c.args.values.now _ _ c.in-Sample.is (c.against_sample.ensures ∙ ap (λ n. sample_fault c.args.self.now.sizes.cpus n c.in-Sample.sample.cpu) c.requires.tracks.samples_are)
