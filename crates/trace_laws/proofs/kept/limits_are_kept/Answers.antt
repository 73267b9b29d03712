use Rattle.trace_model.specs.Traces.{recording_of}
use Rattle.trace_laws.proofs.Keeping.{limits_of}
use Rattle.trace_laws.proofs.kept.limits_are_kept.Goals as goal

pub returns : goal.returns
returns c = limits_of (recording_of c.args.trace.now) c.args.trace.now.good
