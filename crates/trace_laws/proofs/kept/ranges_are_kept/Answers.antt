use Rattle.trace_model.specs.Traces.{recording_of}
use Rattle.trace_laws.proofs.Keeping.{ranges_of}
use Rattle.trace_laws.proofs.kept.ranges_are_kept.Goals as goal

pub returns : goal.returns
returns c = ranges_of (recording_of c.args.trace.now) c.args.trace.now.good
