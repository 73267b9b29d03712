use Rattle.trace_model.specs.Traces.{recording_of}
use Rattle.trace_laws.proofs.Keeping.{sizes_of}
use Rattle.trace_laws.proofs.kept.sizes_are_kept.Goals as goal

pub returns : goal.returns
returns c = sizes_of (recording_of c.args.trace.now) c.args.trace.now.good
