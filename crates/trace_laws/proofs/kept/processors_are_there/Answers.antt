use Rattle.trace_model.specs.Traces.{recording_of}
use Rattle.trace_laws.proofs.Keeping.{processors_of}
use Rattle.trace_laws.proofs.kept.processors_are_there.Goals as goal

pub returns : goal.returns
returns c = processors_of (recording_of c.args.trace.now) c.args.trace.now.good
