use Rattle.trace_model.specs.Traces.{recording_of}
use Rattle.trace_cut.proofs.Bounding.{is_stream}
use Rattle.trace_cut.proofs.laws.streams_are_in_order.Goals as goal

pub returns-clause-samples : goal.returns-clause-samples
returns-clause-samples c = is_stream (recording_of c.args.trace.now) c.limits_are_kept.ensures
