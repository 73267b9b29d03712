use Rattle.std.proofs.Common.{◌≡◌, []}
use Rattle.trace_cut.specs.Cutting.{lanes_in, streams_from}
use Rattle.trace_cut.proofs.streams.no_samples.Given as goal

abbrev pub invariant-loop : goal.invariant-loop
invariant-loop l = lanes_in l.lanes.items ≡ streams_from l.counter []
