use Rattle.std.proofs.Common.{◌≡◌, take}
use Rattle.trace_cut.proofs.streams.cut.Given as goal

abbrev pub invariant-loop-line : goal.invariant-loop-line
invariant-loop-line l = l.cutter ≡ record { lines = take l.line-index l.line-items; cpus = l.trace.cpus }
