use Rattle.std.proofs.Common.{◌≡◌, drop}
use Rattle.trace_model.specs.Counting.{spots_in}
use Rattle.trace_model.specs.Traces.{recording_of}
use Rattle.direct_counts.specs.Walks.{IsWalk}
use Rattle.direct_counts.proofs.counting.counted.Given as goal

-- the walk goes on behind the lines that it took
abbrev pub invariant-loop-line : goal.invariant-loop-line
invariant-loop-line l = record {
  ranking : l.walk.ranking.now ≡ l.ranking;
  goes_on : IsWalk l.trace.images.items l.walk (spots_in (recording_of l.trace) 0) (drop l.line-index l.line-items);
}
