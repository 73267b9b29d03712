-- each lane that came so far has ended, and there is a place for each that is left
use Rattle.std.proofs.Common.{◌≤◌, ◌+◌, length}
use Rattle.std.specs.Prelude.{vec_capacity}
use Rattle.std.specs.Vec.Iter.{into_iter_items}
use Rattle.lane_threads.specs.Pairs.{Pairwise}
use Rattle.lane_threads.proofs.Keeping.{EndsAs}
use Rattle.lane_threads.proofs.runners.end_all.Given as goal

abbrev pub invariant-loop-runner : goal.invariant-loop-runner
invariant-loop-runner g l = record {
  ended : Pairwise EndsAs l.yielded l.ended.items;
  room : length l.ended.items + length (into_iter_items l.runner-iterator) ≤ vec_capacity l.ended;
}
