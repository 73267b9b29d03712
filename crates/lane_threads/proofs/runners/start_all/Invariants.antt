-- each work that came so far is started, and there is a place for each that is left
use Rattle.std.proofs.Common.{◌≤◌, ◌+◌, length}
use Rattle.std.specs.Prelude.{vec_capacity}
use Rattle.std.specs.Vec.Iter.{into_iter_items}
use Rattle.lane_threads.specs.Pairs.{Pairwise}
use Rattle.lane_threads.proofs.Keeping.{StartsAs}
use Rattle.lane_threads.proofs.runners.start_all.Given as goal

abbrev pub invariant-loop-waiting : goal.invariant-loop-waiting
invariant-loop-waiting g l = record {
  runs : Pairwise StartsAs l.yielded l.runners.items;
  room : length l.runners.items + length (into_iter_items l.waiting-iterator) ≤ vec_capacity l.runners;
}
