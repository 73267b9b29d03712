-- the cells of those that came so far are closed, and the others are still ends of one
use Rattle.std.proofs.Common.{◌≡◌, ◌≤◌, ◌+◌, ◌++◌, List, length, map}
use Rattle.std.specs.Prelude.{vec_capacity}
use Rattle.std.specs.Vec.Iter.{into_iter_items}
use Rattle.shared_side.specs.Shown.{Shown}
use Rattle.lane_threads.specs.Pairs.{Pairwise}
use Rattle.lane_threads.specs.Starting.{AreEndsOfOne, WereClosed}
use Rattle.lane_threads.proofs.closing.close_all.Given as goal

abbrev pub invariant-loop-work : goal.invariant-loop-work
invariant-loop-work l = record {
  ends : Pairwise AreEndsOfOne (into_iter_items l.work-iterator) (into_iter_items l.sides);
  closed : (done : List Shown) × (l.fn.sides.items ≡ done ++ into_iter_items l.sides) × Pairwise WereClosed l.yielded done;
  losses : map (λ v. v.items) l.ended.losses.items ≡ map (λ w. w.lane.driver.losses) l.yielded;
  stats : l.ended.stats.items ≡ map (λ w. w.lane.driver.stats) l.yielded;
  loss_room : length l.ended.losses.items + length (into_iter_items l.work-iterator) ≤ vec_capacity l.ended.losses;
  stats_room : length l.ended.stats.items + length (into_iter_items l.work-iterator) ≤ vec_capacity l.ended.stats;
}
