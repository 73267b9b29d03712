-- the daemon knows its sides and has kept the store since the first round; the lanes are what they were
use Rattle.std.proofs.Common.{◌≡◌, List, map}
use Rattle.lane_threads.specs.Pairs.{Pairwise}
use Rattle.lane_threads.specs.Promising.{Runs}
use Rattle.lane_threads.specs.Working.{Working}
use Rattle.daemon_rounds.specs.Sides.{AreIdle}
use Rattle.daemon_rounds.specs.Storing.{StopsEarly}
use Rattle.run_drive.specs.Running.{plain_sides}
use Rattle.run_drive.proofs.Driving.{GoesSince}
use Rattle.run_drive.proofs.going.drive.Given as goal

abbrev pub invariant-loop : goal.invariant-loop
invariant-loop g l = record {
  can_next : (goal.iterator-loop g).can_next l.iterator';
  finite : (goal.iterator-loop g).is_finite l.iterator';
  since : GoesSince g.D.Store.files g.D.Store.faults g.D.Store.moment g.D.Store.left_since l.fn.daemon l.fn.sides.items l.fn.store l.daemon l.sides.items l.store;
  early : StopsEarly l.fn.daemon → StopsEarly l.daemon;
  idle : AreIdle (plain_sides l.sides.items);
  runners : (works : List Working) → Pairwise Runs works l.fn.runners.items → Pairwise Runs works l.runners.items;
  fixed : map (λ side. side.fixed) l.sides.items ≡ map (λ side. side.fixed) l.fn.sides.items;
  origin : g.D.Store.origin l.store ≡ g.D.Store.origin l.fn.store;
}
