-- The lanes so far, and those to come, are all the lanes.
use Rattle.std.proofs.Common.{◌≡◌, ◌++◌, map}
use Rattle.cpu_lane.specs.Seen.{Seen}
use Rattle.replay_drive.proofs.endings.ended_lanes.Given as goal

abbrev pub invariant-loop-lane : goal.invariant-loop-lane
invariant-loop-lane l = record {
  losses : map (λ v. v.items) l.losses.items ++ map (λ (w : Seen). w.driver.losses) l.lane-iterator.rest.items ≡ map (λ (w : Seen). w.driver.losses) l.fn.lanes.items;
  stats : l.stats.items ++ map (λ (w : Seen). w.driver.stats) l.lane-iterator.rest.items ≡ map (λ (w : Seen). w.driver.stats) l.fn.lanes.items;
}
