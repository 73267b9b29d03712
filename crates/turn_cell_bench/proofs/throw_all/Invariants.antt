use Rattle.std.proofs.Common.{◌≡◌, ◌≤◌, length, false}
use Rattle.turn_cell_bench.proofs.throw_all.Given as goal

abbrev pub invariant-tries : goal.invariant-tries
invariant-tries l = record { free : l.lane.holds ≡ false; size : length l.lane.handed ≡ l.handed; most : l.handed ≤ l.count }
