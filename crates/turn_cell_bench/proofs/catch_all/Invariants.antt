use Rattle.std.proofs.Common.{◌≡◌, ◌≤◌, false}
use Rattle.turn_cell_bench.proofs.catch_all.Given as goal

abbrev pub invariant-tries : goal.invariant-tries
invariant-tries l = record { free : l.daemon.holds ≡ false; most : l.taken ≤ l.count }
