-- the end is free, and its cell is the one that came
use Rattle.std.proofs.Common.{◌≡◌, false}
use Rattle.lane_threads.proofs.threads.receive.Given as goal

abbrev pub invariant-loop : goal.invariant-loop
invariant-loop g l =
    (goal.iterator-loop g).can_next l.iterator' × (goal.iterator-loop g).is_finite l.iterator' × (l.start.holds ≡ false) × (l.start.key ≡ l.fn.start.key)
