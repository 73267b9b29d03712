-- the work is what it was, some turns later
use Rattle.lane_threads.specs.Working.{IsLater}
use Rattle.lane_threads.proofs.threads.take_turns.Given as goal

abbrev pub invariant-loop : goal.invariant-loop
invariant-loop g l =
    (goal.iterator-loop g).can_next l.iterator' × (goal.iterator-loop g).is_finite l.iterator' × IsLater l.fn.work l.work
