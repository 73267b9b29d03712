-- Those before the index are complete.
use Rattle.std.proofs.Common.{◌≡◌, drop}
use Rattle.dcpid_core.specs.Flushes.{first_incomplete}
use Rattle.dcpid_core.proofs.rules.first_incomplete.Given as goal

abbrev pub invariant-loop-flush : goal.invariant-loop-flush
invariant-loop-flush l =
    (first_incomplete l.value l.cpu (drop l.flush-index l.flushes) ≡ first_incomplete l.value 0 l.flushes)
    × (l.cpu ≡ l.flush-index)
