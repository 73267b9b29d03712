use Rattle.std.proofs.Common.{◌≡◌}
use Rattle.driver_tests.proofs.tests.all_take.Given as goal

abbrev pub invariant-loop : goal.invariant-loop
invariant-loop l =
    record {
      requests : l.play.requests ≡ l.fn.play.requests;
      rungs : l.play.side.far.rungs ≡ l.fn.play.side.far.rungs;
    }
