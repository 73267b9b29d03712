use Rattle.std.proofs.Common.{◌≡◌}
use Rattle.driver_model.specs.Handover.{rung_of}
use Rattle.driver_tests.proofs.tests.first_wrong.Given as goal

abbrev pub invariant-loop-i : goal.invariant-loop-i
invariant-loop-i l =
    record {
      two : l.play.requests ≡ 2;
      rung : rung_of l.play.side.far.rungs ≡ l.rung;
    }
