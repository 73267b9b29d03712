use Rattle.std.proofs.Common.{◌≡◌, length}
use Rattle.driver_play.specs.Plays.{HaveMark}
use Rattle.driver_tests.proofs.tests.samples.Given as goal

abbrev pub invariant-loop-i : goal.invariant-loop-i
invariant-loop-i l =
    record {
      count : length l.samples.items ≡ l.i;
      marks : HaveMark l.row.mark l.samples.items;
    }
