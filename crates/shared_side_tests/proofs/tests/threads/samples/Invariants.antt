use Rattle.std.proofs.Common.{◌≡◌, length}
use Rattle.driver_play.specs.Plays.{HaveMark}
use Rattle.shared_side_tests.proofs.tests.threads.samples.Given as goal

abbrev pub invariant-loop-i : goal.invariant-loop-i
invariant-loop-i l =
    record {
      count : length l.samples.items ≡ l.i;
      marks : HaveMark 0 l.samples.items;
    }
