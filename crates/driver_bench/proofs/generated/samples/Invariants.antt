use Rattle.std.proofs.Common.{◌≡◌, length}
use Rattle.driver_play.specs.Plays.{HaveMark}
use Rattle.driver_bench.proofs.generated.samples.Given as goal

abbrev pub invariant-loop : goal.invariant-loop
invariant-loop l =
    record {
      count : length l.samples.items ≡ l.counter;
      marks : HaveMark 0 l.samples.items;
    }
