-- the lanes before the index were stepped, and the others are as they were
use Rattle.std.proofs.Common.{◌≡◌, length}
use Rattle.lane_threads.proofs.Turns.{AreStepped}
use Rattle.lane_threads.proofs.runners.step_here.Given as goal

abbrev pub invariant-loop-i : goal.invariant-loop-i
invariant-loop-i l = record {
  steps : AreStepped l.i l.fn.runners.items l.runners.items;
  count : l.i-end ≡ length l.fn.runners.items;
  many : length l.runners.items ≡ length l.fn.runners.items;
}
