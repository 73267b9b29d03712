-- The rows so far are copied.
use Rattle.std.proofs.Common.{◌≡◌, ◌++◌, drop}
use Rattle.profile_merge.proofs.merging.copy_rest.Given as goal

abbrev pub invariant-loop-i : goal.invariant-loop-i
invariant-loop-i l = l.out ++ drop l.i l.rows ≡ l.fn.out ++ drop l.fn.at l.rows
