-- The rows so far, and those that are left.
use Rattle.std.proofs.Common.{◌≡◌, ◌++◌, drop}
use Rattle.epoch_store.proofs.rows.put_rest.Given as goal

abbrev pub invariant-loop-i : goal.invariant-loop-i
invariant-loop-i g l = l.after.items ++ drop l.i l.rows ≡ l.fn.after.items ++ drop l.fn.at l.rows
