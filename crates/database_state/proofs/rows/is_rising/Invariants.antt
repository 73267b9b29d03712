-- Whether the rows rise depends on those from the last one seen on.
use Rattle.std.proofs.Common.{◌≡◌, ◌-◌, drop}
use Rattle.database_state.specs.Rows.{is_rising}
use Rattle.database_state.proofs.rows.is_rising.Given as goal

abbrev pub invariant-loop-i : goal.invariant-loop-i
invariant-loop-i g l = is_rising g.R.Placed.before (drop (l.i - 1) l.rows) ≡ is_rising g.R.Placed.before l.rows
