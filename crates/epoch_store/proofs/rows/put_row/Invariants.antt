-- The rows before this one so far.
use Rattle.std.proofs.Common.{◌≡◌, ◌≤◌, ◌-◌, ◌++◌, ◌∷◌, true, List, drop, length}
use Rattle.database_state.specs.Rows.{is_rising}
use Rattle.epoch_store.specs.Orders.{with_rows}
use Rattle.epoch_store.proofs.rows.put_row.Given as goal

abbrev pub invariant-loop-at : goal.invariant-loop-at
invariant-loop-at g l =
    record {
      within : l.at ≤ length l.rows;
      rows : (more : List g.row.R.Denot) → is_rising g.R.Placed.before (l.row ∷ more) ≡ true → l.after.items ++ with_rows g.R.Placed.before g.R.Placed.same (drop l.at l.rows) (l.row ∷ more) ≡ l.fn.after.items ++ with_rows g.R.Placed.before g.R.Placed.same (drop l.fn.at l.rows) (l.row ∷ more);
    }

abbrev pub decreases-loop-at : goal.decreases-loop-at
decreases-loop-at g l = length l.rows - l.at
