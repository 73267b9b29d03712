-- What was put, with what is left, makes what the rows and the changed rows make.
use Rattle.std.proofs.Common.{◌≡◌, ◌≤◌, ◌++◌, drop, length}
use Rattle.epoch_store.specs.Orders.{with_rows}
use Rattle.epoch_store.proofs.rows.merged.Given as goal

abbrev pub invariant-loop-row : goal.invariant-loop-row
invariant-loop-row g l =
    record {
      within : l.at ≤ length l.rows;
      rows : l.after.items ++ with_rows g.R.Placed.before g.R.Placed.same (drop l.at l.rows) (drop l.row-index l.changed) ≡ with_rows g.R.Placed.before g.R.Placed.same l.rows l.changed;
    }
