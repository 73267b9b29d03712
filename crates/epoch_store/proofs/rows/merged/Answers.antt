-- One changed row more was put.
use Rattle.std.proofs.Common.{◌≡◌, ◌+◌, ◌++◌, true, List, drop, ◌∙◌, sym, ap, subst}
use Rattle.database_state.specs.Rows.{is_rising}
use Rattle.epoch_store.specs.Orders.{with_rows}
use Rattle.epoch_store.proofs.Inserting.{rest_at}
use Rattle.epoch_store.proofs.Merging.{rises_from}
use Rattle.epoch_store.proofs.rows.merged.Goals as goal

pub loop-row-preserved : goal.loop-row-preserved
loop-row-preserved g c =
    let changed = c.args.changed.now in
    let i = c.loop-row.row-index in
    let rest = rest_at changed i c.row-item.result c.loop-row-test.true c.row-item.is in
    let rising = subst (λ (l : List g.row.R.Denot). is_rising g.R.Placed.before l ≡ true) rest (rises_from g.R.Placed.before changed i c.requires.each) in
    record {
      within = c.in_ok-at.ensures.within;
      rows =
          c.in_ok-at.ensures.rows (drop (i + 1) changed) rising
          ∙ ap (λ (l : List g.row.R.Denot). c.loop-row.after.items ++ with_rows g.R.Placed.before g.R.Placed.same (drop c.loop-row.at c.args.rows.now) l) (sym rest)
          ∙ c.loop-row.invariant.rows;
    }
