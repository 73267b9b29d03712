use Rattle.std.proofs.Common.{◌≡◌, List, get_or, sym, ◌<◌, ◌+◌, length, ap, ◌∙◌, subst, vec_len, vec_capacity}
use Rattle.sample_key.specs.Counted.{Counted}
use Rattle.driver_model.specs.Table.{Table, entries_in}
use Rattle.assoc_table.proofs.Rows.{on_err, no_room}
use Rattle.assoc_table.proofs.tables.AssocTable.copy_rows.Goals as goal

pub returns-in_err-extend_from_slice-clause-full : goal.returns-in_err-extend_from_slice-clause-full
returns-in_err-extend_from_slice-clause-full c =
    let now = c.args.out.now in let out = c.loop-row.out in
    on_err c.from_residual.result
    (subst (λ (z : Table). vec_capacity now < vec_len now + length (entries_in z)) (ap (λ z. record { rows = z; turn = c.self.inside.victim }) c.deref-row-items.ensures.value ∙ c.self.view_is)
    (no_room c.deref-row-items.result.now c.loop-row.row-index c.entries.result.now (subst (λ (z : List Counted). z ≡ get_or c.deref-row-items.result.now c.loop-row.row-index z) (sym c.entries.ensures) c.row-item.is) c.loop-row-test.true out.items now.items (vec_capacity out) (vec_capacity now) (vec_len out) (vec_len now)
    out.ok.0 now.ok.0 c.loop-row.invariant.1 c.loop-row.invariant.0 c.in_err-extend_from_slice.ensures.full))
