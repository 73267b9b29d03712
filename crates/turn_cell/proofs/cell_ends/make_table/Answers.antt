use Rattle.std.proofs.Common.{ap, sym, subst, ◌∙◌, ◌++◌, ◌∷◌, []}
use Rattle.atomic_table.specs.Table.{opening}
use Rattle.turn_cell.specs.declared.cell_view.InSlot.TheVariants.{Resting}
use Rattle.turn_cell.specs.Handoff.{TakesTurns, first_view}
use Rattle.turn_cell.proofs.CellSteps.{opens}
use Rattle.turn_cell.proofs.cell_ends.make_table.Goals as goal

pub new-requires : goal.new-requires
new-requires g c =
    let keeps = g.V.Kept.keeps in
    let returns = g.V.Kept.returns in
    let one = c.push_reserved.ensures.items ∙ ap (λ l. l ++ Resting c.args.value ∷ []) c.in_ok-slots.ensures.items in
    subst (λ items. TakesTurns keeps returns c.args.key.now (opening (0 ∷ []) items (first_view c.args.key.now))) (sym one) (opens keeps returns c.args.key.now c.args.value c.requires)
