use Rattle.std.proofs.Common.{ap, sym, subst, ◌∙◌}
use Rattle.turn_cell.specs.Parcels.{last_of}
use Rattle.turn_cell.proofs.CellSteps.{gives_back}
use Rattle.turn_cell.proofs.Readying.{ready}
use Rattle.turn_cell.proofs.cell_ends.DaemonEnd.give_back.Goals as goal

pub fetch_add-requires : goal.fetch_add-requires
fetch_add-requires g c =
    let i = c.self.invariant in
    let r = ready _ _ _ i.same i.words (ap (λ t. t.shared.table_id) c.deref.ensures) in
    let holds = ap (λ e. e.holds) c.self.view_is ∙ c.requires.holds in
    let told = subst (λ e. g.V.Kept.returns e.key (last_of e.taken) c.args.value) (sym c.self.view_is) c.requires.returns in
    let fit = subst (λ t. g.V.Kept.returns t.shared.key (last_of c.self.inside.seat.me.0.taken) c.args.value) (sym c.deref.ensures) told in
    (c.exchange.ensures.0 ∙ r.0, r.1, gives_back g.V.Kept.keeps g.V.Kept.returns _ _ _ c.self.inside.seat.me c.exchange.new.seat.me c.args.value i.role holds fit c.exchange.ensures.3)
