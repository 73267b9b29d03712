use Rattle.std.proofs.Common.{ap, sym, subst, ◌∙◌, ◌<◌, ◌^◌, length}
use Rattle.turn_cell.proofs.CellSteps.{hands}
use Rattle.turn_cell.proofs.Readying.{ready}
use Rattle.turn_cell.proofs.cell_ends.LaneEnd.hand.Goals as goal

pub fetch_add-requires : goal.fetch_add-requires
fetch_add-requires g c =
    let i = c.self.invariant in
    let r = ready _ _ _ i.same i.words (ap (λ t. t.shared.table_id) c.deref.ensures) in
    let holds = ap (λ e. e.holds) c.self.view_is ∙ c.requires.holds in
    let room = subst (λ e. length e.handed < 2 ^ 62) (sym c.self.view_is) c.requires.bound in
    let fit = subst (λ t. g.V.Kept.keeps t.shared.key c.args.parcel) (sym c.deref.ensures) (subst (λ e. g.V.Kept.keeps e.key c.args.parcel) (sym c.self.view_is) c.requires.keeps) in
    (c.exchange.ensures.0 ∙ r.0, r.1, hands g.V.Kept.keeps g.V.Kept.returns _ _ _ c.self.inside.seat.me c.exchange.new.seat.me c.args.parcel i.role holds room fit c.exchange.ensures.3)
