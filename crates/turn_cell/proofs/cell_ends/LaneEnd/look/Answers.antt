use Rattle.std.proofs.Common.{ap, ◌∙◌}
use Rattle.turn_cell.proofs.CellSteps.{taken_out}
use Rattle.turn_cell.proofs.Readying.{ready}
use Rattle.turn_cell.proofs.cell_ends.LaneEnd.look.Goals as goal

pub exchange-requires : goal.exchange-requires
exchange-requires g c =
    let i = c.self.invariant in
    let r = ready _ _ _ i.same i.words (ap (λ t. t.shared.table_id) c.deref.ensures) in
    (c.load_by_lane-word.ensures.same ∙ r.0, taken_out g.V.Kept.keeps g.V.Kept.returns c.self.inside.seat.me c.load_by_lane-word.new.seat.me c.load_by_lane-word.result c.load_by_lane-word.ensures.step c.if-word-eq1.false)
