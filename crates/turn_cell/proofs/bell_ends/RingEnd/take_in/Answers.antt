use Rattle.std.proofs.Common.{ap, sym, ◌∙◌}
use Rattle.turn_cell.proofs.BellSteps.{takes_in}
use Rattle.turn_cell.proofs.Readying.{ready}
use Rattle.turn_cell.proofs.bell_ends.RingEnd.take_in.Goals as goal

pub join_seat-requires : goal.join_seat-requires
join_seat-requires c =
    let r = ready _ _ _ c.self.invariant.same c.self.invariant.words (ap (λ t. t.shared.table_id) c.deref.ensures) in
    let theirs = ap (λ n. n.bell) c.note.view_is ∙ (c.requires ∙ sym (ap (λ e. e.bell) c.self.view_is)) in
    (r.0, theirs ∙ r.0, c.note.invariant, r.1, takes_in _ _ _ _)
