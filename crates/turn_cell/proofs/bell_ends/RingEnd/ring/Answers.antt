use Rattle.std.proofs.Common.{ap, sym, subst, ◌≤◌}
use Rattle.turn_cell.specs.Doorbell.{last_rung}
use Rattle.turn_cell.proofs.BellSteps.{rings}
use Rattle.turn_cell.proofs.Readying.{ready}
use Rattle.turn_cell.proofs.bell_ends.RingEnd.ring.Goals as goal

pub store-requires : goal.store-requires
store-requires c =
    let r = ready _ _ _ c.self.invariant.same c.self.invariant.words (ap (λ t. t.shared.table_id) c.deref.ensures) in
    let above = subst (λ e. last_rung e.rungs ≤ c.args.value) (sym c.self.view_is) c.requires.rising in
    (r.0, r.1, rings _ _ _ _ c.self.invariant.rings_is above c.requires.bound)
