use Rattle.std.proofs.Common.{ap}
use Rattle.turn_cell.proofs.BellSteps.{notes}
use Rattle.turn_cell.proofs.Readying.{ready}
use Rattle.turn_cell.proofs.bell_ends.HearEnd.note.Goals as goal

pub split_seat-requires : goal.split_seat-requires
split_seat-requires c = let r = ready _ _ _ c.self.invariant.same c.self.invariant.words (ap (λ t. t.shared.table_id) c.deref.ensures) in (r.0, r.1, notes _ _)
