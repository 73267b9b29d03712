use Rattle.std.proofs.Common.{rules, ap}
use Rattle.turn_cell.proofs.CellSteps.{parts}
use Rattle.turn_cell.proofs.cell_ends.TurnCell.new.Goals as goal

pub split_seat-theirs-requires : goal.split_seat-theirs-requires
split_seat-theirs-requires g c = (search rules, search rules, parts g.V.Kept.keeps g.V.Kept.returns _ _ _ (ap (λ m. m.0.role) c.in_ok-table.ensures.3))
