use Rattle.std.proofs.Common.{refl, ap, ◌∙◌}
use Rattle.turn_cell.specs.Handoff.{out_with}
use Rattle.turn_cell.proofs.CellSteps.{looks}
use Rattle.turn_cell.proofs.Readying.{ready}
use Rattle.turn_cell.proofs.cell_ends.load_by_lane.Goals as goal

pub load-requires : goal.load-requires
load-requires g c =
    let i = c.requires.seat in
    let r = ready _ _ _ i.same i.words refl in
    (r.0, r.1, looks g.V.Kept.keeps g.V.Kept.returns _ _ _ _ _ i.role c.requires.free (i.out ∙ ap (λ b. out_with b) c.requires.free))
