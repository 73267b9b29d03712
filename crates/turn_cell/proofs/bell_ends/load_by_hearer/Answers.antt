use Rattle.std.proofs.Common.{refl}
use Rattle.turn_cell.proofs.BellSteps.{hears}
use Rattle.turn_cell.proofs.Readying.{ready}
use Rattle.turn_cell.proofs.bell_ends.load_by_hearer.Goals as goal

pub load-requires : goal.load-requires
load-requires c = let r = ready _ _ _ c.requires.same c.requires.words refl in (r.0, r.1, hears _ _ _)
