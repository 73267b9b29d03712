use Rattle.turn_cell.proofs.SoundCells.{sound}
use Rattle.turn_cell.proofs.laws.cells_stay_sound.Goals as goal

pub returns : goal.returns
returns g c = λ k s turns. sound g.V.Kept.keeps g.V.Kept.returns k s turns
