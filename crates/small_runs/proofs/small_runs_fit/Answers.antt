use Rattle.small_runs.proofs.Fits.{fits}
use Rattle.small_runs.proofs.small_runs_fit.Goals as goal

pub returns : goal.returns
returns c = λ images records kept small. fits images records kept small
