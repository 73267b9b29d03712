use Rattle.dcpid_core.proofs.Rungs.{fit_on}
use Rattle.dcpid_core.proofs.laws.sides_fit_on.Goals as goal

pub returns : goal.returns
returns c = fit_on
