use Rattle.dcpid_core.proofs.Counted.{runs_advance}
use Rattle.dcpid_core.proofs.laws.advances_are_the_runs.Goals as goal

pub returns : goal.returns
returns c = runs_advance
