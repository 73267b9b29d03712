use Rattle.growth_laws.proofs.WholeRun.{whole_run}
use Rattle.growth_laws.proofs.runs_add_all_drains.Goals as goal

pub returns : goal.returns
returns c = whole_run
