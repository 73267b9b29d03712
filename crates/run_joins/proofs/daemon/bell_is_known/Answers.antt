use Rattle.run_joins.proofs.Knowing.{bell_known}
use Rattle.run_joins.proofs.daemon.bell_is_known.Goals as goal

pub returns : goal.returns
returns c = bell_known
