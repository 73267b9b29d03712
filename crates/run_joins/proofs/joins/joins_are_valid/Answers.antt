use Rattle.run_joins.proofs.Joining.{joined_share, joined_run}
use Rattle.run_joins.proofs.joins.joins_are_valid.Goals as goal

pub returns-clause-one : goal.returns-clause-one
returns-clause-one c = joined_share

pub returns-clause-all : goal.returns-clause-all
returns-clause-all c = joined_run
