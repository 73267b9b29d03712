use Rattle.run_joins.proofs.Joining.{cut_share, cut_run}
use Rattle.run_joins.proofs.joins.cuts_are_valid.Goals as goal

pub returns-clause-one : goal.returns-clause-one
returns-clause-one c = cut_share

pub returns-clause-all : goal.returns-clause-all
returns-clause-all c = cut_run
