use Rattle.run_closes.proofs.Closing.{all_is_taken, closed_are_joined, fronts_are_first}
use Rattle.run_closes.proofs.closes.closes_are_joined.Goals as goal

pub returns-clause-taken : goal.returns-clause-taken
returns-clause-taken c = all_is_taken

pub returns-clause-joined : goal.returns-clause-joined
returns-clause-joined c = closed_are_joined

pub returns-clause-front : goal.returns-clause-front
returns-clause-front c = fronts_are_first
