use Rattle.driver_laws.proofs.Closing.{done_is_closed, closed_is_at_rest}
use Rattle.driver_laws.proofs.closes_are_answered.Goals as goal

pub returns-clause-done : goal.returns-clause-done
returns-clause-done c = done_is_closed

pub returns-clause-rest : goal.returns-clause-rest
returns-clause-rest c = closed_is_at_rest
