use Rattle.driver_laws.proofs.Progress.{turn_goes_on, turn_gets_on}
use Rattle.driver_laws.proofs.turns_go_on.Goals as goal

pub returns-clause-later : goal.returns-clause-later
returns-clause-later c = turn_goes_on

pub returns-clause-gets_on : goal.returns-clause-gets_on
returns-clause-gets_on c = turn_gets_on
