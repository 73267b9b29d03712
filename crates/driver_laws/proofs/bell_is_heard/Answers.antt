use Rattle.driver_laws.proofs.Lefts.{hears_turn}
use Rattle.driver_laws.proofs.bell_is_heard.Goals as goal

pub returns : goal.returns
returns c = hears_turn
