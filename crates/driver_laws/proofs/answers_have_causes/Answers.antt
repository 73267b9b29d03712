use Rattle.driver_laws.proofs.Reasons.{cause_turn}
use Rattle.driver_laws.proofs.answers_have_causes.Goals as goal

pub returns : goal.returns
returns c = cause_turn
