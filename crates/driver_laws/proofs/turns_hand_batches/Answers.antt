use Rattle.driver_laws.proofs.Walks.{turn_did}
use Rattle.driver_laws.proofs.turns_hand_batches.Goals as goal

pub returns : goal.returns
returns c = turn_did
