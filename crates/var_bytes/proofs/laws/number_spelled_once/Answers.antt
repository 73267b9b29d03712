use Rattle.var_bytes.proofs.NumberLaws.{one_front}
use Rattle.var_bytes.proofs.laws.number_spelled_once.Goals as goal

pub returns : goal.returns
returns c = one_front
