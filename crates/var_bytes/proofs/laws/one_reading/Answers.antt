use Rattle.var_bytes.proofs.FormLaws.{one_value}
use Rattle.var_bytes.proofs.laws.one_reading.Goals as goal

pub returns : goal.returns
returns g c = one_value
