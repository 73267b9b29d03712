use Rattle.var_bytes.proofs.FormLaws.{none_begins}
use Rattle.var_bytes.proofs.laws.none_begins_another.Goals as goal

pub returns : goal.returns
returns g c = none_begins
