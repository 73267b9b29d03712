use Rattle.var_bytes.proofs.FormLaws.{one_place}
use Rattle.var_bytes.proofs.laws.one_bad_place.Goals as goal

pub returns : goal.returns
returns g c = one_place
