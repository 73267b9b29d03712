use Rattle.var_bytes.proofs.Writing.{spelled_both_ways}
use Rattle.var_bytes.proofs.laws.spelled_by_numbers.Goals as goal

pub returns : goal.returns
returns g c = spelled_both_ways
