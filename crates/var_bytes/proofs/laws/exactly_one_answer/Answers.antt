use Rattle.var_bytes.proofs.FormLaws.{one_answer, not_both}
use Rattle.var_bytes.proofs.laws.exactly_one_answer.Goals as goal

pub returns-clause-one : goal.returns-clause-one
returns-clause-one g c = one_answer

pub returns-clause-not_both : goal.returns-clause-not_both
returns-clause-not_both g c = not_both
