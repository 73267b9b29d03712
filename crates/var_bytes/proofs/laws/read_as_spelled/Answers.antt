use Rattle.var_bytes.proofs.FormLaws.{reads_ok, reads_again, reads_follow}
use Rattle.var_bytes.proofs.laws.read_as_spelled.Goals as goal

pub returns-clause-spelled : goal.returns-clause-spelled
returns-clause-spelled g c = λ form bytes v fits. (reads_ok form bytes v fits, reads_again form bytes v)

pub returns-clause-numbers : goal.returns-clause-numbers
returns-clause-numbers g c = reads_follow
