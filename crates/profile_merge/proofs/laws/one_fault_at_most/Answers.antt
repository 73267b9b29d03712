use Rattle.profile_merge.proofs.FirstWrong.{one_fault}
use Rattle.profile_merge.proofs.laws.one_fault_at_most.Goals as goal

pub returns : goal.returns
returns c = one_fault
