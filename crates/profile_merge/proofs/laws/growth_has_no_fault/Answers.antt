use Rattle.profile_merge.proofs.NoFault.{growth_without_fault}
use Rattle.profile_merge.proofs.laws.growth_has_no_fault.Goals as goal

pub returns : goal.returns
returns c = growth_without_fault
