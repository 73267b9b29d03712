use Rattle.dcpid_core.proofs.Counted.{counts}
use Rattle.dcpid_core.proofs.laws.counts_agree.Goals as goal

pub returns : goal.returns
returns c = counts
