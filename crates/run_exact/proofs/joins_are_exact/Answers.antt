use Rattle.run_exact.proofs.Plainly.{joined_exact}
use Rattle.run_exact.proofs.joins_are_exact.Goals as goal

pub returns : goal.returns
returns c = joined_exact
