use Rattle.run_exact.proofs.Plainly.{exact_plain}
use Rattle.run_exact.proofs.exact_runs_are_plain.Goals as goal

pub returns : goal.returns
returns c = exact_plain
