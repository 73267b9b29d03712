use Rattle.driver_laws.proofs.Steps.{few_steps}
use Rattle.driver_laws.proofs.calls_are_few.Goals as goal

pub returns : goal.returns
returns c = few_steps
