use Rattle.growth_laws.proofs.Adding.{adds_drained}
use Rattle.growth_laws.proofs.drains_add_what_they_count.Goals as goal

pub returns : goal.returns
returns c = adds_drained
