use Rattle.growth_laws.proofs.Adding.{adds_plainly}
use Rattle.growth_laws.proofs.plain_records_add_plainly.Goals as goal

pub returns : goal.returns
returns c = adds_plainly
