use Rattle.growth_model.proofs.Sums.{drains_add}
use Rattle.growth_model.proofs.laws.drains_add_up.Goals as goal

pub returns : goal.returns
returns c = drains_add
