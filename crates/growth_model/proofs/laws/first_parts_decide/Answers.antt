use Rattle.growth_model.proofs.Alike.{grown_alike}
use Rattle.growth_model.proofs.laws.first_parts_decide.Goals as goal

pub returns : goal.returns
returns c = grown_alike
