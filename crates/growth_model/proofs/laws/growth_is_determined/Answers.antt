use Rattle.growth_model.proofs.Determined.{one_part, first_parts}
use Rattle.growth_model.proofs.laws.growth_is_determined.Goals as goal

pub returns-clause-part : goal.returns-clause-part
returns-clause-part c = one_part

pub returns-clause-parts : goal.returns-clause-parts
returns-clause-parts c = first_parts
