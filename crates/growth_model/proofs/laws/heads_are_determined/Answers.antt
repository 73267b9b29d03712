use Rattle.growth_model.proofs.HeadRows.{one_head, first_heads}
use Rattle.growth_model.proofs.laws.heads_are_determined.Goals as goal

pub returns-clause-part : goal.returns-clause-part
returns-clause-part c = one_head

pub returns-clause-parts : goal.returns-clause-parts
returns-clause-parts c = first_heads
