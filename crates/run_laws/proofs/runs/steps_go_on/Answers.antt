use Rattle.run_laws.proofs.Growing.{steps_extend, parts_stand}
use Rattle.run_laws.proofs.runs.steps_go_on.Goals as goal

pub returns-clause-extend : goal.returns-clause-extend
returns-clause-extend c = steps_extend

pub returns-clause-parts : goal.returns-clause-parts
returns-clause-parts c = parts_stand
