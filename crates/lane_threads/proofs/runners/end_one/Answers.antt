-- A lane that stayed here ends as the one that was started.
use Rattle.lane_threads.proofs.Turns.{ended_here}
use Rattle.lane_threads.proofs.runners.end_one.Goals as goal

pub returns-in-Here : goal.returns-in-Here
returns-in-Here g c = λ first runs. ended_here first c.in-Here.work c.take_turns.result c.args.runner c.in-Here.is c.take_turns.ensures runs
