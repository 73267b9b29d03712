use Rattle.run_closes.proofs.Timely.{timely}
use Rattle.run_closes.proofs.closes.polls_are_timely.Goals as goal

pub returns : goal.returns
returns c = timely c.bell_is_known.ensures
