use Rattle.unscheduled_runs.proofs.Quiet.{lose_nothing}
use Rattle.unscheduled_runs.proofs.unscheduled_runs_lose_nothing.Goals as goal

pub returns : goal.returns
returns c = λ trace run first_epoch fit none. lose_nothing (record {
  start = c.invariant_is_kept.ensures.start;
  turn = c.invariant_is_kept.ensures.turn;
  polls = c.invariant_is_kept.ensures.polls;
  heard = c.bell_is_heard.ensures;
  did = c.turns_hand_batches.ensures;
}) trace first_epoch fit none
