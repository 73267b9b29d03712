use Rattle.run_rounds.proofs.Finishing.{run_ends}
use Rattle.run_rounds.proofs.rounds_finish.Goals as goal

pub returns : goal.returns
returns c = λ trace first_epoch count steps fit enough. run_ends (record {
  laws = record {
    start = c.invariant_is_kept.ensures.start;
    turn = c.invariant_is_kept.ensures.turn;
    polls = c.invariant_is_kept.ensures.polls;
    heard = c.bell_is_heard.ensures;
    did = c.turns_hand_batches.ensures;
  };
  later = c.turns_go_on.ensures.later;
  gets_on = c.turns_go_on.ensures.gets_on;
}) trace first_epoch count steps fit enough
