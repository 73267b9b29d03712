use Rattle.lane_side.proofs.HandingLemmas.{new_over, heard_over, looked_over, handed_over, looked_table_over, handed_table_over, rang_over, polled_over, gave_over, polled_table_over, gave_table_over}
use Rattle.lane_side.proofs.handovers.calls_hand_over.Goals as goal

pub returns-clause-new : goal.returns-clause-new
returns-clause-new c = new_over

pub returns-clause-lane : goal.returns-clause-lane
returns-clause-lane c = record {
  hear = heard_over;
  look_buffer = looked_over;
  hand_buffer = handed_over;
  look_table = looked_table_over;
  hand_table = handed_table_over;
}

pub returns-clause-daemon : goal.returns-clause-daemon
returns-clause-daemon c = record {
  ring = rang_over;
  poll_buffer = polled_over;
  return_buffer = gave_over;
  poll_table = polled_table_over;
  return_table = gave_table_over;
}
