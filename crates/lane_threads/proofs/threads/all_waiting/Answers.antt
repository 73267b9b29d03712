-- one more work waits
use Rattle.lane_threads.specs.Promising.{IsOfWork}
use Rattle.lane_threads.proofs.Pairing.{pairs_more}
use Rattle.lane_threads.proofs.threads.all_waiting.Goals as goal

pub loop-work-preserved : goal.loop-work-preserved
loop-work-preserved c = pairs_more IsOfWork _ _ _ _ _ c.in_ok-push.ensures.items c.loop-work.invariant c.in_ok-with_cell.ensures
