-- one turn more
use Rattle.lane_threads.proofs.Turns.{one_more}
use Rattle.lane_threads.proofs.threads.take_turns.Goals as goal

pub returns-in-End : goal.returns-in-End
returns-in-End g c =
    let t = c.turn.ensures.turn in record {
      later = one_more c.args.work c.loop.work c.turn.new.self t.0 c.loop.invariant.2 t.1;
      done = c.turn.ensures.done c.in-End.is;
    }

pub loop-preserved-in-Rest : goal.loop-preserved-in-Rest
loop-preserved-in-Rest g c = let t = c.turn.ensures.turn in (tt, tt, one_more c.args.work c.loop.work c.turn.new.self t.0 c.loop.invariant.2 t.1)

pub loop-preserved : goal.loop-preserved
loop-preserved g c = let t = c.turn.ensures.turn in (tt, tt, one_more c.args.work c.loop.work c.turn.new.self t.0 c.loop.invariant.2 t.1)
