-- What the lane promises of its turn.
use Rattle.std.proofs.Common.{subst, sym, ◌∙◌}
use Rattle.lane_threads.specs.Working.{Working, TookTurn}
use Rattle.lane_threads.proofs.Turns.{end_is_done}
use Rattle.lane_threads.proofs.works.Work.turn.Goals as goal

pub returns-clause-turn : goal.returns-clause-turn
returns-clause-turn c =
    let e = c.turn.ensures in
    let after : Working = record { lane = c.turn.new.self; side = c.turn.new.side } in (
      c.turn.result,
      subst (λ (w : Working). TookTurn w c.turn.result after) c.self.view_is (record {
        words = e.step.0;
        step = e.step.1;
        later = e.later;
        heard = e.heard;
        cause = e.cause;
        same = record { setup = e.setup; fixed = e.fixed; buckets = e.buckets };
      }),
      c.next_after.ensures,
    )

pub returns-clause-done : goal.returns-clause-done
returns-clause-done c = λ ends. c.turn.ensures.closed (end_is_done c.turn.result (sym c.next_after.ensures ∙ ends))
