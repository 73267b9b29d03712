-- The polls of one processor more.
use Rattle.std.proofs.Common.{sym, ◌∙◌, ap, List, ◌++◌}
use Rattle.std.specs.List.{flat_map, range_with_len}
use Rattle.trace_model.specs.declared.notices.Step.{Step}
use Rattle.trace_model.specs.declared.notices.Step.TheVariants.{Poll}
use Rattle.replay_drive.specs.Ending.{polls_of}
use Rattle.replay_drive.proofs.RunWhole.{one_more, three_more}
use Rattle.replay_drive.proofs.replaying.push_polls.Goals as goal

pub loop-cpu-preserved : goal.loop-cpu-preserved
loop-cpu-preserved c =
    three_more _ _ _ _ c.args.steps.now.items (flat_map polls_of (range_with_len 0 c.loop-cpu.cpu)) (Poll c.loop-cpu.cpu 0) (Poll c.loop-cpu.cpu 1) (Poll c.loop-cpu.cpu 2)
    c.loop-cpu.invariant c.in_ok-push.ensures.items c.in_ok-push-2.ensures.items c.in_ok-push-3.ensures.items
    ∙ ap {B = List Step} (λ z. c.args.steps.now.items ++ z) (sym (one_more polls_of c.loop-cpu.cpu))
