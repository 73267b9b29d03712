-- One turn more.
use Rattle.std.proofs.Common.{sym, ◌∙◌, ap, List, [], ◌∷◌, ◌++◌, arith}
use Rattle.std.proofs.lemmas.List.FromFn.{map-range_with_len_more}
use Rattle.trace_model.specs.declared.notices.Step.{Step}
use Rattle.trace_model.specs.declared.notices.Step.TheVariants.{Lane}
use Rattle.replay_drive.proofs.replaying.turns_of.Goals as goal

pub loop-cpu-preserved : goal.loop-cpu-preserved
loop-cpu-preserved c =
    c.in_ok-push.ensures.items ∙ ap {B = List Step} (λ z. z ++ Lane c.loop-cpu.cpu ∷ []) c.loop-cpu.invariant
    ∙ sym (map-range_with_len_more Lane 0 c.loop-cpu.cpu c.loop-cpu.cpu (omega arith))
