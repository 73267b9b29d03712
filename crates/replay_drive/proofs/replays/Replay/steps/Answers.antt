-- One step more was taken; at the end all were.
use Rattle.std.proofs.Common.{◌∙◌, subst, List, ◌++◌, arith}
use Rattle.std.proofs.lemmas.Option.{slice_get-get_or}
use Rattle.trace_model.specs.declared.notices.Step.{Step}
use Rattle.replay_drive.specs.Replaying.{HasTaken}
use Rattle.replay_drive.proofs.StepsMany.{step_stored, step_taken, take_all, under_way}
use Rattle.replay_drive.proofs.replays.Replay.steps.Goals as goal

pub loop-step-preserved : goal.loop-step-preserved
loop-step-preserved g c =
    let at = slice_get-get_or c.args.steps.now c.loop-step.step-index _ (omega (arith, c.loop-step-test.true, c.loop-step.auto.step-index-end)) in
    let taken = step_taken c.args.self.now c.loop-step.self c.step.new.self c.args.steps.now c.loop-step.step-index _ at c.loop-step.invariant.taken c.step.ensures.taken in
    record {
      under = under_way c.args.self.now c.step.new.self _ c.requires taken;
      taken = taken;
      stores = step_stored g.D.Store.files g.D.Store.faults g.D.Store.moment g.D.Store.left_since c.args.self.now c.loop-step.self c.step.new.self c.args.store.now c.loop-step.store c.step.new.store c.args.steps.now c.loop-step.step-index _ at
          c.loop-step.invariant.taken c.loop-step.invariant.stores c.step.ensures.stores;
      origin = c.step.ensures.origin ∙ c.loop-step.invariant.origin;
    }

pub returns-clause-taken : goal.returns-clause-taken
returns-clause-taken g c = λ trace run first_epoch done h.
    subst (λ (z : List Step). HasTaken trace run first_epoch (done ++ z) c.loop-step.self)
    (take_all c.args.steps.now c.loop-step.step-index (omega (arith, c.loop-step-test.false, c.loop-step.auto.step-index-end)))
    (c.loop-step.invariant.taken trace run first_epoch done h)
