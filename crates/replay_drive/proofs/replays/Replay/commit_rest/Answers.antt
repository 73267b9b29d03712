-- The rest is the run's last part, with the losses of the run.
use Rattle.std.proofs.Common.{refl, ◌∙◌}
use Rattle.std.proofs.lemmas.Result.{err_from_is_err_and}
use Rattle.replay_drive.proofs.EndStores.{finish_leaves, kept_is, memory_leaves}
use Rattle.replay_drive.proofs.RunEnded.{losses_are, losses_fit, stats_are}
use Rattle.replay_drive.proofs.replays.Replay.commit_rest.Goals as goal

pub returns-in_err-ended-clause-stores : goal.returns-in_err-ended-clause-stores
returns-in_err-ended-clause-stores g c = λ trace run first_epoch steps begin start ended stored.
    let p = err_from_is_err_and c.from_residual.result c.from_residual.ensures.1 in
    rw (p.1, p.2) (memory_leaves g.D.Store.files g.D.Store.faults g.D.Store.moment g.D.Store.left_since trace run first_epoch steps begin start c.args.store.now c.args.self stored c.requires.fine)

pub finish-requires-clause-losses : goal.finish-requires-clause-losses
finish-requires-clause-losses g c =
    losses_fit (record { start = c.laws.ensures.start; turn = c.laws.ensures.turn; polls = c.laws.ensures.polls; heard = c.laws.ensures.heard; did = c.laws.ensures.did }) c.records_can_be_stored.ensures.tallied
    _ _ _ _ c.args.self _ c.requires.ended.4.taken c.in_ok-ended.ensures.losses

pub returns-in_err-kept-clause-stores : goal.returns-in_err-kept-clause-stores
returns-in_err-kept-clause-stores g c = λ trace run first_epoch steps begin start ended stored.
    let p = err_from_is_err_and c.from_residual-in_err-kept.result c.from_residual-in_err-kept.ensures.1 in
    rw (p.1, p.2) (finish_leaves g.D.Store.files g.D.Store.faults g.D.Store.moment g.D.Store.left_since
    (record { start = c.laws.ensures.start; turn = c.laws.ensures.turn; polls = c.laws.ensures.polls; heard = c.laws.ensures.heard; did = c.laws.ensures.did })
    trace run first_epoch steps begin start c.args.store.now c.finish.new.store c.args.self _ _ ended stored c.requires.fine
    (c.in_ok-ended.ensures.losses ∙ losses_are trace run first_epoch steps c.args.self ended.taken) c.in_err-kept.ensures.finishes)

pub returns-clause-run : goal.returns-clause-run
returns-clause-run g c = λ trace run first_epoch steps ended. record {
  kept = kept_is g.D.Store.files g.D.Store.faults g.D.Store.moment g.D.Store.left_since trace run first_epoch steps c.args.store.now c.finish.new.store c.args.self _ _ c.in_ok-kept.kept ended c.requires.fine
      (c.in_ok-ended.ensures.losses ∙ losses_are trace run first_epoch steps c.args.self ended.taken) c.in_ok-kept.ensures.finishes refl;
  stats = c.in_ok-ended.ensures.stats ∙ stats_are trace run first_epoch steps c.args.self ended.taken;
}

pub returns-clause-stores : goal.returns-clause-stores
returns-clause-stores g c = λ trace run first_epoch steps begin start ended stored.
    finish_leaves g.D.Store.files g.D.Store.faults g.D.Store.moment g.D.Store.left_since
    (record { start = c.laws.ensures.start; turn = c.laws.ensures.turn; polls = c.laws.ensures.polls; heard = c.laws.ensures.heard; did = c.laws.ensures.did })
    trace run first_epoch steps begin start c.args.store.now c.finish.new.store c.args.self _ _ ended stored c.requires.fine
    (c.in_ok-ended.ensures.losses ∙ losses_are trace run first_epoch steps c.args.self ended.taken) c.in_ok-kept.ensures.finishes
