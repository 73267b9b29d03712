-- Want of memory before the first step.
use Rattle.std.proofs.lemmas.Result.{err_from_is_err_and}
use Rattle.trace_model.specs.Traces.{recording_of}
use Rattle.epoch_store.specs.Databases.{head_of}
use Rattle.replay_drive.proofs.EndStores.{nothing_done}
use Rattle.replay_drive.proofs.replaying.replay.Goals as goal

pub returns-in_err-lanes-clause-leaves : goal.returns-in_err-lanes-clause-leaves
returns-in_err-lanes-clause-leaves g c =
    let p = err_from_is_err_and c.from_residual.result c.from_residual.ensures.1 in
    rw (p.1, p.2) (nothing_done g.D.Store.files g.D.Store.faults g.D.Store.moment g.D.Store.left_since (recording_of c.args.trace.now) _ (head_of c.args.db) c.args.store.now)
