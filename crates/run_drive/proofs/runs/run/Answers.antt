-- Want of memory before the first thread.
use Rattle.std.proofs.lemmas.Result.{err_from_is_err_and}
use Rattle.trace_model.specs.Traces.{recording_of}
use Rattle.epoch_store.specs.Databases.{head_of}
use Rattle.run_drive.proofs.Whole.{none_begun}
use Rattle.run_drive.proofs.runs.run.Goals as goal

pub returns-in_err-lanes-clause-leaves : goal.returns-in_err-lanes-clause-leaves
returns-in_err-lanes-clause-leaves g c =
    let p = err_from_is_err_and c.from_residual.result c.from_residual.ensures.1 in
    rw (p.1, p.2) (none_begun g.D.Store.files g.D.Store.faults g.D.Store.moment g.D.Store.left_since c.records_are_valid.ensures.so_far c.args.pace (recording_of c.args.trace.now) (head_of c.args.db) c.args.store.now c.traces_are_fit.ensures)
