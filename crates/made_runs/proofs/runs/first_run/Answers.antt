use Rattle.std.proofs.Common.{refl}
use Rattle.trace_model.specs.Recording.{said_in}
use Rattle.trace_model.specs.Traces.{recording_of}
use Rattle.store_io.specs.Memory.{faults_of, left_of, moment_of, told_of}
use Rattle.database_state.specs.declared.faults.DbFault.TheVariants.{Bad, Full}
use Rattle.dcpid_core.proofs.Images.{apart}
use Rattle.epoch_store.specs.Databases.{head_of}
use Rattle.made_runs.proofs.Empty.{goes_through}
use Rattle.made_runs.proofs.runs.first_run.Goals as goal

pub unreachable-requires-in-Err-Bad : goal.unreachable-requires-in-Err-Bad
unreachable-requires-in-Err-Bad c =
    let t = c.args.trace in
    let r = recording_of t in
    goes_through c.fitting_runs_do_not_stop.ensures told_of faults_of moment_of left_of r (head_of c.in_ok-db.db) c.open_empty.new.store c.replay.new.store (Bad c.in-Err-Bad.field-0-0)
    c.in_ok-db.ensures.head c.open_empty.ensures.files (apart t.images.items (said_in r) t.in_order) (c.made_traces_fit.ensures.fits c.requires) refl
    (rw c.in-Err-Bad.field-0-is at c.in-Err-Bad.ensures.leaves)

pub unreachable-requires-in-Err-Full : goal.unreachable-requires-in-Err-Full
unreachable-requires-in-Err-Full c =
    let t = c.args.trace in
    let r = recording_of t in
    goes_through c.fitting_runs_do_not_stop.ensures told_of faults_of moment_of left_of r (head_of c.in_ok-db.db) c.open_empty.new.store c.replay.new.store
    (Full c.in-Err-Full.field-0-0 c.in-Err-Full.field-0-1 c.in-Err-Full.field-0-2)
    c.in_ok-db.ensures.head c.open_empty.ensures.files (apart t.images.items (said_in r) t.in_order) (c.made_traces_fit.ensures.fits c.requires) refl
    (rw c.in-Err-Full.field-0-is at c.in-Err-Full.ensures.leaves)
