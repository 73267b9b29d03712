use Rattle.std.proofs.Common.{◌+◌, ◌++◌, sym, subst}
use Rattle.sample_key.specs.declared.losses.Pace.TheVariants.{Free}
use Rattle.trace_model.specs.Traces.{recording_of}
use Rattle.database_model.specs.Ranges.{IsRecorded}
use Rattle.run_model.specs.Running.{enough_rounds, rounds}
use Rattle.epoch_store.specs.Databases.{head_of}
use Rattle.made_runs_tests.proofs.tests.summary_of.Goals as goal

pub summary_text-requires : goal.summary_text-requires
summary_text-requires c =
    let trace = recording_of c.in_ok-trace.trace in
    let head = head_of c.in_ok-db.db in
    subst IsRecorded (sym c.in_ok-outcome.ensures.run.kept)
    (c.records_can_be_stored.ensures.tallied Free trace (head.runs + 1) head.epoch (trace.schedule ++ rounds (enough_rounds trace) trace) c.traces_are_fit.ensures)
