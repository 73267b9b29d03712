use Rattle.std.proofs.Common.{◌≡◌, ◌∙◌, ◌+◌, ap, inr, sym, subst, ◌++◌}
use Rattle.std.specs.declared.option.Option.TheVariants.{Some, None}
use Rattle.sample_key.specs.declared.losses.Pace.TheVariants.{Free}
use Rattle.trace_model.specs.Traces.{recording_of}
use Rattle.database_model.specs.Ranges.{IsRecorded}
use Rattle.run_model.specs.Running.{enough_rounds, rounds}
use Rattle.epoch_store.specs.Databases.{head_of}
use Rattle.dcpi_top.specs.declared.commands.Command.TheVariants.{Replay}
use Rattle.dcpi_top.specs.declared.refusals.Refusal.TheVariants.{Memory}
use Rattle.dcpi_top.specs.Refusals.{status_of}
use Rattle.dcpi_top.specs.Streams.{seen}
use Rattle.summary_text.specs.Summaries.{summary_of}
use Rattle.dcpi_top.specs.Replays.{LeavesParts}
use Rattle.dcpi_top.proofs.Passing.{passes, refuses}
use Rattle.dcpi_top.proofs.Replayed.{done, ended_short, ended_well, leaves_run, status_is, stopped}
use Rattle.dcpi_top.proofs.replays.run_text.Goals as goal

pub returns-in_err-outcome-clause-gives : goal.returns-in_err-outcome-clause-gives
returns-in_err-outcome-clause-gives g c input into = refuses (λ text. text.items) Replay input (seen g.D.Store.files g.D.Store.faults c.args.store.now c.replay_owned.new.store) _ _ c.from_residual.ensures.1
    (λ refusal is. stopped g.D.Store.files g.D.Store.faults g.D.Store.moment g.D.Store.left_since (recording_of c.args.trace) input (head_of c.args.db) c.args.store.now c.replay_owned.new.store into
    c.in_err-outcome.field-0.0 refusal is c.in_err-outcome.ensures.leaves)

pub returns-in_err-outcome-clause-leaves : goal.returns-in_err-outcome-clause-leaves
returns-in_err-outcome-clause-leaves g c input into = inr (passes _ (λ status. LeavesParts g.D.Store.files g.D.Store.moment g.D.Store.left_since input c.args.store.now c.replay_owned.new.store status) _
    c.from_residual.ensures.1
    (λ refusal is. leaves_run g.D.Store.files g.D.Store.faults g.D.Store.moment g.D.Store.left_since (recording_of c.args.trace) input (head_of c.args.db) c.args.store.now c.replay_owned.new.store
    (Some c.in_err-outcome.field-0.0) _ c.files_stand_for_one_database.ensures.heads into.reads into.opened
    (status_is c.in_err-outcome.field-0.0 refusal is) c.in_err-outcome.ensures.leaves))

pub summary_text-requires : goal.summary_text-requires
summary_text-requires g c = let trace = recording_of c.args.trace in let head = head_of c.args.db in
    subst IsRecorded (sym c.in_ok-outcome.ensures.run.kept)
    (c.records_can_be_stored.ensures.tallied Free trace (head.runs + 1) head.epoch (trace.schedule ++ rounds (enough_rounds trace) trace) c.traces_are_fit.ensures)

pub returns-in_err-text-clause-leaves : goal.returns-in_err-text-clause-leaves
returns-in_err-text-clause-leaves g c input into = inr (passes (λ refusal. refusal ≡ Memory) (λ status. LeavesParts g.D.Store.files g.D.Store.moment g.D.Store.left_since input c.args.store.now c.replay_owned.new.store status) _
    c.from_residual-in_err-text.ensures.1
    (λ refusal is. subst (λ r. LeavesParts g.D.Store.files g.D.Store.moment g.D.Store.left_since input c.args.store.now c.replay_owned.new.store (status_of r)) (sym is)
    (leaves_run g.D.Store.files g.D.Store.faults g.D.Store.moment g.D.Store.left_since (recording_of c.args.trace) input (head_of c.args.db) c.args.store.now c.replay_owned.new.store
    None 6 c.files_stand_for_one_database.ensures.heads into.reads into.opened ended_short c.in_ok-outcome.ensures.leaves)))

pub returns-clause-gives : goal.returns-clause-gives
returns-clause-gives g c input into = (
  done g.D.Store.files g.D.Store.faults g.D.Store.moment g.D.Store.left_since (recording_of c.args.trace) input (head_of c.args.db) c.args.store.now c.replay_owned.new.store into
      c.in_ok-outcome.outcome _ c.in_ok-outcome.ensures.run c.in_ok-outcome.ensures.leaves
      (c.in_ok-text.ensures ∙ ap (summary_of c.in_ok-outcome.outcome.kept) c.deref.ensures.value),
  (into.counted, c.in_ok-outcome.ensures.leaves.store.count),
)

pub returns-clause-leaves : goal.returns-clause-leaves
returns-clause-leaves g c input into = inr (leaves_run g.D.Store.files g.D.Store.faults g.D.Store.moment g.D.Store.left_since (recording_of c.args.trace) input (head_of c.args.db) c.args.store.now c.replay_owned.new.store
    None 0 c.files_stand_for_one_database.ensures.heads into.reads into.opened ended_well c.in_ok-outcome.ensures.leaves)
