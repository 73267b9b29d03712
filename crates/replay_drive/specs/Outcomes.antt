-- What the replay of a whole trace answers, and what it leaves of the database.
use Rattle.std.specs.Prelude.{◌≡◌, ℕ, ◌+◌, Option, Some, None, Ok, Err}
use Rattle.std.specs.declared.result.Result.{Result}
use Rattle.sample_key.specs.declared.losses.Pace.TheVariants.{Free}
use Rattle.trace_model.specs.Recording.{Recording}
use Rattle.trace_model.specs.Streams.{records_in}
use Rattle.database_model.specs.Runs.{Recorded}
use Rattle.store_io.specs.Files.{Files}
use Rattle.database_state.specs.Heads.{Head}
use Rattle.database_state.specs.declared.faults.DbFault.{DbFault}
use Rattle.growth_model.specs.Grown.{part_count}
use Rattle.run_model.specs.Running.{System, record_of, reference_run}
use Rattle.run_model.specs.Validity.{IsValidRun, StatisticsAgree}
use Rattle.run_laws.specs.Laws.{stats_of}
use Rattle.run_rounds.specs.Rounds.{reference_record}
use Rattle.dcpid_core.specs.declared.outcomes.Outcome.{Outcome}
use Rattle.replay_drive.specs.Growing.{KeepsStore}

-- The record and the statistics are those of this run.
pub record IsOfRun (run first_epoch : ℕ) (system : System) (outcome : Outcome) : Type 0 where
  pub kept : outcome.kept ≡ record_of run first_epoch system
  pub stats : outcome.stats.items ≡ stats_of system

-- The record and the statistics are those of the run of the trace, which the definitions give, into a database with this head; the
-- record is valid, and the statistics agree with it.
pub record IsReplayOf (trace : Recording) (head : Head) (outcome : Outcome) : Type 0 where
  pub kept : outcome.kept ≡ reference_record trace (head.runs + 1) head.epoch
  pub stats : outcome.stats.items ≡ stats_of (reference_run Free trace head.epoch)
  pub valid : IsValidRun Free trace outcome.kept
  pub agree : StatisticsAgree trace outcome.kept outcome.stats.items

-- the fault of a call that may answer one
abbrev pub fault_in : {A : Type 0} → Result A DbFault → Option DbFault
fault_in (Ok value) = None
fault_in (Err fault) = Some fault

-- What a run with this record, of a trace, leaves of a store, whose database had this head: so many of its parts were committed, all
-- of them where there is no fault.
pub record LeavesParts {D : Type 0} (files : D → Option Files) (faults moment : D → ℕ)
    (left_since : D → ℕ → Files → Type 0) (trace : Recording) (kept : Recorded) (begin : Head)
    (start now : D) (failure : Option DbFault) : Type 0 where
  pub parts : ℕ
  pub head : Head
  pub whole : failure ≡ None → parts ≡ part_count (records_in trace)
  pub store : KeepsStore files faults moment left_since trace kept begin start now
      parts head failure

-- the same of the run of the trace that the definitions give
abbrev pub Leaves : {D : Type 0} → (D → Option Files) → (D → ℕ) → (D → ℕ)
    → (D → ℕ → Files → Type 0) → Recording → Head → D → D → Option DbFault → Type 0
Leaves files faults moment left_since trace head old new failure =
    LeavesParts files faults moment left_since trace
    (reference_record trace (head.runs + 1) head.epoch) head old new failure
