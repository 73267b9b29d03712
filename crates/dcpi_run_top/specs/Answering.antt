-- What the program with threads promises of a call.
use Rattle.std.specs.Prelude.{◌≡◌, ◌≢◌, ◌⊎◌, ℕ, ◌≤◌}
use Rattle.std.proofs.Common.{inl, inr}
use Rattle.std.specs.declared.option.Option.{Option}
use Rattle.std.specs.declared.option.Option.TheVariants.{Some, None}
use Rattle.std.specs.declared.result.Result.{Result}
use Rattle.std.specs.declared.result.Result.TheVariants.{Ok, Err}
use Rattle.sample_key.specs.declared.losses.Pace.{Pace}
use Rattle.trace_model.specs.Recording.{Recording}
use Rattle.trace_model.specs.Streams.{records_in}
use Rattle.store_io.specs.Files.{Files}
use Rattle.database_model.specs.Runs.{Recorded}
use Rattle.database_state.specs.Heads.{Head}
use Rattle.database_state.specs.Standing.{HaveHead, database_of}
use Rattle.database_state.specs.declared.faults.DbFault.{DbFault}
use Rattle.growth_model.specs.Fitting.{KeepsLimits}
use Rattle.dcpid_core.specs.declared.outcomes.Outcome.{Outcome}
use Rattle.run_drive.specs.Outcomes.{LeavesRun}
use Rattle.dcpi_top.specs.declared.refusals.Refusal.{Refusal}
use Rattle.dcpi_top.specs.Answers.{Answers, Call}
use Rattle.dcpi_top.specs.Commands.{command_of}
use Rattle.dcpi_top.specs.Inputs.{IsToldTrace}
use Rattle.dcpi_top.specs.Messages.{TellsLine}
use Rattle.dcpi_top.specs.Moments.{LeavesAtAnyMoment}
use Rattle.dcpi_top.specs.Owing.{IsRefusedAs}
use Rattle.dcpi_top.specs.Refusals.{status_in}
use Rattle.dcpi_top.specs.Streams.{Stream, HasFailed, seen}
use Rattle.dcpi_run_top.specs.Beginning.{IsOwedBefore, IsUnbegun}
use Rattle.dcpi_run_top.specs.Runs.{IsMade}

-- no run was begun, or one was made
abbrev pub ServesRun : {D : Type 0} → (D → Option Files) → (D → ℕ) → (D → ℕ)
    → (D → ℕ → Files → Type 0) → Pace → Stream → D → D → Stream → Option Refusal → Type 0
ServesRun files faults moment left_since pace input old new output refusal =
    IsUnbegun files faults moment left_since input old new output refusal
    ⊎ IsMade files faults moment left_since pace input old new output refusal

-- the record of a run: of the whole, or of what was drained until a fault stopped it
abbrev pub record_left : {D : Type 0} (files : D → Option Files) (faults moment : D → ℕ)
    (left_since : D → ℕ → Files → Type 0) (pace : Pace) (trace : Recording) (head : Head)
    (old new : D) (result : Result Outcome DbFault)
    → LeavesRun files faults moment left_since pace trace head old new result → Recorded
record_left files faults moment left_since pace trace head old new (Ok outcome) leaves =
    outcome.kept
record_left files faults moment left_since pace trace head old new (Err fault) stops = stops.kept

-- the record of the run, if one was made, keeps the database of these files within its limits
abbrev pub FitsRun : {D : Type 0} (files : D → Option Files) (faults moment : D → ℕ)
    (left_since : D → ℕ → Files → Type 0) (pace : Pace) (input : Stream) (old new : D)
    (output : Stream) (refusal : Option Refusal)
    → ServesRun files faults moment left_since pace input old new output refusal
    → Recording → Head → Files → Type 0
FitsRun files faults moment left_since pace input old new output refusal (inl unbegun) trace head f =
    Unit {0}
FitsRun files faults moment left_since pace input old new output refusal (inr made) trace head f =
    KeepsLimits trace.images (records_in trace)
    (record_left files faults moment left_since pace made.ran.recording made.ran.head old new
    made.result made.ran.leaves) head (database_of head f)

-- The input is told to be a trace, the files are told to stand for a database, and this run keeps it within its limits.
pub record IsSoundRun {D : Type 0} (files : D → Option Files) (faults moment : D → ℕ)
    (left_since : D → ℕ → Files → Type 0) (pace : Pace) (input : Stream) (old new : D)
    (output : Stream) (refusal : Option Refusal)
    (serves : ServesRun files faults moment left_since pace input old new output refusal)
    : Type 0 where
  pub recording : Recording
  pub head : Head
  pub told_files : Files
  pub reads : IsToldTrace input recording
  pub told : files old ≡ Some told_files
  pub has_head : HaveHead told_files head
  pub fits : FitsRun files faults moment left_since pace input old new output refusal serves
      recording head told_files

-- What a status says of a run by threads: of the input, the database, the output and the error output, and of a crash.
pub record AnswersRun {D : Type 0} (files : D → Option Files) (faults moment : D → ℕ)
    (left_since : D → ℕ → Files → Type 0) (pace : Pace) (call : Call) (old new : D) (status : ℕ)
    : Type 0 where
  -- what was refused, if anything was; it has this status and its cause, and one line tells it
  pub refusal : Option Refusal
  pub is_status : status ≡ status_in refusal
  pub serves : ServesRun files faults moment left_since pace call.input old new call.output refusal
  pub line : TellsLine refusal call.errors
  pub later : call.errors.faults_before ≤ call.errors.faults_after
  pub never : (status ≢ 1) × (status ≢ 9) × (status ≢ 10)
  -- a bad head or a bad line that is told is what is answered, where no fault was counted and memory was found
  pub answers : (owed : Refusal) → IsOwedBefore call.input (seen files faults old new) owed →
      IsRefusedAs owed refusal
  -- a run of which all is sound is served: 0, or want of memory, where no fault was counted
  pub complete : IsSoundRun files faults moment left_since pace call.input old new call.output
      refusal serves →
      (HasFailed call.input → ⊥) → (HasFailed (seen files faults old new) → ⊥) →
      (HasFailed call.output → ⊥) → (status ≡ 0) ⊎ (status ≡ 6)

-- What a status says of a call: words that ask for a run are served by threads, and all others as by the call without them.
abbrev pub AnswersAll : {D : Type 0} → (D → Option Files) → (D → ℕ) → (D → ℕ)
    → (D → ℕ → Files → Type 0) → Option Pace → Call → D → D → ℕ → Type 0
AnswersAll files faults moment left_since None call old new status =
    Answers call status
    × LeavesAtAnyMoment files moment left_since (command_of call.words) call.input old new status
AnswersAll files faults moment left_since (Some pace) call old new status =
    AnswersRun files faults moment left_since pace call old new status
