-- The end of a replay whose run is finished.
use Rattle.std.specs.Prelude.{◌≡◌, ℕ, ◌+◌, true, List, [], ◌∷◌, Option}
use Rattle.std.specs.declared.result.Result.{Result}
use Rattle.sample_key.specs.declared.losses.Pace.TheVariants.{Free}
use Rattle.trace_model.specs.Recording.{Recording}
use Rattle.trace_model.specs.declared.notices.Step.{Step}
use Rattle.trace_model.specs.declared.notices.Step.TheVariants.{Poll}
use Rattle.store_io.specs.Files.{Files}
use Rattle.database_state.specs.Heads.{Head}
use Rattle.database_state.specs.declared.faults.DbFault.{DbFault}
use Rattle.run_model.specs.Running.{record_of, round}
use Rattle.run_laws.specs.Laws.{run_so_far}
use Rattle.dcpid_core.specs.Collection.{new_collection}
use Rattle.dcpid_core.specs.declared.outcomes.Outcome.{Outcome}
use Rattle.replay_drive.specs.Outcomes.{IsOfRun, LeavesParts, fault_in}
use Rattle.replay_drive.specs.Replaying.{HasTaken, IsStored}
use Rattle.replay_drive.specs.declared.replays.Replay.{Replay}

-- A replay at its start: it has taken no steps, and its daemon is new.
pub record IsAtStart (trace : Recording) (head : Head) (replay : Replay) : Type 0 where
  pub taken : HasTaken trace (head.runs + 1) head.epoch [] replay
  pub daemon : replay.daemon ≡ new_collection trace Free head

-- it has taken these steps, and the run is finished
pub record HasEnded (trace : Recording) (run first_epoch : ℕ) (steps : List Step)
    (replay : Replay) : Type 0 where
  pub taken : HasTaken trace run first_epoch steps replay
  pub finished : replay.finished ≡ true

-- what its end answers, if it answers an outcome
abbrev pub AnswersRun : Replay → Outcome → Type 0
AnswersRun replay outcome = (trace : Recording) (run first_epoch : ℕ) (steps : List Step)
    → HasEnded trace run first_epoch steps replay
    → IsOfRun run first_epoch (run_so_far Free trace first_epoch steps) outcome

-- what its end leaves of the store
abbrev pub EndsStore : {D : Type 0} → (D → Option Files) → (D → ℕ) → (D → ℕ)
    → (D → ℕ → Files → Type 0) → Replay → D → D → Result Outcome DbFault → Type 0
EndsStore {D} files faults moment left_since replay old new result = (trace : Recording)
    (run first_epoch : ℕ) (steps : List Step) (begin : Head) (start : D)
    → HasEnded trace run first_epoch steps replay
    → IsStored files faults moment left_since trace run first_epoch steps begin start old replay
    → LeavesParts files faults moment left_since trace
    (record_of run first_epoch (run_so_far Free trace first_epoch steps))
    begin start new (fault_in result)

-- the polls of a processor's cells in a round
abbrev pub polls_of : ℕ → List Step
polls_of cpu = Poll cpu 0 ∷ Poll cpu 1 ∷ Poll cpu 2 ∷ []

-- these steps are a round of a trace with so many processors
abbrev pub IsRoundOf : ℕ → List Step → Type 0
IsRoundOf cpus steps = (trace : Recording) → trace.cpus ≡ cpus → steps ≡ round trace
