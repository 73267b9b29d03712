-- A replay that has taken some steps.
use Rattle.std.specs.Prelude.{◌≡◌, ◌⊎◌, ℕ, zero, suc, ◌+◌, ◌++◌, List, [], ◌∷◌, Option, Some, None}
use Rattle.sample_key.specs.declared.losses.Pace.TheVariants.{Free}
use Rattle.trace_model.specs.Recording.{Recording}
use Rattle.trace_model.specs.declared.notices.Step.{Step}
use Rattle.store_io.specs.Files.{Files}
use Rattle.database_state.specs.Heads.{Head}
use Rattle.database_state.specs.declared.faults.DbFault.{DbFault}
use Rattle.database_state.specs.declared.faults.DbFault.TheVariants.{Memory}
use Rattle.run_model.specs.Running.{record_of}
use Rattle.run_laws.specs.Laws.{IsFit, run_so_far}
use Rattle.dcpid_core.specs.Collection.{Collection}
use Rattle.replay_drive.specs.Standing.{StandsAt}
use Rattle.replay_drive.specs.Growing.{KeepsParts, KeepsStore}
use Rattle.replay_drive.specs.declared.replays.Replay.{Replay}

-- The replay of a trace stands where the run stands after these steps, and knows whether that run is finished.
pub record HasTaken (trace : Recording) (run first_epoch : ℕ) (steps : List Step) (replay : Replay)
    : Type 0 where
  pub fit : IsFit trace
  pub stands : StandsAt trace run first_epoch replay.lanes.items replay.sides.items replay.daemon
      (run_so_far Free trace first_epoch steps)
  pub finished : replay.finished ≡ (run_so_far Free trace first_epoch steps).daemon.finished

-- after one step more it has taken that step too
abbrev pub TakesStep : Replay → Replay → Step → Type 0
TakesStep before after step = (trace : Recording) (run first_epoch : ℕ) (steps : List Step)
    → HasTaken trace run first_epoch steps before
    → HasTaken trace run first_epoch (steps ++ step ∷ []) after

-- it has taken some steps of some trace
abbrev pub IsUnderWay : Replay → Type 0
IsUnderWay replay = (trace : Recording) × (run : ℕ) × (first_epoch : ℕ) × (steps : List Step)
    × HasTaken trace run first_epoch steps replay

-- The store is kept since the start of a run, when its database had this head: the run's whole list of steps is this one.
pub record IsStored {D : Type 0} (files : D → Option Files) (faults moment : D → ℕ)
    (left_since : D → ℕ → Files → Type 0) (trace : Recording) (run first_epoch : ℕ)
    (steps : List Step) (begin : Head) (start now : D) (replay : Replay) : Type 0 where
  pub run_is : run ≡ begin.runs + 1
  pub first_is : first_epoch ≡ begin.epoch
  pub parts : KeepsParts trace replay.daemon
  pub store : KeepsStore files faults moment left_since trace
      (record_of run first_epoch (run_so_far Free trace first_epoch steps))
      begin start now replay.daemon.part replay.daemon.head replay.daemon.failure

-- a step keeps the store
abbrev pub StoresStep : {D : Type 0} → (D → Option Files) → (D → ℕ) → (D → ℕ)
    → (D → ℕ → Files → Type 0) → Replay → Replay → D → D → Step → Type 0
StoresStep {D} files faults moment left_since before after old new step = (trace : Recording)
    (run first_epoch : ℕ) (steps rest : List Step) (begin : Head) (start : D)
    → HasTaken trace run first_epoch steps before
    → IsStored files faults moment left_since trace run first_epoch (steps ++ step ∷ rest)
    begin start old before
    → IsStored files faults moment left_since trace run first_epoch (steps ++ step ∷ rest)
    begin start new after

-- a fault that is kept stays; a call that is given no store begins none but want of memory
abbrev pub FaultRests : Option DbFault → Option DbFault → Type 0
FaultRests (Some fault) after = after ≡ Some fault
FaultRests None after = (after ≡ None) ⊎ (after ≡ Some Memory)

-- What a call of the daemon that is given no store leaves: the same parts and the same head.
pub record LeavesStore (trace : Recording) (before after : Collection) : Type 0 where
  pub part : after.part ≡ before.part
  pub head : after.head ≡ before.head
  pub fault : FaultRests before.failure after.failure
  pub parts : KeepsParts trace before → KeepsParts trace after

-- after these steps it has taken them too
abbrev pub TakesSteps : Replay → Replay → List Step → Type 0
TakesSteps before after steps = (trace : Recording) (run first_epoch : ℕ) (done : List Step)
    → HasTaken trace run first_epoch done before
    → HasTaken trace run first_epoch (done ++ steps) after

-- and they keep the store
abbrev pub StoresSteps : {D : Type 0} → (D → Option Files) → (D → ℕ) → (D → ℕ)
    → (D → ℕ → Files → Type 0) → Replay → Replay → D → D → List Step → Type 0
StoresSteps {D} files faults moment left_since before after old new steps = (trace : Recording)
    (run first_epoch : ℕ) (done rest : List Step) (begin : Head) (start : D)
    → HasTaken trace run first_epoch done before
    → IsStored files faults moment left_since trace run first_epoch (done ++ (steps ++ rest))
    begin start old before
    → IsStored files faults moment left_since trace run first_epoch (done ++ (steps ++ rest))
    begin start new after

-- so many times the same steps
abbrev pub repeated : ℕ → List Step → List Step
repeated zero steps = []
repeated (suc more) steps = steps ++ repeated more steps
