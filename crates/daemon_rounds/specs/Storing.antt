-- What becomes of the store while the daemon of a run goes on.
use Rattle.std.specs.Prelude.{◌≡◌, ◌≢◌, ℕ, ◌+◌, ◌++◌, ◌≤◌, List, Option, Some}
use Rattle.sample_key.specs.declared.losses.Pace.{Pace}
use Rattle.trace_model.specs.Recording.{Recording}
use Rattle.trace_model.specs.Streams.{records_in}
use Rattle.driver_model.specs.Lists.{AllOf}
use Rattle.database_model.specs.Runs.{Drained, Recorded}
use Rattle.store_io.specs.Files.{Files}
use Rattle.database_state.specs.Heads.{Head}
use Rattle.database_state.specs.declared.faults.DbFault.{DbFault}
use Rattle.database_state.specs.declared.faults.DbFault.TheVariants.{Memory}
use Rattle.lane_side.specs.Plain.{Plain}
use Rattle.run_model.specs.Daemon.{Daemon}
use Rattle.run_model.specs.Shares.{last_part}
use Rattle.run_laws.specs.Laws.{Extends}
use Rattle.dcpid_core.specs.Collection.{Collection}
use Rattle.replay_drive.specs.Growing.{KeepsStore}
use Rattle.daemon_rounds.specs.Knowing.{Knows}

-- A record of the run into a database with this head, of which the daemon has drained so much: what it drains later stands at its
-- position or after it.
pub record GoesOnFrom (begin : Head) (until : Daemon) (kept : Recorded) : Type 0 where
  pub run : kept.run ≡ begin.runs + 1
  pub first_epoch : kept.first_epoch ≡ begin.epoch
  pub more : List Drained
  pub drains : kept.drains ≡ until.drains ++ more
  pub later : AllOf (λ drain. until.applied ≤ drain.at) more

-- The store since the start of the run, whatever the daemon drains later.
abbrev pub KeepsRun : {D : Type 0} → (D → Option Files) → (D → ℕ) → (D → ℕ)
    → (D → ℕ → Files → Type 0) → Recording → Head → D → D → Daemon → Collection → Type 0
KeepsRun files faults moment left_since trace begin start now until daemon = (kept : Recorded)
    → GoesOnFrom begin until kept
    → KeepsStore files faults moment left_since trace kept begin start now
    daemon.part daemon.head daemon.failure

-- A fault that is kept, but for want of memory, came at a part before the last.
abbrev pub StopsEarly : Collection → Type 0
StopsEarly daemon = (fault : DbFault) → daemon.failure ≡ Some fault → fault ≢ Memory
    → daemon.part + 1 ≤ last_part (records_in daemon.trace)

-- The daemon went on: it knows its sides still, and keeps the store.
pub record HasGone {D : Type 0} (files : D → Option Files) (faults moment : D → ℕ)
    (left_since : D → ℕ → Files → Type 0) (pace : Pace) (trace : Recording) (begin : Head)
    (start now : D) (until : Daemon) (after : Collection) (sides : List Plain) : Type 0 where
  pub later : Daemon
  pub extends : Extends until later
  pub knows : Knows pace trace (begin.runs + 1) begin.epoch later after sides
  pub store : KeepsRun files faults moment left_since trace begin start now later after

-- so it does from wherever it stood
abbrev pub GoesOn : {D : Type 0} → (D → Option Files) → (D → ℕ) → (D → ℕ)
    → (D → ℕ → Files → Type 0) → Collection → List Plain → D → Collection → List Plain → D → Type 0
GoesOn {D} files faults moment left_since before sides old after left new =
    (pace : Pace) (trace : Recording) (begin : Head) (start : D) (until : Daemon)
    → Knows pace trace (begin.runs + 1) begin.epoch until before sides
    → KeepsRun files faults moment left_since trace begin start old until before
    → HasGone files faults moment left_since pace trace begin start new until after left
