-- A run that is under way: its lanes, the daemon, and its sides.
use Rattle.std.specs.Prelude.{◌≡◌, ℕ, ◌+◌, List, Option, length}
use Rattle.sample_key.specs.declared.losses.Pace.{Pace}
use Rattle.trace_model.specs.Recording.{Recording}
use Rattle.store_io.specs.Files.{Files}
use Rattle.database_state.specs.Heads.{Head}
use Rattle.lane_side.specs.Plain.{Plain}
use Rattle.run_model.specs.Daemon.{Daemon}
use Rattle.dcpid_core.specs.Collection.{Collection, views}
use Rattle.shared_side.specs.Shown.{Shown}
use Rattle.lane_threads.specs.Working.{Working}
use Rattle.daemon_rounds.specs.Going.{IsOver}
use Rattle.daemon_rounds.specs.Knowing.{Knows}
use Rattle.daemon_rounds.specs.Storing.{KeepsRun, StopsEarly}
use Rattle.dcpid_core.specs.Collection.{new_collection}
use Rattle.lane_threads.specs.Pairs.{Pairwise}
use Rattle.lane_threads.specs.Promising.{IsOfWork}
use Rattle.lane_threads.specs.Starting.{AllStart}
use Rattle.lane_threads.specs.declared.starts.Waiting.{Waiting}
use Rattle.run_laws.specs.Laws.{IsFit}

-- the shared sides as the daemon sees any sides
abbrev pub plain_sides : List Shown → List Plain
plain_sides sides = views (λ side. side.seen) (λ side. side.far) (λ side. side.fixed) sides

-- The daemon of this run has found the close complete, after all that it could know and keep of the store.
pub record HasFinished {D : Type 0} (files : D → Option Files) (faults moment : D → ℕ)
    (left_since : D → ℕ → Files → Type 0) (pace : Pace) (trace : Recording) (begin : Head)
    (start now : D) (daemon : Collection) (sides : List Shown) : Type 0 where
  pub until : Daemon
  pub over : IsOver daemon (plain_sides sides)
  pub knows : Knows pace trace (begin.runs + 1) begin.epoch until daemon (plain_sides sides)
  pub store : KeepsRun files faults moment left_since trace begin start now until daemon
  pub early : StopsEarly daemon

-- so it does from wherever it stood
abbrev pub Finishes : {D : Type 0} → (D → Option Files) → (D → ℕ) → (D → ℕ)
    → (D → ℕ → Files → Type 0) → Collection → List Shown → D → Collection → List Shown → D → Type 0
Finishes {D} files faults moment left_since before sides old after left new =
    (pace : Pace) (trace : Recording) (begin : Head) (start : D) (until : Daemon)
    → Knows pace trace (begin.runs + 1) begin.epoch until before (plain_sides sides)
    → KeepsRun files faults moment left_since trace begin start old until before
    → StopsEarly before
    → HasFinished files faults moment left_since pace trace begin start new after left

-- the daemon of some run knows its sides, and has kept the store since the start
abbrev pub IsUnderWay : {D : Type 0} → (D → Option Files) → (D → ℕ) → (D → ℕ)
    → (D → ℕ → Files → Type 0) → D → Collection → List Shown → Type 0
IsUnderWay {D} files faults moment left_since now daemon sides =
    (pace : Pace) × (trace : Recording) × (begin : Head) × (start : D) × (until : Daemon)
    × Knows pace trace (begin.runs + 1) begin.epoch until daemon (plain_sides sides)
    × KeepsRun files faults moment left_since trace begin start now until daemon

-- Before the first thread: the works of the trace wait for their threads, all sides are new, and so is the daemon, with a database
-- of this head.
pub record IsReady (pace : Pace) (trace : Recording) (begin : Head) (waiting : List Waiting)
    (sides : List Shown) (daemon : Collection) : Type 0 where
  pub fit : IsFit trace
  pub works : List Working
  pub wait : Pairwise IsOfWork works waiting
  pub count : length works ≡ trace.cpus
  pub start : AllStart pace trace 0 works sides
  pub daemon_is : daemon ≡ new_collection trace pace begin
