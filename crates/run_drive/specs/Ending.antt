-- The joins of a run.
use Rattle.std.specs.Prelude.{◌≡◌, ℕ, ◌+◌, true, List, [], ◌∷◌, Option, length}
use Rattle.sample_key.specs.declared.losses.Pace.{Pace}
use Rattle.trace_model.specs.Recording.{Recording}
use Rattle.run_model.specs.Running.{setup_of}
use Rattle.shared_side.specs.Shown.{Shown}
use Rattle.lane_threads.specs.Pairs.{Pairwise}
use Rattle.lane_threads.specs.Starting.{AreEndsOfOne, WereClosed}
use Rattle.store_io.specs.Files.{Files}
use Rattle.database_state.specs.Heads.{Head}
use Rattle.run_laws.specs.Laws.{IsFit}
use Rattle.run_model.specs.Daemon.{Daemon}
use Rattle.dcpid_core.specs.Collection.{Collection}
use Rattle.daemon_rounds.specs.Going.{IsOver}
use Rattle.daemon_rounds.specs.Knowing.{Knows}
use Rattle.run_drive.specs.Running.{HasFinished, plain_sides}
use Rattle.lane_threads.specs.Working.{Working}

-- The lane of this processor was joined: its driver answered the close.
pub record WasEnded (pace : Pace) (trace : Recording) (cpu : ℕ) (work : Working) : Type 0 where
  pub setup : work.lane.setup ≡ setup_of pace trace cpu
  pub buckets : work.side.seen.buckets ≡ trace.buckets
  pub done : work.lane.driver.done ≡ true

-- so were all, numbered from here on
abbrev pub AllEnded : Pace → Recording → ℕ → List Working → Type 0
AllEnded pace trace cpu [] = Unit {0}
AllEnded pace trace cpu (work ∷ works) =
    WasEnded pace trace cpu work × AllEnded pace trace (cpu + 1) works

-- The run is finished and all lanes were joined; works and sides are the ends of the same cells.
pub record IsJoining (pace : Pace) (trace : Recording) (run first_epoch : ℕ) (daemon : Collection)
    (works : List Working) (sides : List Shown) : Type 0 where
  pub fit : IsFit trace
  pub count : length works ≡ trace.cpus
  pub ended : AllEnded pace trace 0 works
  pub ends : Pairwise AreEndsOfOne works sides
  pub over : IsOver daemon (plain_sides sides)
  pub until : Daemon
  pub knows : Knows pace trace run first_epoch until daemon (plain_sides sides)

-- The same, and the daemon has kept the store since the start of the run.
pub record HasJoined {D : Type 0} (files : D → Option Files) (faults moment : D → ℕ)
    (left_since : D → ℕ → Files → Type 0) (pace : Pace) (trace : Recording) (begin : Head)
    (start now : D) (daemon : Collection) (works : List Working) (sides : List Shown)
    : Type 0 where
  pub fit : IsFit trace
  pub count : length works ≡ trace.cpus
  pub ended : AllEnded pace trace 0 works
  pub ends : Pairwise AreEndsOfOne works sides
  pub finished : HasFinished files faults moment left_since pace trace begin start now daemon sides

-- All lanes were joined, and their cells closed.
pub record WereJoined (pace : Pace) (trace : Recording) (works : List Working) (sides : List Shown)
    : Type 0 where
  pub fit : IsFit trace
  pub count : length works ≡ trace.cpus
  pub ended : AllEnded pace trace 0 works
  pub closed : Pairwise WereClosed works sides
