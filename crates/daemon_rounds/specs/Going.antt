-- How the daemon of a run goes on over its sides.
use Rattle.std.specs.Prelude.{◌≡◌, ℕ, true, List, length}
use Rattle.std.specs.List.{AllByRecursion}
use Rattle.sample_key.specs.declared.losses.Pace.{Pace}
use Rattle.trace_model.specs.Recording.{Recording}
use Rattle.trace_model.specs.Streams.{records_in}
use Rattle.lane_side.specs.Plain.{Plain}
use Rattle.run_model.specs.Daemon.{Daemon}
use Rattle.run_laws.specs.Laws.{Extends}
use Rattle.dcpid_core.specs.Collection.{Collection}
use Rattle.replay_drive.specs.Replaying.{LeavesStore}
use Rattle.daemon_rounds.specs.Knowing.{Knows}
use Rattle.daemon_rounds.specs.Sides.{IsFlushedSide}

-- the daemon of some run knows its sides
abbrev pub IsGoing : Collection → List Plain → Type 0
IsGoing daemon sides = (pace : Pace) × (trace : Recording) × (run : ℕ) × (first_epoch : ℕ)
    × (until : Daemon) × Knows pace trace run first_epoch until daemon sides

-- It polled: it knows its sides still, and committed nothing.
pub record HasPolled (pace : Pace) (trace : Recording) (run first_epoch : ℕ) (until : Daemon)
    (before after : Collection) (sides : List Plain) : Type 0 where
  pub later : Daemon
  pub extends : Extends until later
  pub knows : Knows pace trace run first_epoch later after sides
  pub leaves : LeavesStore trace before after
  pub finished : after.state.finished ≡ before.state.finished

-- so it does from wherever it stood
abbrev pub PollsOn : Collection → List Plain → Collection → List Plain → Type 0
PollsOn before sides after left = (pace : Pace) (trace : Recording) (run first_epoch : ℕ)
    (until : Daemon) → Knows pace trace run first_epoch until before sides
    → HasPolled pace trace run first_epoch until before after left

-- The run is finished: no record is left, and of each processor the close was found complete.
pub record IsOver (daemon : Collection) (sides : List Plain) : Type 0 where
  pub finished : daemon.state.finished ≡ true
  pub all : daemon.state.applied ≡ length (records_in daemon.trace)
  pub flushed : AllByRecursion (IsFlushedSide daemon.state.applied) sides
