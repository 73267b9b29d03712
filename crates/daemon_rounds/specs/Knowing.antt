-- What the daemon of a run knows between any two of its calls, whatever its sides are: until it keeps a fault, what it drained is
-- what it took.
use Rattle.std.specs.Prelude.{◌≡◌, ℕ, ◌+◌, ◌≤◌, ◌++◌, List, [], ◌∷◌, Option, Some, None, length}
use Rattle.sample_key.specs.Sent.{Sent}
use Rattle.sample_key.specs.declared.losses.Pace.{Pace}
use Rattle.trace_model.specs.Recording.{Recording}
use Rattle.trace_model.specs.Streams.{records_in, stream_of}
use Rattle.trace_model.specs.declared.limits.TheConstants.{MOST_CPUS}
use Rattle.driver_model.specs.Lists.{AllOf}
use Rattle.driver_model.specs.Handover.{FarSide}
use Rattle.database_state.specs.declared.faults.DbFault.{DbFault}
use Rattle.lane_side.specs.Plain.{Plain}
use Rattle.run_model.specs.Books.{KeepsBooks, StandsWell}
use Rattle.run_model.specs.Daemon.{Daemon, flush_before}
use Rattle.run_model.specs.Shares.{drains_of}
use Rattle.run_model.specs.Validity.{IsDueAt}
use Rattle.run_joins.specs.Collecting.{Collects}
use Rattle.dcpid_core.specs.Collection.{Collection, FitFrom}
use Rattle.dcpid_core.specs.Counting.{Agree, fars_in}
use Rattle.replay_drive.specs.Growing.{KeepsParts}

-- Of this processor the daemon has drained just what it took, no batch before its samples were due.
pub record IsCollected (pace : Pace) (trace : Recording) (cpu : ℕ) (until : Daemon) (far : FarSide)
    : Type 0 where
  pub collects : Collects pace (records_in trace) until (drains_of cpu 0 until.drains)
      (drains_of cpu 1 until.drains) (drains_of cpu 2 until.drains) far
  pub due0 : AllOf (IsDueAt (stream_of cpu trace)) (drains_of cpu 0 until.drains)
  pub due1 : AllOf (IsDueAt (stream_of cpu trace)) (drains_of cpu 1 until.drains)
  pub due2 : AllOf (IsDueAt (stream_of cpu trace)) (drains_of cpu 2 until.drains)

-- these batches were taken first
abbrev pub AreFrontOf : List Sent → List Sent → Type 0
AreFrontOf front taken = (rest : List Sent) × (front ++ rest ≡ taken)

-- So it was when a fault was kept; what was taken since then was not noted.
pub record WasCollected (pace : Pace) (trace : Recording) (cpu : ℕ) (until : Daemon)
    (far : FarSide) : Type 0 where
  pub then : FarSide
  pub collected : IsCollected pace trace cpu until then
  pub first : AreFrontOf then.first.taken far.first.taken
  pub second : AreFrontOf then.second.taken far.second.taken
  pub third : AreFrontOf then.third.taken far.third.taken

-- what the daemon knows of a processor, while it keeps no fault and when it keeps one
abbrev pub KnowsOf : Pace → Recording → ℕ → Daemon → Option DbFault → FarSide → Type 0
KnowsOf pace trace cpu until None far = IsCollected pace trace cpu until far
KnowsOf pace trace cpu until (Some fault) far = WasCollected pace trace cpu until far

-- and of all, numbered from here on
abbrev pub KnowsFrom : Pace → Recording → ℕ → Daemon → Option DbFault → List Plain → Type 0
KnowsFrom pace trace cpu until failure [] = Unit {0}
KnowsFrom pace trace cpu until failure (side ∷ sides) =
    KnowsOf pace trace cpu until failure side.far
    × KnowsFrom pace trace (cpu + 1) until failure sides

-- The daemon of a run of this trace, over these sides: where it stands, what it rang and counted, and what it knows. Until it kept
-- a fault it stood here.
pub record Knows (pace : Pace) (trace : Recording) (run first_epoch : ℕ) (until : Daemon)
    (daemon : Collection) (sides : List Plain) : Type 0 where
  pub trace_is : daemon.trace ≡ trace
  pub pace_is : daemon.pace ≡ pace
  pub run_is : daemon.run ≡ run
  pub first_is : daemon.first_epoch ≡ first_epoch
  pub same : daemon.failure ≡ None → daemon.state ≡ until
  pub well : StandsWell pace (records_in trace) daemon.state
  pub books : KeepsBooks pace trace first_epoch until
  pub parts : KeepsParts trace daemon
  pub few : trace.cpus ≤ MOST_CPUS
  pub count : length sides ≡ trace.cpus
  pub fits : FitFrom daemon 0 sides
  pub counts : Agree (flush_before daemon.state.applied) daemon.flushes (fars_in sides)
  pub each : KnowsFrom pace trace 0 until daemon.failure sides
