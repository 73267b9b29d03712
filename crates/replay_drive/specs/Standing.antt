-- A replay stands where the run of its trace stands.
use Rattle.std.specs.Prelude.{◌≡◌, ℕ, Bool, true, false, List, [], None}
use Rattle.sample_key.specs.declared.losses.Pace.TheVariants.{Free}
use Rattle.trace_model.specs.Recording.{Recording}
use Rattle.run_model.specs.declared.advances.Advanced.{Advanced}
use Rattle.run_model.specs.declared.advances.Advanced.TheVariants.{Moved, Opened, Waiting, Finished}
use Rattle.lane_side.specs.Plain.{Plain}
use Rattle.cpu_lane.specs.Seen.{Seen}
use Rattle.run_model.specs.Daemon.{Daemon, flush_before}
use Rattle.run_model.specs.Running.{System}
use Rattle.dcpid_core.specs.Collection.{Collection, FitFrom}
use Rattle.dcpid_core.specs.Counting.{Agree, fars_in}
use Rattle.replay_drive.specs.Players.{ArePlayers, processors_of}

-- a daemon but for its drains
abbrev pub without_drains : Daemon → Daemon
without_drains daemon = record daemon { drains = [] }

-- The lanes and sides are the processors of the run, and the daemon stands where the run's daemon stands; while it keeps no fault
-- it has the same drains.
pub record StandsAt (trace : Recording) (run first_epoch : ℕ) (lanes : List Seen)
    (sides : List Plain) (daemon : Collection) (system : System) : Type 0 where
  pub players : ArePlayers Free trace 0 lanes sides
  pub processors : system.processors ≡ processors_of lanes sides
  pub trace_is : daemon.trace ≡ trace
  pub pace_is : daemon.pace ≡ Free
  pub run_is : daemon.run ≡ run
  pub first_is : daemon.first_epoch ≡ first_epoch
  pub state : without_drains daemon.state ≡ without_drains system.daemon
  pub drains : daemon.failure ≡ None → daemon.state.drains ≡ system.daemon.drains
  pub fits : FitFrom daemon 0 sides
  pub counts : Agree (flush_before daemon.state.applied) daemon.flushes (fars_in sides)

-- whether an advance ended the run
abbrev pub ends_run : Advanced → Bool
ends_run Moved = false
ends_run Opened = false
ends_run (Waiting cpu) = false
ends_run Finished = true
