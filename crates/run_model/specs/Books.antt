-- What holds of the daemon between any two of its calls: where it stands, its epoch, and its
-- drains.
use Rattle.std.specs.Prelude.{◌≡◌, ℕ, ◌≤◌, true, List, length, take, slice_get, Option, Some, None}
use Rattle.sample_key.specs.declared.losses.Pace.{Pace}
use Rattle.trace_model.specs.Parts.{epoch_after}
use Rattle.trace_model.specs.Recording.{Recording}
use Rattle.trace_model.specs.Streams.{records_in}
use Rattle.trace_model.specs.declared.notices.Record.{Record}
use Rattle.driver_model.specs.Lists.{AllOf}
use Rattle.database_model.specs.Runs.{Drained}
use Rattle.run_model.specs.Daemon.{Daemon, needs_flush}
use Rattle.run_model.specs.Validity.{AreDrains}

-- while a flush is asked for, the next record needs it, or none is left
abbrev pub AsksInNeed : Pace → Option Record → Type 0
AsksInNeed pace None = Unit {0}
AsksInNeed pace (Some notice) = needs_flush pace notice ≡ true

-- The daemon stands at a record of the trace or at its end, and asks for a flush only where it is
-- needed.
pub record StandsWell (pace : Pace) (records : List Record) (daemon : Daemon) : Type 0 where
  pub within : daemon.applied ≤ length records
  pub need : daemon.asking ≡ true → AsksInNeed pace (slice_get records daemon.applied)

-- a drain is not after the daemon's position and epoch
abbrev pub IsBefore : Daemon → Drained → Type 0
IsBefore daemon drain = (drain.at ≤ daemon.applied) × (drain.epoch ≤ daemon.epoch)

-- The daemon's books: where it stands, its epoch, and its drains, each with its place.
pub record KeepsBooks (pace : Pace) (trace : Recording) (first_epoch : ℕ) (daemon : Daemon)
    : Type 0 where
  pub stands : StandsWell pace (records_in trace) daemon
  pub epoch : daemon.epoch ≡ epoch_after first_epoch (take daemon.applied (records_in trace))
  pub drains : AreDrains trace first_epoch daemon.drains
  pub before : AllOf (IsBefore daemon) daemon.drains
