-- The daemon: what it notes of the batches that it takes, and when it puts the next record in
-- force.
use Rattle.std.specs.Prelude.{ℕ, ◌+◌, ◌*◌, ◌==◌, ◌&&◌, nat_le, Bool, true, false, if◌then◌else◌, List, [], ◌∷◌, ◌++◌, length, map, take, slice_get, is_some, Option, Some, None}
use Rattle.sample_key.specs.Counted.{Counted}
use Rattle.sample_key.specs.Sent.{Sent}
use Rattle.sample_key.specs.declared.losses.Pace.{Pace}
use Rattle.sample_key.specs.declared.losses.Pace.TheVariants.{Free, Exact}
use Rattle.trace_model.specs.Attribution.{place_at}
use Rattle.trace_model.specs.Parts.{begins_epoch}
use Rattle.trace_model.specs.declared.notices.Record.{Record}
use Rattle.trace_model.specs.declared.notices.Record.TheVariants.{Scan, Load, Unload, Exec, Exit, Kernel, Drain, Merge, Epoch}
use Rattle.driver_model.specs.Handover.{FarSide}
use Rattle.database_model.specs.Runs.{Drained}
use Rattle.run_model.specs.declared.advances.Advanced.{Advanced}
use Rattle.run_model.specs.declared.advances.Advanced.TheVariants.{Moved, Opened, Waiting, Finished}

-- the daemon, while it keeps no fault
pub record Daemon : Type 0 where
  -- how many records are in force
  pub applied : ℕ
  -- whether a flush is asked for before the next record, or the close
  pub asking : Bool
  -- the epoch
  pub epoch : ℕ
  -- the batches drained, in order
  pub drains : List Drained
  -- whether the close is complete
  pub finished : Bool

-- a new daemon
abbrev pub new_daemon : ℕ → Daemon
new_daemon first_epoch = record {
  applied = 0;
  asking = false;
  epoch = first_epoch;
  drains = [];
  finished = false;
}

-- whether a record waits for a flush before it is put in force: at the exact pace each does
abbrev pub needs_flush : Pace → Record → Bool
needs_flush Exact notice = true
needs_flush Free (Scan pid base size image) = false
needs_flush Free (Load pid base size image) = false
needs_flush Free (Unload pid base size) = false
needs_flush Free (Exec pid base size image) = false
needs_flush Free (Exit pid) = false
needs_flush Free (Kernel base size image) = false
needs_flush Free Drain = true
needs_flush Free Merge = false
needs_flush Free Epoch = true

-- the bell value that says that so many records are in force
abbrev pub in_force : ℕ → ℕ
in_force applied = 2 * applied

-- the bell value that asks besides for a flush before the next record, or for the close where none
-- is left
abbrev pub flush_before : ℕ → ℕ
flush_before applied = 2 * applied + 1

-- whether the place of an entry is known, when so many records are in force
abbrev pub is_known : List Record → ℕ → Counted → Bool
is_known records applied counted = is_some (place_at records applied counted.key.pid counted.key.pc)

-- the drain of a batch that is taken now
abbrev pub drain_of : List Record → Daemon → Sent → Drained
drain_of records daemon batch = record {
  at = daemon.applied;
  epoch = daemon.epoch;
  batch = batch;
  known = map (is_known records daemon.applied) batch.entries;
}

-- the daemon after it took this batch
abbrev pub noted : List Record → Daemon → Sent → Daemon
noted records daemon batch =
    record daemon { drains = daemon.drains ++ drain_of records daemon batch ∷ [] }

-- the first table batch that answers this value
abbrev pub answering : ℕ → List Sent → Option Sent
answering value [] = None
answering value (batch ∷ batches) =
    if batch.note.answers == value then Some batch else answering value batches

-- whether the buffers that a table batch names as sent were taken
abbrev pub reaches : FarSide → Option Sent → Bool
reaches far None = false
reaches far (Some batch) =
    nat_le batch.note.sent0 (length far.first.taken)
    && nat_le batch.note.sent1 (length far.second.taken)

-- whether a processor's flush is complete: the table batch that answers this value was taken, and
-- the buffers that it names
abbrev pub is_flushed : ℕ → FarSide → Bool
is_flushed value far = reaches far (answering value far.third.taken)

-- the first of these processors, numbered from here on, whose flush is not complete
abbrev pub first_waiting : ℕ → ℕ → List FarSide → Option ℕ
first_waiting value cpu [] = None
first_waiting value cpu (far ∷ fars) =
    if is_flushed value far then first_waiting value (cpu + 1) fars else Some cpu

-- what an advance does: its answer, the daemon afterwards, and the bell value that is rung on all
-- processors, if one is
pub record Advancing : Type 0 where
  pub answer : Advanced
  pub daemon : Daemon
  pub ring : Option ℕ

-- the next record is put in force
abbrev pub move : Daemon → Record → Advancing
move daemon notice = record {
  answer = Moved;
  daemon = record daemon {
    applied = daemon.applied + 1;
    asking = false;
    epoch = daemon.epoch + (if begins_epoch notice then 1 else 0);
  };
  ring = Some (in_force (daemon.applied + 1));
}

-- a flush is asked for, or the close
abbrev pub ask : Daemon → Advancing
ask daemon = record {
  answer = Opened;
  daemon = record daemon { asking = true };
  ring = Some (flush_before daemon.applied);
}

-- what was asked for is complete: the next record is put in force, and where none is left the run
-- is finished
abbrev pub settle : Daemon → Option Record → Advancing
settle daemon None = record {
  answer = Finished;
  daemon = record daemon { finished = true };
  ring = None;
}
settle daemon (Some notice) = move daemon notice

-- a flush is asked for: the first processor of which it is not complete is waited for
abbrev pub go_on : List Record → Daemon → Option ℕ → Advancing
go_on records daemon None = settle daemon (slice_get records daemon.applied)
go_on records daemon (Some cpu) = record { answer = Waiting cpu; daemon = daemon; ring = None }

-- nothing is asked for: the next record is put in force, or asks for a flush, and where none is
-- left the close is asked for
abbrev pub begin : Pace → Daemon → Option Record → Advancing
begin pace daemon None = ask daemon
begin pace daemon (Some notice) = if needs_flush pace notice then ask daemon else move daemon notice

-- one advance of the daemon over its processors
abbrev pub advance : Pace → List Record → List FarSide → Daemon → Advancing
advance pace records fars daemon =
    if daemon.asking
    then go_on records daemon (first_waiting (flush_before daemon.applied) 0 fars)
    else begin pace daemon (slice_get records daemon.applied)

-- the values rung while these records, numbered from here on, were put in force
abbrev pub rungs_before : Pace → ℕ → List Record → List ℕ
rungs_before pace number [] = []
rungs_before pace number (notice ∷ records) =
    (if needs_flush pace notice
    then flush_before number ∷ in_force (number + 1) ∷ []
    else in_force (number + 1) ∷ [])
    ++ rungs_before pace (number + 1) records

-- the values that a daemon rang so far, in order: they follow from where it stands
abbrev pub rungs_of : Pace → List Record → Daemon → List ℕ
rungs_of pace records daemon =
    rungs_before pace 0 (take daemon.applied records)
    ++ (if daemon.asking then flush_before daemon.applied ∷ [] else [])
