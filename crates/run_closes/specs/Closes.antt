-- A run whose threads have ended and whose cells were closed: what each processor knows then, and
-- that all that its driver handed was drained.
use Rattle.std.specs.Prelude.{◌≡◌, ℕ, ◌/◌, ◌≤◌, true, List, length}
use Rattle.sample_key.specs.Marks.{due}
use Rattle.sample_key.specs.Sent.{Sent}
use Rattle.sample_key.specs.declared.keys.Marked.{Marked}
use Rattle.sample_key.specs.declared.losses.Pace.{Pace}
use Rattle.trace_model.specs.Recording.{Recording}
use Rattle.trace_model.specs.Streams.{stream_of, records_in}
use Rattle.trace_model.specs.declared.notices.Record.{Record}
use Rattle.driver_model.specs.Lists.{AllOf}
use Rattle.driver_model.specs.Sides.{Slot, Side}
use Rattle.driver_model.specs.Handover.{FarSlot, FarSide, IsHandover, rung_of}
use Rattle.driver_model.specs.Driver.{Setup, Driver}
use Rattle.driver_model.specs.Invariant.{DriverInvariant}
use Rattle.database_model.specs.Runs.{Drained}
use Rattle.run_model.specs.Daemon.{Daemon, drain_of, flush_before, is_flushed, rungs_of}
use Rattle.run_model.specs.Running.{setup_of}
use Rattle.run_model.specs.Shares.{Share, batches_in}
use Rattle.run_model.specs.Validity.{IsDueAt, answers_owed}
use Rattle.run_joins.specs.Joins.{AreCollected, AreFirst, IsJoined}

-- A cell was closed: with some word, and so many give-backs, what was handed and what was taken met
-- the handover.
abbrev pub WasHandedOver : Slot → FarSlot → Type 0
WasHandedOver slot far = (given : ℕ) × (word : ℕ)
    × IsHandover slot.handed far.taken given word slot.holds far.holds

-- all that was handed was taken
pub record IsAllTaken (side : Side) (far : FarSide) : Type 0 where
  pub first : far.first.taken ≡ side.first.handed
  pub second : far.second.taken ≡ side.second.handed
  pub third : far.third.taken ≡ side.third.handed

-- Where the driver answered the close, and the daemon has found that flush complete, all that was
-- handed was taken, though each cell by itself says so but for its last batch.
abbrev pub AllIsTaken : Type 0
AllIsTaken = (setup : Setup) (driver : Driver) (side : Side) (far : FarSide)
    → DriverInvariant setup driver side → driver.done ≡ true
    → WasHandedOver side.first far.first → WasHandedOver side.second far.second
    → WasHandedOver side.third far.third
    → is_flushed setup.last far ≡ true
    → IsAllTaken side far

-- One processor of a run whose threads have ended: its driver has answered the close, its cells
-- were closed, the daemon has drained what it took, no batch before its samples were due, and has
-- found each flush complete before the next record, and at last the close.
pub record WasClosed (pace : Pace) (trace : Recording) (cpu : ℕ) (driver : Driver) (side : Side)
    (far : FarSide) (share : Share) : Type 0 where
  pub lane : DriverInvariant (setup_of pace trace cpu) driver side
  pub buckets : side.buckets ≡ trace.buckets
  pub done : driver.done ≡ true
  pub losses : share.losses ≡ driver.losses
  pub cell0 : WasHandedOver side.first far.first
  pub cell1 : WasHandedOver side.second far.second
  pub cell2 : WasHandedOver side.third far.third
  pub taken0 : batches_in share.first ≡ far.first.taken
  pub taken1 : batches_in share.second ≡ far.second.taken
  pub taken2 : batches_in share.third ≡ far.third.taken
  pub flushed : is_flushed (flush_before (length (records_in trace))) far ≡ true
  pub due0 : AllOf (IsDueAt (stream_of cpu trace)) share.first
  pub due1 : AllOf (IsDueAt (stream_of cpu trace)) share.second
  pub due2 : AllOf (IsDueAt (stream_of cpu trace)) share.third
  pub collected : AreCollected pace (records_in trace) (answers_owed pace (records_in trace))
      share.first share.second share.third

-- Then it is joined, so that what the record says of it is valid.
abbrev pub ClosesAreJoined : Type 0
ClosesAreJoined = (pace : Pace) (trace : Recording) (cpu : ℕ) (driver : Driver) (side : Side)
    (far : FarSide) (share : Share) → WasClosed pace trace cpu driver side far share
    → IsJoined pace trace cpu driver side share

-- What was drained of a cell until a fault was kept is what was handed first: it is the front of
-- what was taken.
abbrev pub FrontsAreFirst : Type 0
FrontsAreFirst = (slot : Slot) (far : FarSlot) (drains : List Drained)
    → WasHandedOver slot far → AreFirst drains far.taken
    → AreFirst drains slot.handed

-- A batch that goes up to no more samples than were due at the value rung last is drained no
-- earlier than its samples were due.
abbrev pub PollsAreTimely : Type 0
PollsAreTimely = (pace : Pace) (records : List Record) (daemon : Daemon) (samples : List Marked)
    (batch : Sent) → daemon.applied ≤ length records
    → batch.note.upto ≤ due samples (rung_of (rungs_of pace records daemon) / 2)
    → IsDueAt samples (drain_of records daemon batch)
