-- A run whose threads have ended: what is known of its processors and of the daemon's drains where
-- they are joined, and that its record is valid then. No fact says in which order two cells were
-- handed and taken.
use Rattle.std.specs.Prelude.{◌≡◌, ℕ, ◌%◌, ◌<◌, ◌≤◌, true, List, [], ◌++◌, length, take}
use Rattle.sample_key.specs.Sent.{Sent}
use Rattle.sample_key.specs.declared.losses.Pace.{Pace}
use Rattle.trace_model.specs.Recording.{Recording}
use Rattle.trace_model.specs.Streams.{stream_of, records_in}
use Rattle.trace_model.specs.declared.notices.Record.{Record}
use Rattle.driver_model.specs.Lists.{AllOf, SomeOf}
use Rattle.driver_model.specs.Sides.{Side}
use Rattle.driver_model.specs.Driver.{Driver}
use Rattle.driver_model.specs.Invariant.{DriverInvariant}
use Rattle.database_model.specs.Runs.{Drained, Recorded}
use Rattle.run_model.specs.Daemon.{flush_before}
use Rattle.run_model.specs.Running.{setup_of}
use Rattle.run_model.specs.Shares.{Share, share_of, share_in, batches_in, AgreesWith}
use Rattle.run_model.specs.Validity.{AreDrains, IsDueAt, IsValidShare, IsValidRun, IsPartialShare, IsPartialRun, flushes_of, answers_owed}

-- A table batch answers a value that was rung by the time that it was drained: an odd one is a
-- flush that was asked for by then, or the close.
pub record IsAsked (pace : Pace) (records : List Record) (drain : Drained) : Type 0 where
  pub owed : drain.batch.note.answers % 2 ≡ 1
      → SomeOf (λ value. value ≡ drain.batch.note.answers) (answers_owed pace records)
  pub by_then : drain.batch.note.answers ≤ flush_before drain.at

-- A flush was complete before the next record was put in force: this table batch answers it, and it
-- and the buffers that it names were drained by then.
pub record Completes (first second : List Drained) (value : ℕ) (drain : Drained) : Type 0 where
  pub answers : drain.batch.note.answers ≡ value
  pub at : flush_before drain.at ≤ value
  pub count0 : drain.batch.note.sent0 ≤ length first
  pub count1 : drain.batch.note.sent1 ≤ length second
  pub before0 : AllOf (λ earlier. flush_before earlier.at ≤ value)
      (take drain.batch.note.sent0 first)
  pub before1 : AllOf (λ earlier. flush_before earlier.at ≤ value)
      (take drain.batch.note.sent1 second)

-- what the daemon knows of the batches that it drained of one processor, where these flushes were
-- complete
pub record AreCollected (pace : Pace) (records : List Record) (values : List ℕ)
    (first second third : List Drained) : Type 0 where
  pub asked : AllOf (IsAsked pace records) third
  pub complete : AllOf (λ value. SomeOf (Completes first second value) third) values

-- One processor of a run whose threads have ended: its driver has answered the close, all that it
-- handed was drained, no batch before its samples were due, and each flush was complete before the
-- next record.
pub record IsJoined (pace : Pace) (trace : Recording) (cpu : ℕ) (driver : Driver) (side : Side)
    (share : Share) : Type 0 where
  pub lane : DriverInvariant (setup_of pace trace cpu) driver side
  pub buckets : side.buckets ≡ trace.buckets
  pub done : driver.done ≡ true
  pub losses : share.losses ≡ driver.losses
  pub all0 : batches_in share.first ≡ side.first.handed
  pub all1 : batches_in share.second ≡ side.second.handed
  pub all2 : batches_in share.third ≡ side.third.handed
  pub due0 : AllOf (IsDueAt (stream_of cpu trace)) share.first
  pub due1 : AllOf (IsDueAt (stream_of cpu trace)) share.second
  pub due2 : AllOf (IsDueAt (stream_of cpu trace)) share.third
  pub collected : AreCollected pace (records_in trace) (answers_owed pace (records_in trace))
      share.first share.second share.third

-- Then what the record says of it is valid, and its statistics agree.
abbrev pub JoinsAreValid : Type 0
JoinsAreValid = (pace : Pace) (trace : Recording) (cpu : ℕ) (driver : Driver) (side : Side)
    (share : Share) → IsJoined pace trace cpu driver side share
    → IsValidShare pace trace (stream_of cpu trace) share
    × AgreesWith (length (stream_of cpu trace)) share driver.stats

-- some driver and side of this processor were joined with this share
abbrev pub WasJoined : Pace → Recording → ℕ → Share → Type 0
WasJoined pace trace cpu share =
    (driver : Driver) × (side : Side) × IsJoined pace trace cpu driver side share

-- And the record is valid where this is so of all processors, and the drains have their places.
abbrev pub JoinedRunsAreValid : Type 0
JoinedRunsAreValid = (pace : Pace) (trace : Recording) (kept : Recorded)
    → length kept.losses ≡ trace.cpus → AreDrains trace kept.first_epoch kept.drains
    → ((cpu : ℕ) → cpu < trace.cpus → WasJoined pace trace cpu (share_of kept cpu))
    → IsValidRun pace trace kept

-- these batches were handed first
abbrev pub AreFirst : List Drained → List Sent → Type 0
AreFirst drains handed = (rest : List Sent) × (batches_in drains ++ rest ≡ handed)

-- One processor of a run that kept a fault while so many records were in force: what was drained
-- before is what its driver handed first, no batch before its samples were due, and each flush up
-- to there was complete before the next record. What the driver did later does not matter.
pub record IsCutShort (pace : Pace) (trace : Recording) (cpu applied : ℕ) (driver : Driver)
    (side : Side) (share : Share) : Type 0 where
  pub within : applied ≤ length (records_in trace)
  pub lane : DriverInvariant (setup_of pace trace cpu) driver side
  pub buckets : side.buckets ≡ trace.buckets
  pub losses : share.losses ≡ []
  pub first0 : AreFirst share.first side.first.handed
  pub first1 : AreFirst share.second side.second.handed
  pub first2 : AreFirst share.third side.third.handed
  pub due0 : AllOf (IsDueAt (stream_of cpu trace)) share.first
  pub due1 : AllOf (IsDueAt (stream_of cpu trace)) share.second
  pub due2 : AllOf (IsDueAt (stream_of cpu trace)) share.third
  pub before : AllOf (λ drain. drain.at ≤ applied) share.third
  pub collected : AreCollected pace (records_in trace)
      (flushes_of pace 0 (take applied (records_in trace))) share.first share.second share.third

-- Then what was drained of it is valid as of a run that was cut short.
abbrev pub CutsAreValid : Type 0
CutsAreValid = (pace : Pace) (trace : Recording) (cpu applied : ℕ) (driver : Driver) (side : Side)
    (share : Share) → IsCutShort pace trace cpu applied driver side share
    → IsPartialShare pace trace (stream_of cpu trace) share

-- some driver and side of this processor were joined with this share after a kept fault
abbrev pub WasCutShort : Pace → Recording → ℕ → ℕ → Share → Type 0
WasCutShort pace trace cpu applied share =
    (driver : Driver) × (side : Side) × IsCutShort pace trace cpu applied driver side share

-- And so are the drains of a run of which this is so of all processors.
abbrev pub CutRunsAreValid : Type 0
CutRunsAreValid = (pace : Pace) (trace : Recording) (first_epoch applied : ℕ)
    (drained : List Drained) → AreDrains trace first_epoch drained
    → ((cpu : ℕ) → cpu < trace.cpus
    → WasCutShort pace trace cpu applied (share_in drained [] cpu))
    → IsPartialRun pace trace first_epoch drained
