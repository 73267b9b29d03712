-- What the daemon knows of its drains by its own doings, whatever the sides are.
use Rattle.std.specs.Prelude.{◌≡◌, ℕ, ◌<◌, ◌≤◌, true, if◌then◌else◌, List, [], ◌∷◌, ◌++◌, length, take, slice_get, Option, Some}
use Rattle.sample_key.specs.Sent.{Sent}
use Rattle.sample_key.specs.declared.losses.Pace.{Pace}
use Rattle.trace_model.specs.Recording.{Recording}
use Rattle.trace_model.specs.Streams.{records_in}
use Rattle.trace_model.specs.declared.notices.Record.{Record}
use Rattle.driver_model.specs.Lists.{AllOf}
use Rattle.driver_model.specs.Handover.{Given, FarSide, WasRung, new_far, rung_of, far_took_buffer, far_took_table, far_gave_buffer, far_gave_table}
use Rattle.database_model.specs.Runs.{Drained}
use Rattle.run_model.specs.Daemon.{Daemon, new_daemon, needs_flush, in_force, flush_before, is_flushed, drain_of, noted, move, advance, rungs_of}
use Rattle.run_model.specs.Shares.{batches_in}
use Rattle.run_model.specs.Validity.{flushes_of, answers_owed}
use Rattle.run_model.specs.Books.{StandsWell, KeepsBooks}
use Rattle.run_joins.specs.Joins.{AreCollected}

-- The daemon's books are kept by a batch that is noted, of a processor of the trace, and by every
-- advance.
pub record BooksAreKept : Type 0 where
  pub begins : (pace : Pace) (trace : Recording) (first_epoch : ℕ)
      → KeepsBooks pace trace first_epoch (new_daemon first_epoch)
  pub noted : (pace : Pace) (trace : Recording) (first_epoch : ℕ) (daemon : Daemon) (batch : Sent)
      → batch.note.cpu < trace.cpus → batch.note.cell ≤ 2
      → KeepsBooks pace trace first_epoch daemon
      → KeepsBooks pace trace first_epoch (noted (records_in trace) daemon batch)
  pub advanced : (pace : Pace) (trace : Recording) (first_epoch : ℕ) (daemon : Daemon)
      (fars : List FarSide) → KeepsBooks pace trace first_epoch daemon
      → KeepsBooks pace trace first_epoch (advance pace (records_in trace) fars daemon).daemon

-- What the daemon knows of one processor between any two of its calls: what it drained is what it
-- took, none of it after where it stands, and each flush up to there was complete.
pub record Collects (pace : Pace) (records : List Record) (daemon : Daemon)
    (first second third : List Drained) (far : FarSide) : Type 0 where
  pub taken0 : batches_in first ≡ far.first.taken
  pub taken1 : batches_in second ≡ far.second.taken
  pub taken2 : batches_in third ≡ far.third.taken
  pub before0 : AllOf (λ drain. drain.at ≤ daemon.applied) first
  pub before1 : AllOf (λ drain. drain.at ≤ daemon.applied) second
  pub before2 : AllOf (λ drain. drain.at ≤ daemon.applied) third
  pub collected : AreCollected pace records (flushes_of pace 0 (take daemon.applied records))
      first second third

-- a new daemon over a new side
abbrev pub CollectsFirst : Type 0
CollectsFirst = (pace : Pace) (records : List Record) (first_epoch : ℕ) (given : Option Given)
    → Collects pace records (new_daemon first_epoch) [] [] [] (new_far given)

-- a batch of buffer 0 was taken, noted and given back
abbrev pub CollectsBuffer0 : Type 0
CollectsBuffer0 = (pace : Pace) (records : List Record) (daemon : Daemon)
    (first second third : List Drained) (far : FarSide) (batch : Sent)
    → Collects pace records daemon first second third far
    → Collects pace records (noted records daemon batch)
    (first ++ drain_of records daemon batch ∷ []) second third
    (far_gave_buffer (far_took_buffer far 0 batch) 0)

-- a batch of buffer 1 was taken, noted and given back
abbrev pub CollectsBuffer1 : Type 0
CollectsBuffer1 = (pace : Pace) (records : List Record) (daemon : Daemon)
    (first second third : List Drained) (far : FarSide) (batch : Sent)
    → Collects pace records daemon first second third far
    → Collects pace records (noted records daemon batch)
    first (second ++ drain_of records daemon batch ∷ []) third
    (far_gave_buffer (far_took_buffer far 1 batch) 1)

-- a table batch was taken, noted and given back; what it answers is 0 or was rung
abbrev pub CollectsTable : Type 0
CollectsTable = (pace : Pace) (records : List Record) (daemon : Daemon)
    (first second third : List Drained) (far : FarSide) (batch : Sent) (turn : ℕ)
    → StandsWell pace records daemon
    → WasRung batch.note.answers (rungs_of pace records daemon)
    → Collects pace records daemon first second third far
    → Collects pace records (noted records daemon batch)
    first second (third ++ drain_of records daemon batch ∷ [])
    (far_gave_table (far_took_table far batch turn))

-- the next record was put in force; where it needs a flush that was complete
abbrev pub CollectsMove : Type 0
CollectsMove = (pace : Pace) (records : List Record) (daemon : Daemon) (notice : Record)
    (first second third : List Drained) (far : FarSide)
    → slice_get records daemon.applied ≡ Some notice
    → (needs_flush pace notice ≡ true → is_flushed (flush_before daemon.applied) far ≡ true)
    → Collects pace records daemon first second third far
    → Collects pace records (move daemon notice).daemon first second third far

-- at the end the close was complete
abbrev pub CollectsAll : Type 0
CollectsAll = (pace : Pace) (records : List Record) (daemon : Daemon)
    (first second third : List Drained) (far : FarSide)
    → daemon.applied ≡ length records
    → is_flushed (flush_before daemon.applied) far ≡ true
    → Collects pace records daemon first second third far
    → AreCollected pace records (answers_owed pace records) first second third

-- Each of the daemon's doings keeps what it knows, by what a poll promises of a table batch: its
-- answer was rung. At the end all flushes and the close were complete.
pub record DaemonsCollect : Type 0 where
  pub begins : CollectsFirst
  pub buffer0 : CollectsBuffer0
  pub buffer1 : CollectsBuffer1
  pub table : CollectsTable
  pub moved : CollectsMove
  pub finished : CollectsAll

-- the bell value of a daemon that stands there
abbrev pub bell_at : Daemon → ℕ
bell_at daemon =
    if daemon.asking then flush_before daemon.applied else in_force daemon.applied

-- The value rung last says where the daemon stands.
abbrev pub BellIsKnown : Type 0
BellIsKnown = (pace : Pace) (records : List Record) (daemon : Daemon)
    → daemon.applied ≤ length records → rung_of (rungs_of pace records daemon) ≡ bell_at daemon
