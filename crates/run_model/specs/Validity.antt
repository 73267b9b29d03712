-- When the record of a run is valid, and when the drains are valid of a run that was cut short.
use Rattle.std.specs.Prelude.{◌≡◌, ℕ, ◌+◌, ◌<◌, ◌≤◌, if◌then◌else◌, List, [], ◌∷◌, ◌++◌, length, map, take, slice_get, IsSomeAnd}
use Rattle.sample_key.specs.Bags.{times, lost, lost_below}
use Rattle.sample_key.specs.Marks.{due}
use Rattle.sample_key.specs.declared.keys.Key.{Key}
use Rattle.sample_key.specs.declared.keys.Marked.{Marked}
use Rattle.sample_key.specs.declared.losses.Loss.{Loss}
use Rattle.sample_key.specs.declared.losses.Pace.{Pace}
use Rattle.trace_model.specs.Parts.{epoch_after}
use Rattle.trace_model.specs.Recording.{Recording}
use Rattle.trace_model.specs.Streams.{stream_of, records_in}
use Rattle.trace_model.specs.declared.notices.Record.{Record}
use Rattle.driver_model.specs.Lists.{Each, AllOf}
use Rattle.driver_model.specs.Table.{FitsTable}
use Rattle.driver_model.specs.Invariant.{IsWholeFlush, InOrder, FullOrCut, IsExplained}
use Rattle.driver_model.specs.declared.plans.Stats.{Stats}
use Rattle.database_model.specs.Runs.{Drained, Recorded}
use Rattle.run_model.specs.Daemon.{needs_flush, flush_before, is_known}
use Rattle.run_model.specs.Shares.{Share, share_in, share_of, batches_in, drained_weight, drained_upto, AgreesWith}

-- Each sample of a processor is counted once in its drains or lost, key by key.
abbrev pub AreCountedOnce : List Marked → Share → Type 0
AreCountedOnce samples share = (key : Key) →
    drained_weight key share + lost key samples share.losses ≡ times key samples

-- Its drains count no key more often than its samples.
abbrev pub AreOfSamples : List Marked → Share → Type 0
AreOfSamples samples share = (key : Key) → drained_weight key share ≤ times key samples

-- The losses rise by index, and each is of a sample and has its event.
abbrev pub AreLostSamples : List Marked → List Loss → Type 0
AreLostSamples samples losses = Each (λ done loss.
    (loss.index < length samples) × AllOf (λ earlier. earlier.index < loss.index) done
    × IsSomeAnd (slice_get samples loss.index) (λ sample. loss.event ≡ sample.key.event)) losses

-- a buffer batch has at least one entry and at most so many
abbrev pub FitsBuffer : ℕ → Drained → Type 0
FitsBuffer size drain = (1 ≤ length drain.batch.entries) × (length drain.batch.entries ≤ size)

-- The batches of each cell are numbered 1, 2, 3 and so on, go up to no fewer samples than those
-- before, and fit their cell.
pub record AreInOrder (buckets size : ℕ) (share : Share) : Type 0 where
  pub order0 : InOrder (batches_in share.first)
  pub order1 : InOrder (batches_in share.second)
  pub order2 : InOrder (batches_in share.third)
  pub sizes0 : AllOf (FitsBuffer size) share.first
  pub sizes1 : AllOf (FitsBuffer size) share.second
  pub tables : AllOf (λ drain. FitsTable buckets drain.batch.entries) share.third

-- A buffer batch is full, or shorter where a table batch was handed just after it.
pub record AreFullOrCut (size : ℕ) (share : Share) : Type 0 where
  pub first : AllOf (FullOrCut 0 size (batches_in share.third)) (batches_in share.first)
  pub second : AllOf (FullOrCut 1 size (batches_in share.third)) (batches_in share.second)

-- no batch was drained before its samples were due
abbrev pub IsDueAt : List Marked → Drained → Type 0
IsDueAt samples drain = drain.batch.note.upto ≤ due samples drain.at

-- Batches come from the samples before them: those that go up to at most n samples count, with the
-- losses below n, no key more often than the first n samples.
abbrev pub AreBounded : List Marked → Share → Type 0
AreBounded samples share = (count : ℕ) (key : Key) →
    drained_upto key count share + lost_below key count samples share.losses
    ≤ times key (take count samples)

-- No batch was drained before its samples were due, and none counts samples after it.
pub record AreTimely (samples : List Marked) (share : Share) : Type 0 where
  pub due0 : AllOf (IsDueAt samples) share.first
  pub due1 : AllOf (IsDueAt samples) share.second
  pub due2 : AllOf (IsDueAt samples) share.third
  pub bounded : AreBounded samples share

-- At each loss both buffers were out.
abbrev pub AreExplained : Share → Type 0
AreExplained share =
    AllOf (IsExplained (batches_in share.first) (batches_in share.second)) share.losses

-- Each table batch is a whole flush.
abbrev pub AreFlushes : List Marked → Share → Type 0
AreFlushes samples share =
    Each (IsWholeFlush samples (batches_in share.first) (batches_in share.second) share.losses)
    (batches_in share.third)

-- the flushes that these records, numbered from here on, ask for
abbrev pub flushes_of : Pace → ℕ → List Record → List ℕ
flushes_of pace number [] = []
flushes_of pace number (notice ∷ records) =
    if needs_flush pace notice
    then flush_before number ∷ flushes_of pace (number + 1) records
    else flushes_of pace (number + 1) records

-- the values that a driver answers in a whole run: a flush before each record that needs one, and
-- the close
abbrev pub answers_owed : Pace → List Record → List ℕ
answers_owed pace records = flushes_of pace 0 records ++ flush_before (length records) ∷ []

-- the values that the table batches answer
abbrev pub answers_in : List Drained → List ℕ
answers_in drains = map (λ drain. drain.batch.note.answers) drains

-- A table batch was drained while its flush was asked for, and the buffers that it names then or
-- before.
pub record IsTakenInTime (first second : List Drained) (drain : Drained) : Type 0 where
  pub now : drain.batch.note.answers ≡ flush_before drain.at
  pub before0 : AllOf (λ earlier. earlier.at ≤ drain.at) (take drain.batch.note.sent0 first)
  pub before1 : AllOf (λ earlier. earlier.at ≤ drain.at) (take drain.batch.note.sent1 second)

-- The table batches answer what is owed, each in its time.
pub record AreAnswered (pace : Pace) (records : List Record) (share : Share) : Type 0 where
  pub answers : answers_in share.third ≡ answers_owed pace records
  pub times : AllOf (IsTakenInTime share.first share.second) share.third

-- what a valid record says of a processor with these samples
pub record IsValidShare (pace : Pace) (trace : Recording) (samples : List Marked) (share : Share)
    : Type 0 where
  pub counted : AreCountedOnce samples share
  pub lost : AreLostSamples samples share.losses
  pub in_order : AreInOrder trace.buckets trace.buffer share
  pub full_or_cut : AreFullOrCut trace.buffer share
  pub timely : AreTimely samples share
  pub explained : AreExplained share
  pub flushes : AreFlushes samples share
  pub answered : AreAnswered pace (records_in trace) share

-- a drain is of a cell of a processor of the trace
abbrev pub IsOfTrace : Recording → Drained → Type 0
IsOfTrace trace drain = (drain.batch.note.cpu < trace.cpus) × (drain.batch.note.cell ≤ 2)

-- A drain at one of the positions of a trace has the epoch of its position, and its flags say which
-- places were known there.
pub record IsPlaced (records : List Record) (first_epoch : ℕ) (drain : Drained) : Type 0 where
  pub at : drain.at ≤ length records
  pub epoch : drain.epoch ≡ epoch_after first_epoch (take drain.at records)
  pub known : drain.known ≡ map (is_known records drain.at) drain.batch.entries

-- Over all processors: each drain is of one of them and has its place, and positions and epochs
-- never fall.
pub record AreDrains (trace : Recording) (first_epoch : ℕ) (drains : List Drained) : Type 0 where
  pub of_trace : AllOf (IsOfTrace trace) drains
  pub placed : AllOf (IsPlaced (records_in trace) first_epoch) drains
  pub later : Each (λ done drain.
      AllOf (λ earlier. (earlier.at ≤ drain.at) × (earlier.epoch ≤ drain.epoch)) done) drains

-- The record of a whole run of a trace is valid.
pub record IsValidRun (pace : Pace) (trace : Recording) (kept : Recorded) : Type 0 where
  pub processors : length kept.losses ≡ trace.cpus
  pub drains : AreDrains trace kept.first_epoch kept.drains
  pub shares : (cpu : ℕ) → cpu < trace.cpus
      → IsValidShare pace trace (stream_of cpu trace) (share_of kept cpu)

-- The table batches answer the first values that are owed, each while its flush was asked for.
pub record AreAnsweredSoFar (pace : Pace) (records : List Record) (share : Share) : Type 0 where
  pub answers : (rest : List ℕ) × (answers_in share.third ++ rest ≡ answers_owed pace records)
  pub now : AllOf (λ drain. drain.batch.note.answers ≡ flush_before drain.at) share.third

-- what the drains of a run that did not come to its end say of a processor
pub record IsPartialShare (pace : Pace) (trace : Recording) (samples : List Marked) (share : Share)
    : Type 0 where
  pub of_samples : AreOfSamples samples share
  pub in_order : AreInOrder trace.buckets trace.buffer share
  pub timely : AreTimely samples share
  pub answered : AreAnsweredSoFar pace (records_in trace) share

-- The drains of a run that did not come to its end are valid.
pub record IsPartialRun (pace : Pace) (trace : Recording) (first_epoch : ℕ)
    (drained : List Drained) : Type 0 where
  pub drains : AreDrains trace first_epoch drained
  pub shares : (cpu : ℕ) → cpu < trace.cpus
      → IsPartialShare pace trace (stream_of cpu trace) (share_in drained [] cpu)

-- The statistics of a run agree with its record.
pub record StatisticsAgree (trace : Recording) (kept : Recorded) (stats : List Stats) : Type 0 where
  pub processors : length stats ≡ trace.cpus
  pub each : (cpu : ℕ) → cpu < trace.cpus
      → IsSomeAnd (slice_get stats cpu)
      (AgreesWith (length (stream_of cpu trace)) (share_of kept cpu))
