-- The laws of a run: what holds of it under every schedule, at both paces.
use Rattle.std.specs.Prelude.{◌≡◌, ℕ, ◌<◌, ◌≤◌, true, List, [], ◌++◌, length, map, slice_get, Some}
use Rattle.std.specs.List.{AllByRecursion}
use Rattle.sample_key.specs.Marks.{due}
use Rattle.sample_key.specs.declared.keys.Marked.{Marked}
use Rattle.sample_key.specs.declared.losses.Pace.{Pace}
use Rattle.sample_key.specs.declared.losses.Pace.TheVariants.{Exact}
use Rattle.trace_model.specs.Parts.{part_of}
use Rattle.trace_model.specs.Recording.{Recording}
use Rattle.trace_model.specs.Streams.{IsStream, names_below, stream_of, records_in}
use Rattle.trace_model.specs.declared.limits.TheConstants.{MOST_CPUS, MOST_RECORDS, MOST_PARTS}
use Rattle.trace_model.specs.declared.notices.Step.{Step}
use Rattle.driver_model.specs.Lists.{AllOf}
use Rattle.driver_model.specs.Sides.{Slot}
use Rattle.driver_model.specs.Handover.{FarSlot, IsHandover, IsBell}
use Rattle.driver_model.specs.declared.plans.Stats.{Stats}
use Rattle.database_model.specs.Runs.{Drained}
use Rattle.database_model.specs.Ranges.{IsRecorded, IsSegment}
use Rattle.run_model.specs.Daemon.{Daemon}
use Rattle.run_model.specs.Running.{Processor, System, counts_of, words_of, start, after_steps, record_of}
use Rattle.run_model.specs.Shares.{drains_of, drains_in_part, segment_of, last_part}
use Rattle.run_model.specs.Validity.{IsValidRun, IsPartialRun, StatisticsAgree}

-- a trace within the limits that a run rests on
pub record IsFit (trace : Recording) : Type 0 where
  pub some : 1 ≤ trace.cpus
  pub cpus : trace.cpus ≤ MOST_CPUS
  pub buckets : 1 ≤ trace.buckets
  pub buffer : 1 ≤ trace.buffer
  pub records : length (records_in trace) ≤ MOST_RECORDS
  pub parts : last_part (records_in trace) ≤ MOST_PARTS
  pub streams : (cpu : ℕ) → IsStream (length (records_in trace)) (stream_of cpu trace)
  pub named : AllByRecursion (names_below trace.cpus) trace.lines

-- the statistics of a run
abbrev pub stats_of : System → List Stats
stats_of system = map (λ processor. processor.driver.stats) system.processors

-- the run so far, under any schedule
abbrev pub run_so_far : Pace → Recording → ℕ → List Step → System
run_so_far pace trace first_epoch steps = after_steps pace trace (start trace first_epoch) steps

-- such a run is finished
abbrev pub IsFinished : Pace → Recording → ℕ → List Step → Type 0
IsFinished pace trace first_epoch steps =
    (run_so_far pace trace first_epoch steps).daemon.finished ≡ true

-- Under every schedule and at both paces, the record of a run that is finished is valid.
abbrev pub RecordsAreValid : Type 0
RecordsAreValid = (pace : Pace) (trace : Recording) (first_epoch run : ℕ) (steps : List Step)
    → IsFit trace → IsFinished pace trace first_epoch steps
    → IsValidRun pace trace (record_of run first_epoch (run_so_far pace trace first_epoch steps))

-- And its statistics agree with it.
abbrev pub StatisticsAreRight : Type 0
StatisticsAreRight = (pace : Pace) (trace : Recording) (first_epoch run : ℕ) (steps : List Step)
    → IsFit trace → IsFinished pace trace first_epoch steps
    → StatisticsAgree trace
    (record_of run first_epoch (run_so_far pace trace first_epoch steps))
    (stats_of (run_so_far pace trace first_epoch steps))

-- At any moment the drains so far are those of a run that was cut short.
abbrev pub DrainsAreValid : Type 0
DrainsAreValid = (pace : Pace) (trace : Recording) (first_epoch : ℕ) (steps : List Step)
    → IsFit trace
    → IsPartialRun pace trace first_epoch (run_so_far pace trace first_epoch steps).daemon.drains

-- The daemon went on from the first to the second: it is no less far, and what it drained meanwhile
-- stands at the end, at positions from the first on.
pub record Extends (before after : Daemon) : Type 0 where
  pub applied : before.applied ≤ after.applied
  pub more : List Drained
  pub drains : after.drains ≡ before.drains ++ more
  pub later : AllOf (λ drain. before.applied ≤ drain.at) more

-- Steps only go on.
abbrev pub StepsGoOn : Type 0
StepsGoOn = (pace : Pace) (trace : Recording) (system : System) (steps : List Step)
    → Extends system.daemon (after_steps pace trace system steps).daemon

-- Once the record that ends a part is in force, the drains of the part stand.
abbrev pub PartsStand : Type 0
PartsStand = (pace : Pace) (trace : Recording) (system : System) (steps : List Step)
    (part : ℕ) → part < part_of (records_in trace) system.daemon.applied
    → drains_in_part (records_in trace) part (after_steps pace trace system steps).daemon.drains
    ≡ drains_in_part (records_in trace) part system.daemon.drains

-- a cell is handed over as this word says, where what was taken was given back
abbrev pub IsCellHandedOver : Slot → FarSlot → ℕ → Type 0
IsCellHandedOver slot far word =
    IsHandover slot.handed far.taken (length far.taken) word slot.holds far.holds

-- Each cell of a processor is handed over as its word says, its bell never fell, and all that was
-- taken was given back.
pub record IsHandedOver (processor : Processor) : Type 0 where
  pub first : IsCellHandedOver processor.side.first processor.far.first
      (words_of processor).two.first
  pub second : IsCellHandedOver processor.side.second processor.far.second
      (words_of processor).two.second
  pub third : IsCellHandedOver processor.side.third processor.far.third
      (words_of processor).third
  pub bell : IsBell processor.far.rungs (words_of processor).bell processor.side.heard
  pub given : processor.far.given ≡ Some (counts_of processor.far)

-- So it is between any two steps.
abbrev pub SidesAreSound : Type 0
SidesAreSound = (pace : Pace) (trace : Recording) (first_epoch : ℕ) (steps : List Step)
    → IsFit trace → (cpu : ℕ) (processor : Processor)
    → slice_get (run_so_far pace trace first_epoch steps).processors cpu ≡ Some processor
    → IsHandedOver processor

-- Each part of what is kept of a run can be stored.
abbrev pub RecordsCanBeStored : Type 0
RecordsCanBeStored = (pace : Pace) (trace : Recording) (run first_epoch : ℕ) (steps : List Step)
    → IsFit trace → 1 ≤ run → (part : ℕ) → part ≤ last_part (records_in trace)
    → IsSegment (segment_of (records_in trace)
    (record_of run first_epoch (run_so_far pace trace first_epoch steps)) part)

-- And the whole of it can be tallied.
abbrev pub RecordsCanBeTallied : Type 0
RecordsCanBeTallied = (pace : Pace) (trace : Recording) (run first_epoch : ℕ) (steps : List Step)
    → IsFit trace
    → IsRecorded (record_of run first_epoch (run_so_far pace trace first_epoch steps))

-- a table batch goes up to just the samples that were due where it was drained
abbrev pub GoesUpToDue : List Marked → Drained → Type 0
GoesUpToDue samples drain = drain.batch.note.upto ≡ due samples drain.at

-- no sample was lost, and each table batch goes up to just the samples that were due
pub record IsLossless (trace : Recording) (system : System) : Type 0 where
  pub losses : (cpu : ℕ) (processor : Processor)
      → slice_get system.processors cpu ≡ Some processor → processor.driver.losses ≡ []
  pub due_then : (cpu : ℕ) → cpu < trace.cpus
      → AllOf (GoesUpToDue (stream_of cpu trace)) (drains_of cpu 2 system.daemon.drains)

-- At the exact pace nothing is lost.
abbrev pub ExactRunsAreLossless : Type 0
ExactRunsAreLossless = (trace : Recording) (first_epoch : ℕ) (steps : List Step)
    → IsFit trace → IsLossless trace (run_so_far Exact trace first_epoch steps)
