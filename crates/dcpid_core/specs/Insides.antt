-- The fields of the daemon's structs as its contracts see them, and what they keep between its calls.
use Rattle.std.specs.Prelude.{◌≡◌, ℕ, ◌+◌, ◌≤◌, ◌⊎◌, true, List, ◌++◌, length, take, None}
use Rattle.std.specs.List.{All, AllByRecursion, IsDistinct, count_by}
use Rattle.std.specs.Str.{bytes_eq}
use Rattle.trace_model.specs.Parts.{ends_part, part_of}
use Rattle.trace_model.specs.Recording.{keeps_ranges}
use Rattle.trace_laws.specs.Kept.{PlacesHaveImages}
use Rattle.trace_model.specs.Streams.{records_in}
use Rattle.trace_model.specs.declared.limits.TheConstants.{MOST_CPUS, MOST_PARTS, MOST_RECORDS}
use Rattle.trace_model.specs.declared.notices.Record.{Record}
use Rattle.trace_outline.specs.Views.{viewed}
use Rattle.load_map.specs.Maps.{StandsFor}
use Rattle.database_model.specs.Ranges.{IsDrained}
use Rattle.epoch_store.specs.Databases.{failed_of, head_of}
use Rattle.run_model.specs.Books.{StandsWell}
use Rattle.run_model.specs.Daemon.{Daemon}
use Rattle.profile_merge.specs.Gathering.{EpochsAreUpTo, Gathers, ImagesAreIn}
use Rattle.dcpid_core.specs.Collection.{Collection}
use Rattle.dcpid_core.specs.declared.progress.Task.{Task}
use Rattle.dcpid_core.specs.declared.progress.Progress.{Progress}

-- where the daemon stands, as the daemon of a run
abbrev pub state_of : Progress → Daemon
state_of progress = record {
  applied = progress.applied;
  asking = progress.asking;
  epoch = progress.epoch;
  drains = progress.settled.items ++ progress.noted.items;
  finished = progress.finished;
}

-- the daemon as contracts see it
abbrev pub collection_of : Task → Progress → Collection
collection_of task progress = record {
  trace = viewed task.trace;
  pace = task.pace;
  run = task.run;
  first_epoch = task.first_epoch;
  state = state_of progress;
  flushes = progress.flushes.items;
  part = progress.part;
  noted = progress.noted.items;
  head = head_of progress.db;
  failure = progress.failure;
}

-- the records of its trace
abbrev pub records_of : Task → List Record
records_of task = records_in (viewed task.trace)

-- What never changes: the records are those of the trace, and within its limits.
pub record IsTask (task : Task) : Type 0 where
  pub records : task.records.now ≡ records_of task
  pub few : length (records_of task) ≤ MOST_RECORDS
  pub parts : count_by ends_part (records_of task) ≤ MOST_PARTS
  pub ranges : AllByRecursion (λ notice. keeps_ranges notice ≡ true) (records_of task)
  pub some_cpus : 1 ≤ (viewed task.trace).cpus
  pub cpus : (viewed task.trace).cpus ≤ MOST_CPUS
  pub apart : IsDistinct bytes_eq (viewed task.trace).images
  pub images : PlacesHaveImages (viewed task.trace)
  pub run : 1 ≤ task.run

-- What holds while no fault is kept, where so many records are in force and this is the epoch: the map and the counts are those
-- of the records and the drains, and the database has the parts that ended.
pub record IsCurrent (task : Task) (applied epoch : ℕ) (progress : Progress) : Type 0 where
  pub mappings : StandsFor progress.map (take applied (records_of task))
  pub gathers : Gathers progress.gathered (viewed task.trace).images (records_of task)
      progress.noted.items
  pub images : ImagesAreIn (viewed task.trace).images progress.gathered
  pub epochs : EpochsAreUpTo epoch progress.gathered
  pub drains : All IsDrained progress.noted.items
  pub works : failed_of progress.db ≡ None
  pub run : (task.run ≡ (head_of progress.db).runs) ⊎ (task.run ≡ (head_of progress.db).runs + 1)
  pub epoch_is : epoch ≡ (head_of progress.db).epoch
  pub part : progress.part ≡ part_of (records_of task) applied

-- What holds between any two calls.
pub record IsSound (task : Task) (progress : Progress) : Type 0 where
  pub stands : StandsWell task.pace (records_of task) (state_of progress)
  pub flushes : length progress.flushes.items ≡ (viewed task.trace).cpus
  pub epochs : progress.epoch ≤ MOST_RECORDS + progress.applied
  pub current : progress.failure ≡ None →
      IsCurrent task progress.applied progress.epoch progress
