-- What `replay` owes: the summary of the run of the trace, and a database that has grown by it.
use Rattle.std.specs.Prelude.{◌≡◌, ◌≢◌, ◌⊎◌, ℕ, ◌+◌, ◌≤◌, List}
use Rattle.std.specs.declared.option.Option.{Option}
use Rattle.std.specs.declared.option.Option.TheVariants.{Some}
use Rattle.std.specs.Io.KnownBytes.{IsAtEnd}
use Rattle.trace_model.specs.Recording.{Recording}
use Rattle.trace_model.specs.Streams.{records_in}
use Rattle.store_io.specs.Files.{Files}
use Rattle.store_io.specs.Crashes.{LeavesOnly}
use Rattle.database_model.specs.Runs.{Recorded}
use Rattle.database_state.specs.Heads.{Head}
use Rattle.database_state.specs.Standing.{HaveHead, database_of}
use Rattle.database_state.specs.declared.faults.DbFault.{DbFault}
use Rattle.growth_model.specs.Fitting.{KeepsLimits}
use Rattle.growth_model.specs.Grown.{GrownWhole, part_count}
use Rattle.run_rounds.specs.Rounds.{reference_record}
use Rattle.dcpid_core.specs.declared.outcomes.Outcome.{Outcome}
use Rattle.dcpid_core.specs.Storing.{TellsNow}
use Rattle.replay_drive.specs.Growing.{HeadGrownBy, MayBeGrown, StopsAt}
use Rattle.replay_drive.specs.Outcomes.{IsReplayOf}
use Rattle.summary_text.specs.Summaries.{summary_of}
use Rattle.dcpi_top.specs.Streams.{Stream, Disk, KeepsCount}
use Rattle.dcpi_top.specs.Inputs.{ReadsAs, IsToldTrace}
use Rattle.dcpi_top.specs.Heads.{OpenedWith}

-- the record of the run of a trace into a database with this head, which the definitions give
abbrev pub run_of : Recording → Head → Recorded
run_of recording head = reference_record recording (head.runs + 1) head.epoch

-- The files stood for a database with this head. Now they stand for it grown by a whole run with this record, and their head is the
-- one after all its parts.
abbrev pub GrowsWhole : Recording → Head → Recorded → Disk → Type 0
GrowsWhole recording head kept disk = (f : Files) → disk.old ≡ Some f →
    (g : Files) × (new : Head) × (disk.new ≡ Some g) × HaveHead g new
    × HeadGrownBy recording kept (part_count (records_in recording)) head new
    × GrownWhole recording.images (records_in recording) kept
    (database_of head f) (database_of new g)

-- The text of a replay. The input was read to its end, and is this trace; the database was opened with this head. The text is
-- the summary of the record and the statistics of the run of this trace into it, which is valid; and where the store tells its
-- files, they stand for the database grown by the whole of this run.
pub record IsReplayText (input : Stream) (disk : Disk) (text : List ℕ) : Type 0 where
  pub recording : Recording
  pub head : Head
  pub outcome : Outcome
  pub reads : ReadsAs input recording
  pub whole : IsAtEnd input.new
  pub opened : OpenedWith disk head
  pub run : IsReplayOf recording head outcome
  pub printed : text ≡ summary_of outcome.kept outcome.stats.items
  pub grown : GrowsWhole recording head outcome.kept disk

-- The run of the trace stops at a part: by the files that the store told, grown by the parts before, this fault is the first one
-- of that part. It is of an image or a profile, or, where none of these has one, of the rows of the head.
abbrev pub Stops : Recording → Head → Files → Files → DbFault → Type 0
Stops recording head f g fault =
    (parts : ℕ) × StopsAt recording (run_of recording head) parts head f g fault

-- A fault stopped the run of the trace that the input is, into the database as it was opened. Where the store tells its files,
-- they stand for the database grown by the parts before.
pub record StopsRun (input : Stream) (disk : Disk) (fault : DbFault) : Type 0 where
  pub recording : Recording
  pub head : Head
  pub reads : ReadsAs input recording
  pub whole : IsAtEnd input.new
  pub opened : OpenedWith disk head
  pub stops : (f : Files) → disk.old ≡ Some f →
      (g : Files) × (disk.new ≡ Some g) × Stops recording head f g fault

-- The input is told to be a trace, the files are told to have a head, and the run stops for this fault.
pub record MustStop (input : Stream) (disk : Disk) (fault : DbFault) : Type 0 where
  pub recording : Recording
  pub head : Head
  pub files : Files
  pub grown : Files
  pub reads : IsToldTrace input recording
  pub told : disk.old ≡ Some files
  pub has_head : HaveHead files head
  pub stops : Stops recording head files grown fault

-- The input is told to be a trace, the files are told to stand for a database, and the run keeps it within its limits.
pub record IsSoundReplay (input : Stream) (disk : Disk) : Type 0 where
  pub recording : Recording
  pub head : Head
  pub files : Files
  pub reads : IsToldTrace input recording
  pub told : disk.old ≡ Some files
  pub has_head : HaveHead files head
  pub fits : KeepsLimits recording.images (records_in recording) (run_of recording head) head
      (database_of head files)

-- What a crash at any moment of a replay leaves, and what its present files are: the database of the start, grown by some first
-- parts of the run of the trace that was read. So many parts were committed, all of them where the status is 0 or 5; one more
-- may be there where a call of the store failed or memory ran out.
pub record LeavesParts {D : Type 0} (files : D → Option Files) (moment : D → ℕ)
    (left_since : D → ℕ → Files → Type 0) (input : Stream) (old new : D) (status : ℕ)
    : Type 0 where
  pub recording : Recording
  pub parts : ℕ
  pub most : ℕ
  pub reads : ReadsAs input recording
  pub begun : (status ≢ 1) × (status ≢ 2) × (status ≢ 3)
  pub within : parts ≤ part_count (records_in recording)
  pub few : parts ≤ most × (most ≤ parts + 1)
  pub sure : status ≢ 4 → status ≢ 6 → most ≡ parts
  pub all : (status ≡ 0) ⊎ (status ≡ 5) → parts ≡ part_count (records_in recording)
  pub any_moment : (h : Head) (f : Files) → TellsNow files moment left_since old h f →
      LeavesOnly moment left_since old new
      (MayBeGrown recording (run_of recording h) 0 most (database_of h f))
  pub present : (h : Head) (f g : Files) → TellsNow files moment left_since old h f →
      files new ≡ Some g →
      MayBeGrown recording (run_of recording h) parts most (database_of h f) g

-- The input was read to its end and is this trace, no fault of it was counted, and the database was opened with this head.
pub record IsReadInto (input : Stream) (recording : Recording) (disk : Disk) (head : Head)
    : Type 0 where
  pub reads : ReadsAs input recording
  pub whole : IsAtEnd input.new
  pub counted : KeepsCount input
  pub opened : OpenedWith disk head
