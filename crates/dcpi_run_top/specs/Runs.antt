-- What a run by threads comes to: what it leaves of the database, and what is written of it.
use Rattle.std.specs.Prelude.{◌≡◌, ◌⊎◌, ℕ, List, IfOk}
use Rattle.std.specs.declared.option.Option.{Option}
use Rattle.std.specs.declared.option.Option.TheVariants.{Some, None}
use Rattle.std.specs.declared.result.Result.{Result}
use Rattle.std.specs.declared.result.Result.TheVariants.{Ok, Err}
use Rattle.std.specs.Io.KnownBytes.{Appends}
use Rattle.outside_io.specs.Prefix.{AppendsPrefix}
use Rattle.sample_key.specs.declared.losses.Pace.{Pace}
use Rattle.sample_key.specs.declared.losses.Pace.TheVariants.{Exact}
use Rattle.trace_model.specs.Recording.{Recording}
use Rattle.store_io.specs.Files.{Files}
use Rattle.database_state.specs.Heads.{Head}
use Rattle.database_state.specs.declared.faults.DbFault.{DbFault}
use Rattle.database_state.specs.declared.faults.DbFault.TheVariants as faults
use Rattle.dcpid_core.specs.declared.outcomes.Outcome.{Outcome}
use Rattle.run_drive.specs.Outcomes.{GivesRun, GrowsPlainly, LeavesRun}
use Rattle.summary_text.specs.Summaries.{summary_of}
use Rattle.dcpi_top.specs.declared.refusals.Refusal.{Refusal}
use Rattle.dcpi_top.specs.declared.refusals.Refusal.TheVariants.{WriteFault, Memory}
use Rattle.dcpi_top.specs.Refusals.{IsOfDatabase}
use Rattle.dcpi_top.specs.Replays.{GrowsWhole, IsReadInto}
use Rattle.dcpi_top.specs.Streams.{Stream, Disk, KeepsCount, HasFailed, IsUntouched, seen}

-- What is left of a database with this head, by what the run of the trace answered: where it came to its end, the files stand for
-- the database grown by the whole of its record. A fault of the store was counted where it is answered, and only there.
abbrev pub LeavesDisk : Recording → Head → Disk → Result Outcome DbFault → Type 0
LeavesDisk recording head disk (Ok outcome) =
    KeepsCount disk × GrowsWhole recording head outcome.kept disk
LeavesDisk recording head disk (Err faults.StoreFault) = HasFailed disk
LeavesDisk recording head disk (Err (faults.Bad file)) = KeepsCount disk
LeavesDisk recording head disk (Err (faults.Full what held added)) = KeepsCount disk
LeavesDisk recording head disk (Err faults.Memory) = KeepsCount disk

-- A run was made. The input was read to its end and is this trace, and the database was opened with this head; the run of this
-- trace into it, at this pace, answered this. An outcome is that of a run of the trace, and at the exact pace the counts have grown
-- by just the plain counts. A fault stopped the run at a part of its record: there are the parts before, and the fault has its
-- cause in the next. At any moment a crash leaves the database of the start, grown by some first parts of that record.
pub record HasRun {D : Type 0} (files : D → Option Files) (faults moment : D → ℕ)
    (left_since : D → ℕ → Files → Type 0) (pace : Pace) (input : Stream) (old new : D)
    (result : Result Outcome DbFault) : Type 0 where
  pub recording : Recording
  pub head : Head
  pub into : IsReadInto input recording (seen files faults old new) head
  pub run : GivesRun pace recording head result
  pub leaves : LeavesRun files faults moment left_since pace recording head old new result
  pub disk : LeavesDisk recording head (seen files faults old new) result
  pub plain : pace ≡ Exact → IfOk result (GrowsPlainly files recording head old new)

-- the summary of a run
abbrev pub summary_in : Outcome → List ℕ
summary_in outcome = summary_of outcome.kept outcome.stats.items

-- the summary was not written: for want of memory nothing was, and where a write failed a prefix
abbrev pub LacksSummary : Outcome → Stream → Refusal → Type 0
LacksSummary outcome output refusal =
    ((refusal ≡ Memory) × IsUntouched output)
    ⊎ ((refusal ≡ WriteFault) × HasFailed output
    × AppendsPrefix output.old output.new (summary_in outcome))

-- the summary was written, and nothing else; or it was not
abbrev pub TellsSummary : Outcome → Stream → Option Refusal → Type 0
TellsSummary outcome output None =
    KeepsCount output × Appends output.old output.new (summary_in outcome)
TellsSummary outcome output (Some refusal) = LacksSummary outcome output refusal

-- What is written and what is refused, by what the run answered: the summary of an outcome; of a fault nothing is written, and it
-- is what is refused.
abbrev pub TellsRun : Result Outcome DbFault → Stream → Option Refusal → Type 0
TellsRun (Ok outcome) output refusal = TellsSummary outcome output refusal
TellsRun (Err fault) output None = ⊥
TellsRun (Err fault) output (Some refusal) = IsOfDatabase fault refusal × IsUntouched output

-- a run was made, and this was written and refused
pub record IsMade {D : Type 0} (files : D → Option Files) (faults moment : D → ℕ)
    (left_since : D → ℕ → Files → Type 0) (pace : Pace) (input : Stream) (old new : D)
    (output : Stream) (refusal : Option Refusal) : Type 0 where
  pub result : Result Outcome DbFault
  pub ran : HasRun files faults moment left_since pace input old new result
  pub told : TellsRun result output refusal
