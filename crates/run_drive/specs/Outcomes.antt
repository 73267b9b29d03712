-- What a run of a trace by threads answers, and what it leaves of the database.
use Rattle.std.specs.Prelude.{◌≡◌, ◌≢◌, ℕ, ◌+◌, Bool, true, false, [], Option, Some, None, Ok, Err, count_by}
use Rattle.std.specs.declared.result.Result.{Result}
use Rattle.sample_key.specs.declared.losses.Pace.{Pace}
use Rattle.sample_key.specs.declared.losses.Pace.TheVariants.{Exact}
use Rattle.trace_model.specs.Counting.{Spot, same_spot, spots_in}
use Rattle.trace_model.specs.Recording.{Recording}
use Rattle.trace_model.specs.Streams.{records_in}
use Rattle.database_model.specs.Ranges.{IsRecorded}
use Rattle.database_model.specs.Runs.{Recorded}
use Rattle.store_io.specs.Files.{Files}
use Rattle.database_state.specs.Heads.{Head}
use Rattle.database_state.specs.Standing.{HaveHead, database_of}
use Rattle.database_state.specs.declared.faults.DbFault.{DbFault}
use Rattle.database_state.specs.declared.faults.DbFault.TheVariants.{Memory}
use Rattle.growth_model.specs.Additions.{additions_of}
use Rattle.growth_model.specs.Grown.{part_count}
use Rattle.growth_laws.specs.Places.{added_at}
use Rattle.growth_laws.specs.Whole.{CountsGrow}
use Rattle.run_exact.specs.Exact.{IsExactRecord}
use Rattle.run_model.specs.Shares.{last_part}
use Rattle.run_model.specs.Validity.{IsPartialRun, IsValidRun, StatisticsAgree}
use Rattle.dcpid_core.specs.declared.outcomes.Outcome.{Outcome}
use Rattle.replay_drive.specs.Growing.{KeepsStore}

-- The record is that of the next run of the database with this head.
pub record FollowsOn (begin : Head) (kept : Recorded) : Type 0 where
  pub run : kept.run ≡ begin.runs + 1
  pub first_epoch : kept.first_epoch ≡ begin.epoch

-- The outcome of a run of the trace at this pace, into a database with this head: the record is valid, and the statistics agree with
-- it. At the exact pace no sample was lost, and each flush goes up to just the samples that were due.
pub record IsRunOf (pace : Pace) (trace : Recording) (head : Head) (outcome : Outcome)
    : Type 0 where
  pub follows : FollowsOn head outcome.kept
  pub valid : IsValidRun pace trace outcome.kept
  pub agree : StatisticsAgree trace outcome.kept outcome.stats.items
  pub exact : pace ≡ Exact → IsExactRecord trace outcome.kept
  pub recorded : IsRecorded outcome.kept

-- where a run answers an outcome, it is that of a run of the trace
abbrev pub GivesRun : Pace → Recording → Head → Result Outcome DbFault → Type 0
GivesRun pace trace head (Ok outcome) = IsRunOf pace trace head outcome
GivesRun pace trace head (Err fault) = Unit {0}

-- All parts of a run with this record are in the database.
pub record LeavesAll {D : Type 0} (files : D → Option Files) (faults moment : D → ℕ)
    (left_since : D → ℕ → Files → Type 0) (trace : Recording) (kept : Recorded) (begin : Head)
    (start now : D) : Type 0 where
  pub head : Head
  pub store : KeepsStore files faults moment left_since trace kept begin start now
      (part_count (records_in trace)) head None

-- a record of a run that came to its end, or the drains of one that was cut short
abbrev pub IsOfRun : Pace → Recording → Bool → Recorded → Type 0
IsOfRun pace trace true kept = IsValidRun pace trace kept
IsOfRun pace trace false kept =
    (kept.losses ≡ []) × IsPartialRun pace trace kept.first_epoch kept.drains

-- A fault stopped the run at a part. The record is that of what was drained until then; where the last part was to be committed it is
-- the whole one. So many parts are in the database, and the fault has its cause in the next.
pub record StopsRun {D : Type 0} (files : D → Option Files) (faults moment : D → ℕ)
    (left_since : D → ℕ → Files → Type 0) (pace : Pace) (trace : Recording) (begin : Head)
    (start now : D) (fault : DbFault) : Type 0 where
  pub kept : Recorded
  pub ended : Bool
  pub parts : ℕ
  pub head : Head
  pub follows : FollowsOn begin kept
  pub valid : IsOfRun pace trace ended kept
  pub last : fault ≢ Memory → parts ≡ last_part (records_in trace) → ended ≡ true
  pub store : KeepsStore files faults moment left_since trace kept begin start now
      parts head (Some fault)

-- what a run leaves of a store, by its answer
abbrev pub LeavesRun : {D : Type 0} → (D → Option Files) → (D → ℕ) → (D → ℕ)
    → (D → ℕ → Files → Type 0) → Pace → Recording → Head → D → D → Result Outcome DbFault → Type 0
LeavesRun files faults moment left_since pace trace begin start now (Ok outcome) =
    LeavesAll files faults moment left_since trace outcome.kept begin start now
LeavesRun files faults moment left_since pace trace begin start now (Err fault) =
    StopsRun files faults moment left_since pace trace begin start now fault

-- what a record adds at each place is how often samples of the trace lie there, by the records that stand before them
abbrev pub AddsPlainly : Recording → Recorded → Type 0
AddsPlainly trace kept = (spot : Spot)
    → added_at (additions_of trace.images (records_in trace) kept.drains) spot
    ≡ count_by (same_spot spot) (spots_in trace kept.first_epoch)

-- At the exact pace the counts of the database have grown by just the plain counts of the trace.
pub record GrowsPlainly {D : Type 0} (files : D → Option Files) (trace : Recording) (begin : Head)
    (start now : D) (outcome : Outcome) : Type 0 where
  pub adds : AddsPlainly trace outcome.kept
  pub counts : (f : Files) → files start ≡ Some f → HaveHead f begin →
      (g : Files) × (next : Head) × (files now ≡ Some g) × HaveHead g next
      × CountsGrow (additions_of trace.images (records_in trace) outcome.kept.drains)
      (database_of begin f) (database_of next g)
