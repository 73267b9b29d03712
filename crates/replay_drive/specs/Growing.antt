-- What becomes of the database while a run is replayed into it.
use Rattle.std.specs.Prelude.{◌≡◌, ℕ, ◌+◌, ◌<◌, ◌≤◌, true, if◌then◌else◌, Option, Some, None}
use Rattle.trace_model.specs.Parts.{part_of}
use Rattle.trace_model.specs.Recording.{Recording}
use Rattle.trace_model.specs.Streams.{records_in}
use Rattle.database_model.specs.Runs.{Recorded}
use Rattle.store_io.specs.Files.{Files}
use Rattle.store_io.specs.Crashes.{LeavesOnly}
use Rattle.database_state.specs.Database.{Database}
use Rattle.database_state.specs.Heads.{Head, row_count}
use Rattle.database_state.specs.Standing.{HaveHead, StandsFor, database_of}
use Rattle.database_state.specs.declared.faults.DbFault.{DbFault}
use Rattle.growth_model.specs.Fitting.{HeadGrowsTo}
use Rattle.growth_model.specs.Grown.{Grown, epoch_after_parts, part_count}
use Rattle.run_model.specs.Shares.{drains_in_part, segment_of}
use Rattle.profile_merge.specs.Changing.{IsChangeCause}
use Rattle.dcpid_core.specs.Collection.{Collection}
use Rattle.dcpid_core.specs.Storing.{HasCause, Part, StopsPart, TellsNow, is_found_before}

-- the database grown by the first parts of a run of a trace
abbrev pub GrownBy : Recording → Recorded → ℕ → Database → Database → Type 0
GrownBy trace kept parts db new = Grown trace.images (records_in trace) kept parts db new

-- the head after the first parts of a run of a trace
abbrev pub HeadGrownBy : Recording → Recorded → ℕ → Head → Head → Type 0
HeadGrownBy trace kept parts head new =
    HeadGrowsTo trace.images (records_in trace) kept parts head new

-- files that stand for the database grown by some of the first parts of a run, no fewer and no more than these
abbrev pub MayBeGrown : Recording → Recorded → ℕ → ℕ → Database → Files → Type 0
MayBeGrown trace kept least most db c = (j : ℕ) × (least ≤ j) × (j ≤ most)
    × ((new : Database) × GrownBy trace kept j db new × StandsFor c new)

-- the part of a run with this number, for a database with this head
abbrev pub part_at : Recording → Recorded → ℕ → Head → Part
part_at trace kept number head = record {
  images = trace.images;
  records = records_in trace;
  head = head;
  epoch = epoch_after_parts kept.first_epoch (records_in trace) (number + 1);
  segment = segment_of (records_in trace) kept number;
}

-- How many parts may be in the database, when so many were committed: one more where a fault came while a commit wrote, or by want
-- of memory.
abbrev pub parts_at_most : ℕ → Option DbFault → ℕ
parts_at_most parts None = parts
parts_at_most parts (Some fault) = if is_found_before fault then parts else parts + 1

-- the count of the store's faults rose where a call of it failed, and only there
abbrev pub CountsFaults : ℕ → ℕ → Option DbFault → Type 0
CountsFaults before now None = now ≡ before
CountsFaults before now (Some fault) = IsChangeCause before now fault

-- A fault that stops the part with this number is that part's first one, by the files that the store tells; the parts before it
-- are in the database.
pub record StopsAt (trace : Recording) (kept : Recorded) (parts : ℕ) (begin : Head)
    (f g : Files) (fault : DbFault) : Type 0 where
  pub there : parts < part_count (records_in trace)
  pub head : Head
  pub heads : HeadGrownBy trace kept parts begin head
  pub has_head : HaveHead g head
  pub grown : GrownBy trace kept parts (database_of begin f) (database_of head g)
  pub cause : HasCause (part_at trace kept parts head) g fault
  pub first : (other : DbFault) → StopsPart (part_at trace kept parts head) g other → other ≡ fault

-- While the daemon keeps no fault, the parts that ended are committed, and it has noted the drains of the part that has not.
pub record KeepsParts (trace : Recording) (daemon : Collection) : Type 0 where
  pub part : daemon.failure ≡ None → daemon.part ≡ part_of (records_in trace) daemon.state.applied
  pub noted : daemon.failure ≡ None →
      daemon.noted ≡ drains_in_part (records_in trace) daemon.part daemon.state.drains

-- The store, from the start of a run, when its database had this head, until now: so many parts were committed, this is the head
-- now, and this fault is kept, if one is. The record of the whole run is this one.
pub record KeepsStore {D : Type 0} (files : D → Option Files) (faults moment : D → ℕ)
    (left_since : D → ℕ → Files → Type 0) (trace : Recording) (kept : Recorded) (begin : Head)
    (start now : D) (parts : ℕ) (head : Head) (failure : Option DbFault) : Type 0 where
  pub within : parts ≤ part_count (records_in trace)
  -- with no fault the head is the one after these parts, within its limits
  pub heads : failure ≡ None → HeadGrownBy trace kept parts begin head
  pub rows : failure ≡ None → row_count begin ≤ 65536 → row_count head ≤ 65536
  -- and the files stand for the database grown by them
  pub grown : (f : Files) → files start ≡ Some f → HaveHead f begin → failure ≡ None →
      (g : Files) × (files now ≡ Some g) × HaveHead g head
      × GrownBy trace kept parts (database_of begin f) (database_of head g)
  -- a fault has its cause
  pub count : CountsFaults (faults start) (faults now) failure
  pub cause : (f : Files) (fault : DbFault) → files start ≡ Some f → HaveHead f begin →
      failure ≡ Some fault → is_found_before fault ≡ true →
      (g : Files) × (files now ≡ Some g) × StopsAt trace kept parts begin f g fault
  -- each crash since the start leaves the database grown by some of these parts, as do the present files by all of them, or by
  -- one more where a fault came in the midst of a commit
  pub any_moment : (f : Files) → TellsNow files moment left_since start begin f →
      LeavesOnly moment left_since start now
      (MayBeGrown trace kept 0 (parts_at_most parts failure) (database_of begin f))
  pub present : (f g : Files) → TellsNow files moment left_since start begin f →
      files now ≡ Some g →
      MayBeGrown trace kept parts (parts_at_most parts failure) (database_of begin f) g
  -- and with no fault each crash from now on leaves what there is
  pub after_it : (f g : Files) → TellsNow files moment left_since start begin f →
      failure ≡ None → files now ≡ Some g → TellsNow files moment left_since now head g
