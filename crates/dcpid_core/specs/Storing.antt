-- What becomes of the store when a part of a run is committed: the part is there whole or not at all, whatever moment is hit.
use Rattle.std.specs.Prelude.{◌≡◌, ℕ, ◌+◌, ◌<◌, ◌≤◌, ◌⊎◌, Bool, true, false, List, Option, Some, Err}
use Rattle.trace_model.specs.declared.notices.Record.{Record}
use Rattle.database_model.specs.Runs.{Segment}
use Rattle.store_io.specs.Files.{Files}
use Rattle.store_io.specs.Crashes.{LeavesOnly, LeftNow, OnlyReads}
use Rattle.database_state.specs.Database.{Database}
use Rattle.database_state.specs.Heads.{Head, row_count}
use Rattle.database_state.specs.Standing.{CrashesSay, HaveHead, StandsFor, database_of}
use Rattle.database_state.specs.declared.faults.DbFault.{DbFault}
use Rattle.database_state.specs.declared.faults.DbFault.TheVariants.{StoreFault, Bad, Full, Memory}
use Rattle.database_state.specs.declared.faults.FullWhat.TheVariants.{Rows}
use Rattle.growth_model.specs.Additions.{Additions, additions_of}
use Rattle.growth_model.specs.Growth.{GrowsByPart}
use Rattle.growth_model.specs.Fitting.{HeadGrows}
use Rattle.profile_merge.specs.Faults.{IsFirstFault}
use Rattle.profile_merge.specs.Changing.{IsAnswered, IsChangeCause}

-- A part of a run that is to be committed: its trace's images and records, the head of the database, the last epoch afterwards,
-- and the segment.
pub record Part : Type 0 where
  pub images : List (List ℕ)
  pub records : List Record
  pub head : Head
  pub epoch : ℕ
  pub segment : Segment

-- what its drains add
abbrev pub added_by : Part → Additions
added_by part = additions_of part.images part.records part.segment.drains

-- a database that has grown by it
abbrev pub PartGrows : Part → Database → Database → Type 0
PartGrows part db new = GrowsByPart part.images part.records part.epoch part.segment db new

-- files that stand for the database before it, or for the one that has grown by it
abbrev pub BeforeOrGrown : Part → Database → Files → Type 0
BeforeOrGrown part db c =
    StandsFor c db ⊎ ((new : Database) × PartGrows part db new × StandsFor c new)

-- The store tells these files, they have this head, and each crash now leaves what they say.
pub record TellsNow {D : Type 0} (files : D → Option Files) (moment : D → ℕ)
    (left_since : D → ℕ → Files → Type 0) (store : D) (head : Head) (f : Files) : Type 0 where
  pub told : files store ≡ Some f
  pub has_head : HaveHead f head
  pub crash : CrashesSay (LeftNow moment left_since store) head (database_of head f)

-- a fault that the images or a profile of the part give rise to, by these files: the first one
abbrev pub StopsPart : Part → Files → DbFault → Type 0
StopsPart part f fault = IsFirstFault part.images (added_by part) part.head f fault

-- The head of the part would have more than 65,536 rows.
pub record HasNoRows (part : Part) (held added : ℕ) : Type 0 where
  pub next : Head
  pub grows : HeadGrows part.images (added_by part) part.epoch part.segment part.head next
  pub is_held : held ≡ row_count part.head
  pub total : held + added ≡ row_count next
  pub over : 65536 < held + added

-- The part was committed, and this is the head now. Where the store told files with the head of before, it tells files with this
-- head, and their database has grown by the part; each crash meanwhile left the one before or the grown one, and each crash from
-- now on leaves the grown one.
pub record IsCommitted {D : Type 0} (files : D → Option Files) (faults moment : D → ℕ)
    (left_since : D → ℕ → Files → Type 0) (part : Part) (next : Head) (store after : D)
    : Type 0 where
  pub head : HeadGrows part.images (added_by part) part.epoch part.segment part.head next
  pub rows : row_count next ≤ 65536
  pub sound : (f : Files) (fault : DbFault) → files store ≡ Some f → StopsPart part f fault → ⊥
  pub count : faults after ≡ faults store
  pub grows : (f : Files) → files store ≡ Some f → HaveHead f part.head →
      (g : Files) × (files after ≡ Some g) × HaveHead g next
      × PartGrows part (database_of part.head f) (database_of next g)
  pub any_moment : (f : Files) → TellsNow files moment left_since store part.head f →
      LeavesOnly moment left_since store after (BeforeOrGrown part (database_of part.head f))
  pub after_it : (f g : Files) → TellsNow files moment left_since store part.head f →
      files after ≡ Some g → TellsNow files moment left_since after next g

-- a fault has its cause: the first one by the images and profiles, or else the rows of the head
abbrev pub HasCause : Part → Files → DbFault → Type 0
HasCause part f StoreFault = Unit {0}
HasCause part f (Bad file) = StopsPart part f (Bad file)
HasCause part f (Full what held added) =
    StopsPart part f (Full what held added) ⊎ ((what ≡ Rows) × HasNoRows part held added)
HasCause part f Memory = Unit {0}

-- whether a fault is found before anything is written: a bad file, or want of room
abbrev pub is_found_before : DbFault → Bool
is_found_before StoreFault = false
is_found_before (Bad file) = true
is_found_before (Full what held added) = true
is_found_before Memory = false

-- The part was not committed, for this fault. A bad file and want of room are found before anything is written. With another
-- fault some of its files may be there; each crash meanwhile, and the present files, stand for the database of before or for
-- the grown one.
pub record HasFailed {D : Type 0} (files : D → Option Files) (faults moment : D → ℕ)
    (left_since : D → ℕ → Files → Type 0) (part : Part) (fault : DbFault) (store after : D)
    : Type 0 where
  pub count : IsChangeCause (faults store) (faults after) fault
  pub cause : (f : Files) → files store ≡ Some f → HasCause part f fault
  pub first : (f : Files) (other : DbFault) → files store ≡ Some f → StopsPart part f other →
      IsAnswered {T = Unit {0}} other (Err fault)
  pub reads : is_found_before fault ≡ true → OnlyReads (files store) (files after)
      (moment store) (moment after) (left_since store) (left_since after)
  pub any_moment : (f : Files) → TellsNow files moment left_since store part.head f →
      LeavesOnly moment left_since store after (BeforeOrGrown part (database_of part.head f))
  pub present : (f g : Files) → TellsNow files moment left_since store part.head f →
      files after ≡ Some g → BeforeOrGrown part (database_of part.head f) g
