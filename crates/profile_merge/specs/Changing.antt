-- What the call answers that makes the change of a commit.
use Rattle.std.specs.Prelude.{◌≡◌, ◌⊎◌, ℕ, ◌+◌, ◌≤◌, List, Ok, Err}
use Rattle.std.specs.declared.option.Option.{Option}
use Rattle.std.specs.declared.option.Option.TheVariants.{Some}
use Rattle.std.specs.declared.result.Result.{Result}
use Rattle.outside_io.specs.Causes.{Rose}
use Rattle.store_io.specs.Files.{Files}
use Rattle.trace_model.specs.declared.notices.Record.{Record}
use Rattle.database_model.specs.Ranges.{IsSegment}
use Rattle.database_model.specs.Runs.{Drained, Segment}
use Rattle.database_state.specs.Heads.{Head}
use Rattle.database_state.specs.Standing.{database_of}
use Rattle.database_state.specs.Updates.{Update, updated}
use Rattle.database_state.specs.declared.faults.DbFault.{DbFault}
use Rattle.database_state.specs.declared.faults.DbFault.TheVariants.{StoreFault, Bad, Full, Memory}
use Rattle.growth_model.specs.Additions.{Additions, additions_of}
use Rattle.growth_model.specs.Growth.{Grows}
use Rattle.profile_merge.specs.Sums.{Collected}
use Rattle.profile_merge.specs.Gathering.{Gathers}
use Rattle.profile_merge.specs.Faults.{IsFirstFault}

-- an epoch and a segment that may follow on a head: the last epoch or the next, the last run or the next
pub record Follows (h : Head) (epoch : ℕ) (segment : Segment) : Type 0 where
  pub last_epoch : (epoch ≡ h.epoch) ⊎ (epoch ≡ h.epoch + 1)
  pub stored : IsSegment segment
  pub run : (segment.run ≡ h.runs) ⊎ (segment.run ≡ h.runs + 1)

-- what holds of all drains of which this is gathered
abbrev pub OfGathered : Collected → List (List ℕ) → (Additions → Type 0) → Type 0
OfGathered collected images P = (records : List Record) (drains : List Drained) →
    Gathers collected images records drains → P (additions_of images records drains)

-- the update is one part's growth of what these files say
abbrev pub GrowsFiles : List (List ℕ) → Additions → Head → Segment → Update → Option Files → Type 0
GrowsFiles images added h segment u files = (told : Files) → files ≡ Some told →
    Grows images added u.epoch segment (database_of h told) (updated u (database_of h told))

-- a fault that has a cause: the first one
abbrev pub HasFaultCause : List (List ℕ) → Additions → Head → Files → DbFault → Type 0
HasFaultCause images added h files StoreFault = Unit {0}
HasFaultCause images added h files (Bad file) = IsFirstFault images added h files (Bad file)
HasFaultCause images added h files (Full what held more) =
    IsFirstFault images added h files (Full what held more)
HasFaultCause images added h files Memory = Unit {0}

-- where there is a fault, it is answered, unless the store fails or memory runs out
abbrev pub IsAnswered : {T : Type 0} → DbFault → Result T DbFault → Type 0
IsAnswered fault (Ok value) = ⊥
IsAnswered fault (Err StoreFault) = Unit {0}
IsAnswered fault (Err (Bad file)) = fault ≡ Bad file
IsAnswered fault (Err (Full what held added)) = fault ≡ Full what held added
IsAnswered fault (Err Memory) = Unit {0}

-- a fault of a call that only reads: `StoreFault` where the count of the store's faults rose
abbrev pub IsChangeCause : ℕ → ℕ → DbFault → Type 0
IsChangeCause before now StoreFault = (before ≤ now) × Rose before now
IsChangeCause before now (Bad file) = now ≡ before
IsChangeCause before now (Full what held added) = now ≡ before
IsChangeCause before now Memory = now ≡ before

-- The count of the store's faults rose where `StoreFault` is answered, and stays where not.
abbrev pub HasChangeCause : {T : Type 0} → ℕ → ℕ → Result T DbFault → Type 0
HasChangeCause before now (Ok value) = now ≡ before
HasChangeCause before now (Err fault) = IsChangeCause before now fault
