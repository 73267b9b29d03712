-- Sums and the rows of a profile, merged by offset.
use Rattle.std.specs.Prelude.{◌≡◌, ℕ, ◌+◌, ◌^◌, ◌<◌, ◌≤◌, ◌==◌, if◌then◌else◌, List, [], ◌∷◌, Ok, Err}
use Rattle.std.specs.declared.result.Result.{Result}
use Rattle.std.specs.List.{AllByRecursion}
use Rattle.database_model.specs.declared.profiles.ProfileRow.{ProfileRow}
use Rattle.database_state.specs.declared.faults.DbFault.{DbFault}
use Rattle.database_state.specs.declared.faults.DbFault.TheVariants.{StoreFault, Bad, Full, Memory}
use Rattle.growth_model.specs.Growth.{AreGrown}
use Rattle.profile_merge.specs.declared.owners.Owner.{Owner}
use Rattle.profile_merge.specs.Sums.{Counts, sum_at}
use Rattle.profile_merge.specs.Faults.{full_at, IsOver}

-- all rows lie below an offset
abbrev pub AllBelow : ℕ → List ProfileRow → Type 0
AllBelow offset rows = AllByRecursion (λ row. row.offset < offset) rows

-- the first row does not
abbrev pub BeginsFrom : ℕ → List ProfileRow → Type 0
BeginsFrom offset [] = Unit {0}
BeginsFrom offset (row ∷ rows) = offset ≤ row.offset

-- what the first row counts, if it is that of the offset
abbrev pub first_count : ℕ → List ProfileRow → ℕ
first_count offset [] = 0
first_count offset (row ∷ rows) = if row.offset == offset then row.count else 0

-- the row of an offset and a count
abbrev pub row_at : ℕ → ℕ → ProfileRow
row_at offset count = record { offset = offset; count = count }

-- the rows behind the offset
abbrev pub taken : ℕ → List ProfileRow → List ProfileRow
taken offset [] = []
taken offset (row ∷ rows) = if row.offset == offset then rows else row ∷ rows

-- a place has no room for what is held and added
abbrev pub IsFull : Owner → ℕ → ℕ → ℕ → DbFault → Type 0
IsFull owner offset held added StoreFault = ⊥
IsFull owner offset held added (Bad file) = ⊥
IsFull owner offset held added (Full what is_held is_added) =
    (what ≡ full_at owner offset) × (is_held ≡ held) × (is_added ≡ added) × (2 ^ 48 < held + added)
IsFull owner offset held added Memory = Unit {0}

-- the first place that has no room
abbrev pub IsFullAt : Owner → Counts → List ProfileRow → DbFault → Type 0
IsFullAt owner sums rows StoreFault = ⊥
IsFullAt owner sums rows (Bad file) = ⊥
IsFullAt owner sums rows (Full what held added) =
    (offset : ℕ) × (what ≡ full_at owner offset) × IsOver (sum_at sums) rows offset held added
IsFullAt owner sums rows Memory = Unit {0}

-- what merging gives: rows that count what is held and added, or the first place that has no room
abbrev pub MergesRows : Owner → Counts → List ProfileRow → Result (List ProfileRow) DbFault → Type 0
MergesRows owner sums rows (Ok after) = AreGrown (sum_at sums) rows after
MergesRows owner sums rows (Err fault) = IsFullAt owner sums rows fault
