-- When the calls of a database fail.
use Rattle.std.specs.Prelude.{◌≡◌, ℕ, ◌≤◌, Ok, Err}
use Rattle.std.specs.declared.result.Result.{Result}
use Rattle.outside_io.specs.Causes.{Rose}
use Rattle.database_state.specs.declared.faults.DbFault.{DbFault}
use Rattle.database_state.specs.declared.faults.DbFault.TheVariants.{StoreFault, Bad, Full, Memory}
use Rattle.database_state.specs.declared.faults.DbError.{DbError}
use Rattle.database_state.specs.declared.faults.DbError.TheVariants.{Fault, Stopped}

-- a fault of a call that reads: `StoreFault` where the count of the store's faults rose, and never `Full`
abbrev pub IsReadCause : ℕ → ℕ → DbFault → Type 0
IsReadCause before now StoreFault = (before ≤ now) × Rose before now
IsReadCause before now (Bad file) = now ≡ before
IsReadCause before now (Full what held added) = ⊥
IsReadCause before now Memory = now ≡ before

-- The count of the store's faults rose where `StoreFault` is answered, and stays where not.
abbrev pub HasDbCause : {T : Type 0} → ℕ → ℕ → Result T DbFault → Type 0
HasDbCause before now (Ok value) = now ≡ before
HasDbCause before now (Err fault) = IsReadCause before now fault

-- a fault of a commit: `StoreFault` where the count of the store's faults rose, and never `Bad`
abbrev pub IsWriteCause : ℕ → ℕ → DbFault → Type 0
IsWriteCause before now StoreFault = (before ≤ now) × Rose before now
IsWriteCause before now (Bad file) = ⊥
IsWriteCause before now (Full what held added) = now ≡ before
IsWriteCause before now Memory = now ≡ before

abbrev pub HasWriteCause : {T : Type 0} → ℕ → ℕ → Result T DbFault → Type 0
HasWriteCause before now (Ok value) = now ≡ before
HasWriteCause before now (Err fault) = IsWriteCause before now fault

-- The count of the store's faults rose where this commit answers `StoreFault`, and stays where not.
abbrev pub HasCommitCause : {T : Type 0} → ℕ → ℕ → Result T DbError → Type 0
HasCommitCause before now (Ok value) = now ≡ before
HasCommitCause before now (Err (Fault fault)) = IsWriteCause before now fault
HasCommitCause before now (Err (Stopped fault)) = now ≡ before
