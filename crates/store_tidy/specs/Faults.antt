-- When a tidying fails.
use Rattle.std.specs.Prelude.{◌≡◌, ℕ, ◌≤◌, Ok, Err}
use Rattle.std.specs.declared.result.Result.{Result}
use Rattle.outside_io.specs.Causes.{Rose}
use Rattle.database_state.specs.declared.faults.DbFault.{DbFault}
use Rattle.database_state.specs.declared.faults.DbFault.TheVariants.{StoreFault, Bad, Full, Memory}

-- `StoreFault` where the count of the store's faults rose; never `Bad` and never `Full`
abbrev pub IsTidyCause : ℕ → ℕ → DbFault → Type 0
IsTidyCause before now StoreFault = (before ≤ now) × Rose before now
IsTidyCause before now (Bad file) = ⊥
IsTidyCause before now (Full what held added) = ⊥
IsTidyCause before now Memory = now ≡ before

-- The count of the store's faults rose where `StoreFault` is answered, and stays where not.
abbrev pub HasTidyCause : {T : Type 0} → ℕ → ℕ → Result T DbFault → Type 0
HasTidyCause before now (Ok value) = now ≡ before
HasTidyCause before now (Err fault) = IsTidyCause before now fault
