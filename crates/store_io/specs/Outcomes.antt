-- What a write and a removal leave: in the files that the store tells, and after a crash.
use Rattle.std.specs.Prelude.{◌≡◌, ℕ, ◌≤◌, List, ◌⊎◌, None, Some, OnOk, IsErrOf}
use Rattle.std.specs.declared.option.Option.{Option}
use Rattle.std.specs.declared.result.Result.{Result}
use Rattle.std.specs.Option.{option_map}
use Rattle.outside_io.specs.Causes.{Rose}
use Rattle.store_io.specs.declared.errors.StoreError.{StoreError}
use Rattle.store_io.specs.declared.errors.StoreError.TheVariants.{Failed, Memory}
use Rattle.store_io.specs.Files.{Files, with_file}

-- The count of faults never falls. `Failed` comes only where it rose, and any other answer leaves it.
pub record HasStoreCause {T : Type 0} (before now : ℕ) (result : Result T StoreError) : Type 0 where
  pub later : before ≤ now
  pub failed : IsErrOf result Failed → Rose before now
  pub kept : OnOk result (now ≡ before)
  pub memory : IsErrOf result Memory → now ≡ before

-- this one name is absent, as before, or holds any bytes
abbrev pub Torn : List ℕ → Files → Files → Type 0
Torn name old new = (bytes : Option (List ℕ)) × (new ≡ with_file name bytes old)

-- this one name is absent or as before
abbrev pub MaybeRemoved : List ℕ → Files → Files → Type 0
MaybeRemoved name old new = (new ≡ with_file name None old) ⊎ (new ≡ old)

-- this name has these bytes
abbrev pub Holds : List ℕ → Option (List ℕ) → Files → Files → Type 0
Holds name bytes old new = new ≡ with_file name bytes old

-- some of these outcomes, after a step
abbrev pub AfterSome : (Files → Type 0) → (Files → Files → Type 0) → Files → Type 0
AfterSome outcomes step files = (from : Files) × outcomes from × step from files

-- what a step makes of files that are told
abbrev pub Told : (Files → Files → Type 0) → Option Files → Option Files → Type 0
Told step None new = new ≡ None
Told step (Some old) new = (files : Files) × (new ≡ Some files) × step old files

-- the files after a call that was to make this step, where `Failed` leaves less of it
pub record Makes {T : Type 0} (step less : Files → Files → Type 0) (old new : Option Files) (result : Result T StoreError) : Type 0 where
  pub ok : OnOk result (Told step old new)
  pub failed : IsErrOf result Failed → Told less old new
  pub memory : IsErrOf result Memory → new ≡ old

-- what a crash leaves after that call
pub record Leaves {T : Type 0} (step less : Files → Files → Type 0) (old new : Files → Type 0) (result : Result T StoreError) : Type 0 where
  pub ok : OnOk result ((c : Files) → new c → AfterSome old step c)
  pub failed : IsErrOf result Failed → (c : Files) → new c → AfterSome old less c
  pub memory : IsErrOf result Memory → (c : Files) → new c → old c

-- the files after a write of these bytes under a name
abbrev pub Writes : {T : Type 0} → List ℕ → List ℕ → Option Files → Option Files → Result T StoreError → Type 0
Writes name bytes old new result = Makes (Holds name (Some bytes)) (Torn name) old new result

-- the files after a removal of a name
abbrev pub Removes : {T : Type 0} → List ℕ → Option Files → Option Files → Result T StoreError → Type 0
Removes name old new result = Makes (Holds name None) (MaybeRemoved name) old new result
