-- What opening and reading answer.
use Rattle.std.specs.Prelude.{◌≡◌, ◌≢◌, ℕ, ◌≤◌, List, [], None, Some, Ok, Err}
use Rattle.std.specs.declared.option.Option.{Option}
use Rattle.std.specs.declared.result.Result.{Result}
use Rattle.store_io.specs.Files.{Files}
use Rattle.store_io.specs.declared.file_refs.FileRef.{FileRef}
use Rattle.store_io.specs.declared.file_refs.FileRef.TheVariants as named
use Rattle.database_model.specs.declared.profiles.ProfileRow.{ProfileRow}
use Rattle.database_model.specs.ProfileForm.{format1}
use Rattle.database_state.specs.declared.rows.KnownRow.{KnownRow}
use Rattle.database_state.specs.declared.rows.UnknownRow.{UnknownRow}
use Rattle.database_state.specs.Rows.{known_ref, unknown_ref}
use Rattle.store_io.specs.FileNames.{file_name}
use Rattle.database_state.specs.Heads.{Head, IsHead, head_text}
use Rattle.database_state.specs.Standing.{IsLatest, HaveHead, head_file, value_in}
use Rattle.database_state.specs.declared.faults.DbFault.{DbFault}
use Rattle.database_state.specs.declared.faults.DbFault.TheVariants.{StoreFault, Bad, Full, Memory}
use Rattle.epoch_store.specs.declared.database.Database.{Database}
use Rattle.epoch_store.specs.Databases.{head_of}

-- the head of generation g is missing or not in its form
abbrev pub HasNoHead : Files → ℕ → Type 0
HasNoHead files g = (h : Head) → IsHead h → h.generation ≡ g → files (head_file g) ≢ Some (head_text h)

-- why files were not opened: `Bad` names the head of the greatest sealed generation, which is missing or not in its form
abbrev pub IsRefusal : Files → DbFault → Type 0
IsRefusal files StoreFault = Unit {0}
IsRefusal files (Bad file) = (g : ℕ) × (file ≡ named.Head g) × (1 ≤ g) × IsLatest files g × HasNoHead files g
IsRefusal files (Full what held added) = ⊥
IsRefusal files Memory = Unit {0}

-- why the head of generation g was not read: `Bad` names it where it is missing or not in its form
abbrev pub IsHeadless : Files → ℕ → DbFault → Type 0
IsHeadless files g StoreFault = Unit {0}
IsHeadless files g (Bad file) = (file ≡ named.Head g) × HasNoHead files g
IsHeadless files g (Full what held added) = ⊥
IsHeadless files g Memory = Unit {0}

-- what reading the head of generation g gives
abbrev pub FindsHead : Files → ℕ → Result Head DbFault → Type 0
FindsHead files g (Ok h) = files (head_file g) ≡ Some (head_text h)
FindsHead files g (Err fault) = IsHeadless files g fault

-- what opening gives: a database with the head that the files have, or a refusal
abbrev pub Opens : Files → Result Database DbFault → Type 0
Opens files (Ok db) = HaveHead files (head_of db)
Opens files (Err fault) = IsRefusal files fault

-- why a file that tells this was not read: `Bad` names it where it tells nothing
abbrev pub IsUnread : {A : Type 0} → FileRef → Option A → DbFault → Type 0
IsUnread file told StoreFault = Unit {0}
IsUnread file told (Bad other) = (other ≡ file) × (told ≡ None)
IsUnread file told (Full what held added) = ⊥
IsUnread file told Memory = Unit {0}

-- what reading a file gives, seen by view: what it tells, or why not
abbrev pub ReadsAs : {A B : Type 0} → (A → B) → FileRef → Option B → Result A DbFault → Type 0
ReadsAs view file told (Ok value) = told ≡ Some (view value)
ReadsAs view file told (Err fault) = IsUnread file told fault

-- the same of a value as it is
abbrev pub Reads : {A : Type 0} → FileRef → Option A → Result A DbFault → Type 0
Reads file told result = ReadsAs (λ value. value) file told result

-- what reading the file of a row gives; no rows where there is no row
abbrev pub ReadsRow : {R : Type 0} → (R → FileRef) → Files → Option R → Result (List ProfileRow) DbFault → Type 0
ReadsRow file files None result = result ≡ Ok []
ReadsRow file files (Some r) result = Reads (file r) (value_in format1 (files (file_name (file r)))) result

-- what reading the profile of a row gives
abbrev pub ReadsKnown : Files → Option KnownRow → Result (List ProfileRow) DbFault → Type 0
ReadsKnown files row result = ReadsRow known_ref files row result

-- what reading the unknown profile of a row gives
abbrev pub ReadsUnknown : Files → Option UnknownRow → Result (List ProfileRow) DbFault → Type 0
ReadsUnknown files row result = ReadsRow unknown_ref files row result
