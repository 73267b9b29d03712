-- Which files a listing reads, in the order of the head, and what it answers where one of them is bad.
use Rattle.std.specs.Prelude.{◌≡◌, ℕ, ◌==◌, ◌&&◌, Bool, true, is_none, List, ◌++◌, map, filter, find, Some, None, Ok, Err}
use Rattle.std.specs.declared.option.Option.{Option}
use Rattle.std.specs.declared.result.Result.{Result}
use Rattle.store_io.specs.Files.{Files}
use Rattle.store_io.specs.FileNames.{file_name}
use Rattle.store_io.specs.declared.file_refs.FileRef.{FileRef}
use Rattle.database_model.specs.ProfileForm.{format1}
use Rattle.database_state.specs.declared.faults.DbFault.{DbFault}
use Rattle.database_state.specs.declared.faults.DbFault.TheVariants.{StoreFault, Bad, Full, Memory}
use Rattle.database_state.specs.declared.rows.KnownRow.{KnownRow}
use Rattle.database_state.specs.declared.rows.UnknownRow.{UnknownRow}
use Rattle.database_state.specs.Rows.{known_ref, unknown_ref}
use Rattle.database_state.specs.Heads.{Head}
use Rattle.database_state.specs.Standing.{value_in}
use Rattle.report_text.specs.declared.epochs.Epochs.{Epochs}
use Rattle.report_text.specs.declared.epochs.Epochs.TheVariants.{All, One}

-- the epoch is asked for
abbrev pub is_chosen : Epochs → ℕ → Bool
is_chosen All epoch = true
is_chosen (One one) epoch = one == epoch

-- the row is of an epoch that is asked for, and of the event
abbrev pub is_known_wanted : Epochs → ℕ → KnownRow → Bool
is_known_wanted epochs event row = is_chosen epochs row.epoch && event == row.event

abbrev pub is_unknown_wanted : Epochs → ℕ → UnknownRow → Bool
is_unknown_wanted epochs event row = is_chosen epochs row.epoch && event == row.event

-- the files of the known rows that are wanted, in their order
abbrev pub known_wanted : Epochs → ℕ → List KnownRow → List FileRef
known_wanted epochs event rows = map known_ref (filter (is_known_wanted epochs event) rows)

abbrev pub unknown_wanted : Epochs → ℕ → List UnknownRow → List FileRef
unknown_wanted epochs event rows = map unknown_ref (filter (is_unknown_wanted epochs event) rows)

-- the files that a listing reads: those of the rows that are wanted, in the order of the head
abbrev pub wanted : Head → Epochs → ℕ → List FileRef
wanted head epochs event = known_wanted epochs event head.known ++ unknown_wanted epochs event head.unknown

-- the file of a profile is missing or not in its form
abbrev pub is_bad : Files → FileRef → Bool
is_bad files file = is_none (value_in format1 (files (file_name file)))

-- the first of these files that is bad
abbrev pub first_bad : Files → List FileRef → Option FileRef
first_bad files wanted = find (is_bad files) wanted

-- why reading stopped, where this is the first bad file
abbrev pub IsStopped : Option FileRef → DbFault → Type 0
IsStopped first StoreFault = Unit {0}
IsStopped first (Bad file) = first ≡ Some file
IsStopped first (Full what held added) = ⊥
IsStopped first Memory = Unit {0}

-- what reading gives, where this is the first bad file: a value only where there is none
abbrev pub Gives : {T : Type 0} → Option FileRef → (T → Type 0) → Result T DbFault → Type 0
Gives first Is (Ok value) = (first ≡ None) × Is value
Gives first Is (Err fault) = IsStopped first fault
