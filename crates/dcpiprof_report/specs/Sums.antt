-- The sums by label, while profiles are read.
use Rattle.std.specs.Prelude.{◌≡◌, ℕ, ◌+◌, ◌*◌, ◌-◌, ◌^◌, ◌<◌, Bool, true, if◌then◌else◌, List, Some, None, sum_by}
use Rattle.std.specs.List.{AllByRecursion}
use Rattle.std.specs.declared.option.Option.{Option}
use Rattle.std.specs.declared.result.Result.{Result}
use Rattle.std.specs.declared.cmp.Ordering.TheVariants.{Equal}
use Rattle.store_io.specs.Files.{Files}
use Rattle.store_io.specs.FileNames.{file_name}
use Rattle.store_io.specs.declared.file_refs.FileRef.{FileRef}
use Rattle.image_catalog.specs.Images.{text_at}
use Rattle.symbol_ranges.specs.declared.symbols.Symbol.{Symbol}
use Rattle.database_model.specs.declared.profiles.ProfileRow.{ProfileRow}
use Rattle.database_model.specs.ProfileForm.{format1}
use Rattle.database_state.specs.declared.faults.DbFault.{DbFault}
use Rattle.database_state.specs.Heads.{Head}
use Rattle.database_state.specs.declared.rows.KnownRow.{KnownRow}
use Rattle.database_state.specs.declared.rows.UnknownRow.{UnknownRow}
use Rattle.database_state.specs.Rows.{known_ref, unknown_ref}
use Rattle.database_state.specs.Standing.{value_in}
use Rattle.report_text.specs.declared.epochs.Epochs.{Epochs}
use Rattle.report_text.specs.declared.labels.Label.{Label}
use Rattle.report_text.specs.declared.labels.Label.TheVariants.{Unknown}
use Rattle.report_text.specs.declared.rows.Row.{Row}
use Rattle.report_text.specs.Labels.{label_cmp, is_listed}
use Rattle.dcpiprof_report.specs.Counting.{counted_where, label_at, rows_or_none}
use Rattle.dcpiprof_report.specs.Reading.{is_known_wanted, is_unknown_wanted, is_bad, Gives}

-- a test of labels that tells none apart that the order does not
abbrev pub KeepsTies : (Label → Bool) → Type 0
KeepsTies test = (a b : Label) → label_cmp a b ≡ Equal → test a ≡ test b

-- the sum of the counts whose label passes a test
abbrev pub held : (Label → Bool) → List (Label × ℕ) → ℕ
held test sums = sum_by (λ (e : Label × ℕ). if test e.0 then e.1 else 0) sums

-- all of it
abbrev pub held_in_all : List (Label × ℕ) → ℕ
held_in_all sums = held (λ _. true) sums

-- whatever the test, this much more is held
abbrev pub Grows : List (Label × ℕ) → List (Label × ℕ) → ((Label → Bool) → ℕ) → Type 0
Grows old new more = (test : Label → Bool) → KeepsTies test → held test new ≡ held test old + more test

-- each count is above 0, and each label one of a listing by procedure, or of one by image
abbrev pub AreSums : Bool → List (Label × ℕ) → Type 0
AreSums procedures sums = AllByRecursion (λ (e : Label × ℕ). (0 < e.1) × (is_listed procedures e.0 ≡ true)) sums

-- the rows that a file tells
abbrev pub told_rows : Files → FileRef → List ProfileRow
told_rows files file = rows_or_none (value_in format1 (files (file_name file)))

-- how much a known row counts, if it is wanted
abbrev pub known_count : Files → List (List ℕ) → Option (List Symbol) → Epochs → ℕ → (Label → Bool) → KnownRow → ℕ
known_count files names symbols epochs event test row =
    if is_known_wanted epochs event row then counted_where test (label_at symbols (text_at names row.image)) (told_rows files (known_ref row)) else 0

-- how much an unknown row counts, if it is wanted
abbrev pub unknown_count : Files → Epochs → ℕ → (Label → Bool) → UnknownRow → ℕ
unknown_count files epochs event test row =
    if is_unknown_wanted epochs event row then counted_where test (λ pc. Unknown) (told_rows files (unknown_ref row)) else 0

-- the most that one profile counts
abbrev pub most_counted : ℕ
most_counted = (2 ^ 64 - 1) * 2 ^ 48

-- the file, if it is bad
abbrev pub bad_one : Files → FileRef → Option FileRef
bad_one files file = if is_bad files file then Some file else None

-- what a file counts was added, each row under the label of its offset, or the file is bad
abbrev pub AddsFile : Files → FileRef → (ℕ → Label) → List (Label × ℕ) → Result (Unit {0}) DbFault → List (Label × ℕ) → Type 0
AddsFile files file label_of old result new =
    Gives (bad_one files file) (λ _. Grows old new (λ test. counted_where test label_of (told_rows files file))) result

-- how much the known rows of a head count, and its unknown ones
abbrev pub known_counts : Files → Head → Option (List Symbol) → Epochs → ℕ → (Label → Bool) → ℕ
known_counts files head symbols epochs event test = sum_by (known_count files head.names symbols epochs event test) head.known

abbrev pub unknown_counts : Files → Head → Epochs → ℕ → (Label → Bool) → ℕ
unknown_counts files head epochs event test = sum_by (unknown_count files epochs event test) head.unknown

-- the sums are what all rows of a head count that are wanted
abbrev pub Counts : Files → Head → Option (List Symbol) → Epochs → ℕ → List (Label × ℕ) → Type 0
Counts files head symbols epochs event sums =
    (test : Label → Bool) → KeepsTies test → held test sums ≡ known_counts files head symbols epochs event test + unknown_counts files head epochs event test

-- a label with its count, as a row
abbrev pub row_of : Label × ℕ → Row
row_of e = record { count = e.1; label = e.0 }
