-- The rows of a head: where each stands in their order, and the file that it names.
use Rattle.std.specs.Prelude.{ℕ, ◌==◌, ◌&&◌, ◌||◌, Bool, true, nat_lt, nat_le, if◌then◌else◌, List, [], ◌∷◌, find}
use Rattle.std.specs.declared.option.Option.{Option}
use Rattle.store_io.specs.declared.file_refs.FileRef.{FileRef}
use Rattle.store_io.specs.declared.file_refs.FileRef.TheVariants.{Known, Unknown}
use Rattle.store_io.specs.FileNames.{file_name}
use Rattle.database_state.specs.declared.rows.KnownRow.{KnownRow}
use Rattle.database_state.specs.declared.rows.UnknownRow.{UnknownRow}

-- a comes before b: by epoch, then by image, then by event code
abbrev pub known_before : KnownRow → KnownRow → Bool
known_before a b = nat_lt a.epoch b.epoch || (a.epoch == b.epoch && (nat_lt a.image b.image || (a.image == b.image && nat_lt a.event b.event)))

-- a and b are of one profile
abbrev pub known_same : KnownRow → KnownRow → Bool
known_same a b = a.epoch == b.epoch && a.image == b.image && a.event == b.event

-- a comes before b: by epoch, then by event code
abbrev pub unknown_before : UnknownRow → UnknownRow → Bool
unknown_before a b = nat_lt a.epoch b.epoch || (a.epoch == b.epoch && nat_lt a.event b.event)

-- a and b are of one unknown profile
abbrev pub unknown_same : UnknownRow → UnknownRow → Bool
unknown_same a b = a.epoch == b.epoch && a.event == b.event

-- x comes before the first of the others
abbrev pub is_before_first : {R : Type 0} → (R → R → Bool) → R → List R → Bool
is_before_first before x [] = true
is_before_first before x (y ∷ rows) = before x y

-- each row comes before the next
abbrev pub is_rising : {R : Type 0} → (R → R → Bool) → List R → Bool
is_rising before [] = true
is_rising before (x ∷ rows) = is_before_first before x rows && is_rising before rows

-- the rows with one more: in place of the row of the same profile, or else where it stands in their order
abbrev pub with_row : {R : Type 0} → (R → R → Bool) → (R → R → Bool) → List R → R → List R
with_row before same [] r = r ∷ []
with_row before same (x ∷ rows) r = if before r x then r ∷ x ∷ rows else (if same r x then r ∷ rows else x ∷ with_row before same rows r)

-- a row of the place of a profile
abbrev pub known_place : ℕ → ℕ → ℕ → KnownRow
known_place epoch image event = record { epoch = epoch; image = image; event = event; g = 0 }

-- a row of the place of an unknown profile
abbrev pub unknown_place : ℕ → ℕ → UnknownRow
unknown_place epoch event = record { epoch = epoch; event = event; g = 0 }

-- the row of a profile
abbrev pub known_row : List KnownRow → ℕ → ℕ → ℕ → Option KnownRow
known_row rows epoch image event = find (known_same (known_place epoch image event)) rows

-- the row of an unknown profile
abbrev pub unknown_row : List UnknownRow → ℕ → ℕ → Option UnknownRow
unknown_row rows epoch event = find (unknown_same (unknown_place epoch event)) rows

-- a row's file
abbrev pub known_ref : KnownRow → FileRef
known_ref r = Known r.epoch r.image r.event r.g

-- an unknown row's file
abbrev pub unknown_ref : UnknownRow → FileRef
unknown_ref r = Unknown r.epoch r.event r.g

-- the name of a row's file
abbrev pub known_file : KnownRow → List ℕ
known_file r = file_name (known_ref r)

-- the name of an unknown row's file
abbrev pub unknown_file : UnknownRow → List ℕ
unknown_file r = file_name (unknown_ref r)

-- a row of a head with this last epoch, this many images and this generation
abbrev pub is_known_row : ℕ → ℕ → ℕ → KnownRow → Bool
is_known_row epoch images generation r = nat_le r.epoch epoch && nat_lt r.image images && nat_le r.event 3 && nat_le 1 r.g && nat_le r.g generation

-- an unknown row of a head with this last epoch and this generation
abbrev pub is_unknown_row : ℕ → ℕ → UnknownRow → Bool
is_unknown_row epoch generation r = nat_le r.epoch epoch && nat_le r.event 3 && nat_le 1 r.g && nat_le r.g generation
