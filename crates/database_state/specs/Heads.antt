-- The head of a generation, and its text.
use Rattle.std.specs.Prelude.{◌≡◌, ℕ, ◌+◌, ◌≤◌, Bool, true, ◌&&◌, nat_le, List, [], ◌∷◌, ◌++◌, length, codes}
use Rattle.std.specs.List.{list_all, flat_map}
use Rattle.std.specs.Fmt.{decimal}
use Rattle.text_num.specs.Names.{is_name}
use Rattle.image_catalog.specs.Images.{AreImages}
use Rattle.database_state.specs.declared.rows.KnownRow.{KnownRow}
use Rattle.database_state.specs.declared.rows.UnknownRow.{UnknownRow}
use Rattle.database_state.specs.Rows.{known_before, unknown_before, is_rising, is_known_row, is_unknown_row}

-- what a head says: its generation, the last epoch, the number of runs, the images by their numbers, and the rows
pub record Head : Type 0 where
  pub generation : ℕ
  pub epoch : ℕ
  pub runs : ℕ
  pub names : List (List ℕ)
  pub known : List KnownRow
  pub unknown : List UnknownRow

-- before the first commit
abbrev pub empty_head : Head
empty_head = record { generation = 0; epoch = 0; runs = 0; names = []; known = []; unknown = [] }

-- the rows and segments of a head
abbrev pub row_count : Head → ℕ
row_count h = length h.known + length h.unknown + h.generation

-- the numbers of a head are in their ranges and its rows in their order
abbrev pub is_in_range : Head → Bool
is_in_range h =
    nat_le h.epoch h.generation && nat_le h.runs h.generation && nat_le (row_count h) 65536
    && list_all (is_known_row h.epoch (length h.names) h.generation) h.known && is_rising known_before h.known
    && list_all (is_unknown_row h.epoch h.generation) h.unknown && is_rising unknown_before h.unknown

-- the head of a generation
pub record IsHead (h : Head) : Type 0 where
  pub some : 1 ≤ h.generation
  pub runs : 1 ≤ h.runs
  pub range : is_in_range h ≡ true
  pub images : AreImages h.names
  pub names : list_all is_name h.names ≡ true

-- a line of a word and a number
abbrev pub number_line : List ℕ → ℕ → List ℕ
number_line word n = word ++ 32 ∷ (decimal n ++ 10 ∷ [])

-- a line of a name
abbrev pub name_line : List ℕ → List ℕ
name_line name = name ++ 10 ∷ []

-- the line of a row
abbrev pub known_line : KnownRow → List ℕ
known_line r = decimal r.epoch ++ 32 ∷ (decimal r.image ++ 32 ∷ (decimal r.event ++ 32 ∷ (decimal r.g ++ 10 ∷ [])))

-- the line of an unknown row
abbrev pub unknown_line : UnknownRow → List ℕ
unknown_line r = decimal r.epoch ++ 32 ∷ (decimal r.event ++ 32 ∷ (decimal r.g ++ 10 ∷ []))

-- the lines before the images
unfoldable pub first_lines : Head → List ℕ
first_lines h = (((number_line (codes "dcpi-head") 1 ++ number_line (codes "generation") h.generation) ++ number_line (codes "epoch") h.epoch) ++ number_line (codes "runs") h.runs) ++ number_line (codes "images") (length h.names)

-- the text of a head
unfoldable pub head_text : Head → List ℕ
head_text h = ((((first_lines h ++ flat_map name_line h.names) ++ number_line (codes "profiles") (length h.known)) ++ flat_map known_line h.known) ++ number_line (codes "unknowns") (length h.unknown)) ++ flat_map unknown_line h.unknown
