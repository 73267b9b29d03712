-- The text of a head, line by line from its front.
use Rattle.std.proofs.Common.{◌≡◌, ℕ, List, [], ◌∷◌, ◌++◌, length, append_assoc, append-nil}
use Rattle.std.specs.Prelude.{codes}
use Rattle.std.specs.List.{flat_map}
use Rattle.std.specs.Fmt.{decimal}
use Rattle.database_state.specs.Heads.{Head, number_line, name_line, known_line, unknown_line, first_lines, head_text}

-- a line of a word and a number, before a text
abbrev pub line_before : List ℕ → ℕ → List ℕ → List ℕ
line_before word n rest = word ++ 32 ∷ (decimal n ++ 10 ∷ rest)

abbrev pub unknown_part : Head → List ℕ
unknown_part h = flat_map unknown_line h.unknown ++ []

abbrev pub from_unknowns : Head → List ℕ
from_unknowns h = line_before (codes "unknowns") (length h.unknown) (unknown_part h)

abbrev pub known_part : Head → List ℕ
known_part h = flat_map known_line h.known ++ from_unknowns h

abbrev pub from_profiles : Head → List ℕ
from_profiles h = line_before (codes "profiles") (length h.known) (known_part h)

abbrev pub names_part : Head → List ℕ
names_part h = flat_map name_line h.names ++ from_profiles h

abbrev pub from_images : Head → List ℕ
from_images h = line_before (codes "images") (length h.names) (names_part h)

abbrev pub from_runs : Head → List ℕ
from_runs h = line_before (codes "runs") h.runs (from_images h)

abbrev pub from_epoch : Head → List ℕ
from_epoch h = line_before (codes "epoch") h.epoch (from_runs h)

abbrev pub from_generation : Head → List ℕ
from_generation h = line_before (codes "generation") h.generation (from_epoch h)

pub shape : (h : Head) → head_text h ≡ line_before (codes "dcpi-head") 1 (from_generation h)
unfolding head_text first_lines
shape h = simp (append_assoc, append-nil)
