-- The bytes of a profile.
use Rattle.std.specs.Prelude.{ℕ, ◌+◌, ◌*◌, ◌-◌, ◌/◌, ◌^◌, List, [], ◌∷◌}
use Rattle.std.specs.List.{fold}
use Rattle.var_bytes.specs.Forms.{Form, Done, Field, repeat, between}
use Rattle.database_model.specs.declared.profiles.ProfileRow.{ProfileRow}

-- the position of a row: its offset in instructions of four bytes
abbrev pub position_of : ProfileRow → ℕ
position_of row = row.offset / 4

-- the position of the last row, 0 before the first
abbrev pub last_position : List ProfileRow → ℕ
last_position rows = fold (λ before row. position_of row) 0 rows

-- the least distance of the next row: 0 for the first, then 1
abbrev pub least_distance : List ProfileRow → ℕ
least_distance [] = 0
least_distance (row ∷ rows) = 1

-- a row behind those before it: its distance, such that its offset is at most 2 ^ 64 - 4, and its count
unfoldable pub row_form : ℕ → ℕ → Form ProfileRow
row_form least last =
    Field (between least (2 ^ 62 - 1 - last)) (λ distance.
    Field (between 1 (2 ^ 48)) (λ count.
    Done (record { offset = 4 * (last + distance); count = count })))

-- the row after these
abbrev pub next_row : List ProfileRow → Form ProfileRow
next_row rows = row_form (least_distance rows) (last_position rows)

-- a profile in format 1: the format, the number of rows, the rows
unfoldable pub format1 : Form (List ProfileRow)
format1 =
    Field (between 1 1) (λ format.
    Field (between 0 (2 ^ 64 - 1)) (λ count.
    repeat next_row count []))

-- the numbers of a row behind these rows
abbrev pub row_fields : List ProfileRow → ProfileRow → List ℕ
row_fields rows row = (position_of row - last_position rows) ∷ row.count ∷ []
