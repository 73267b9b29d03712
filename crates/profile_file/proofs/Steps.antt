-- The steps of the loop that reads rows.
use Rattle.std.proofs.Common.{◌≡◌, ℕ, List, Result, subst}
use Rattle.var_bytes.specs.Forms.{Form}
use Rattle.var_bytes.specs.Reading.{take_form}
use Rattle.database_model.specs.declared.profiles.ProfileRow.{ProfileRow}
use Rattle.database_model.specs.ProfileForm.{row_form, next_row, last_position, least_distance}
use Rattle.profile_file.specs.Places.{IsRowAt}

-- the form of the next row, where the position and the least distance are at hand
pub next_row_is : (rows : List ProfileRow) (least last : ℕ) → least ≡ least_distance rows → last ≡ last_position rows → row_form least last ≡ next_row rows
next_row_is rows least last p q = cc

pub row_read : (rows : List ProfileRow) (least last : ℕ) (bytes : List ℕ) (at : ℕ) (read : Result (ProfileRow × ℕ) ℕ) → least ≡ least_distance rows → last ≡ last_position rows → take_form (row_form least last) bytes at ≡ read → take_form (next_row rows) bytes at ≡ read
row_read rows least last bytes at read p q e = subst (λ (form : Form ProfileRow). take_form form bytes at ≡ read) (next_row_is rows least last p q) e

pub is_row_at : (rows : List ProfileRow) (row : ProfileRow) (least last : ℕ) → least ≡ least_distance rows → last ≡ last_position rows → IsRowAt least last row → IsRowAt (least_distance rows) (last_position rows) row
is_row_at rows row least last p q is = subst (λ (l : ℕ). IsRowAt l (last_position rows) row) p (subst (λ (l : ℕ). IsRowAt least l row) q is)
