-- What a file tells in a format.
use Rattle.std.proofs.Common.{◌≡◌, inl, inr, List, ℕ, None, Some, ap}
use Rattle.var_bytes.specs.Numbers.{IsBytes}
use Rattle.var_bytes.specs.Forms.{Form, Spells, IsBadAt}
use Rattle.var_bytes.specs.Reading.{read_form}
use Rattle.var_bytes.proofs.FieldLaws.{cases_result}
use Rattle.var_bytes.proofs.FormLaws.{reads_ok, reads_again, not_both}
use Rattle.database_state.specs.Standing.{value_in, told}

-- bytes that spell a value tell it
pub tells : {A : Type 0} (form : Form A) (bytes : List ℕ) (value : A) → Spells form bytes value → value_in form (Some bytes) ≡ Some value
tells form bytes value spells = ap told (reads_again form bytes value spells)

-- bytes with a bad field tell nothing
pub tells_none : {A : Type 0} (form : Form A) (bytes : List ℕ) (at : ℕ) → IsBytes bytes → IsBadAt form bytes at → value_in form (Some bytes) ≡ None
tells_none form bytes at are bad = elim (cases_result (read_form form bytes)) [
  | inl read ↦ absurd (not_both form bytes read.0 at (reads_ok form bytes read.0 are read.1) bad)
  | inr failed ↦ ap told failed.1
]
