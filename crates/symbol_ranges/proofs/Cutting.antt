-- A line cut at its spaces, from the front.
use Rattle.std.proofs.Common.{◌≡◌, ℕ, List, ◌∷◌, refl, None}
use Rattle.text_num.proofs.Cutting.{a_field}
use Rattle.symbol_ranges.specs.Lines.{cut_at_spaces, four_of}

-- five fields are too many
pub five_fields : (line rest : List ℕ) (a b c d : List ℕ) → cut_at_spaces line ≡ a ∷ b ∷ c ∷ d ∷ cut_at_spaces rest → None ≡ four_of (cut_at_spaces line)
five_fields line rest a b c d e = let f = a_field 32 rest in rw (e, f.2) refl
