-- A line cut at its spaces, from the front.
use Rattle.std.proofs.Common.{◌≡◌, ℕ, ◌<◌, ◌==◌, List, [], ◌∷◌, length, refl, ap, ◌∙◌, arith, Option, Some, None}
use Rattle.std.proofs.lemmas.List.Splits.{length-slice_split}
use Rattle.std.specs.Borrow.{Bor}
use Rattle.text_num.specs.Fields.{fields_behind}
use Rattle.text_num.proofs.Cutting.{a_field}
use Rattle.trace_model.specs.Grammar.{cut_at_spaces, body_of, step_of, header_of}

-- six fields are of no form of the body, four of none of the schedule, and nine of none of the header
pub six_fields : (line rest : List ℕ) (w a b c d : List ℕ) → cut_at_spaces line ≡ w ∷ a ∷ b ∷ c ∷ d ∷ cut_at_spaces rest → None ≡ body_of (cut_at_spaces line)
six_fields line rest w a b c d e = let f = a_field 32 rest in rw (e, f.2) refl

pub four_fields : (line rest : List ℕ) (w a b : List ℕ) → cut_at_spaces line ≡ w ∷ a ∷ b ∷ cut_at_spaces rest → None ≡ step_of (cut_at_spaces line)
four_fields line rest w a b e = let f = a_field 32 rest in rw (e, f.2) refl

-- five to seven fields, and nine, are of no form of a header
pub few_fields : (a b c d : List ℕ) (more : List (List ℕ)) → 0 < length more → length more < 4 → None ≡ header_of (a ∷ b ∷ c ∷ d ∷ more)
few_fields a b c d [] some few = absurd (omega arith)
few_fields a b c d (e ∷ []) some few = refl
few_fields a b c d (e ∷ f ∷ []) some few = refl
few_fields a b c d (e ∷ f ∷ g ∷ []) some few = refl
few_fields a b c d (e ∷ f ∷ g ∷ h ∷ more) some few = absurd (omega arith)

pub header_cut_short : (line rest : List ℕ) (a b c d : List ℕ) → cut_at_spaces line ≡ a ∷ b ∷ c ∷ d ∷ cut_at_spaces rest → length (cut_at_spaces rest) < 4 → None ≡ header_of (cut_at_spaces line)
header_cut_short line rest a b c d e few = rw e (few_fields a b c d (cut_at_spaces rest) (omega (arith, length-slice_split (λ byte. byte == 32) rest)) few)

pub nine_fields : (line middle rest : List ℕ) (a b c d e f g h : List ℕ) → cut_at_spaces line ≡ a ∷ b ∷ c ∷ d ∷ cut_at_spaces middle → cut_at_spaces middle ≡ e ∷ f ∷ g ∷ h ∷ cut_at_spaces rest → None ≡ header_of (cut_at_spaces line)
nine_fields line middle rest a b c d e f g h p q = let i = a_field 32 rest in rw (p, q, i.2) refl

-- four cuts behind which more stands
pub cut_four_on : {cuts : List (List ℕ)} {a b c d : List ℕ} {rest : Option (Bor (List ℕ))} {behind : Bor (List ℕ)} → cuts ≡ a ∷ b ∷ c ∷ d ∷ fields_behind 32 rest → rest ≡ Some behind → cuts ≡ a ∷ b ∷ c ∷ d ∷ cut_at_spaces behind.now
cut_four_on {a = a} {b = b} {c = c} {d = d} e is = e ∙ ap (λ (r : Option (Bor (List ℕ))). a ∷ b ∷ c ∷ d ∷ fields_behind 32 r) is
