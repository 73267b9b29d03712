-- Fields apart by one space, cut again at each space.
use Rattle.std.proofs.Common.{◌≡◌, ℕ, List, [], ◌∷◌, ◌++◌, refl, ap, ◌∙◌, arith}
use Rattle.std.specs.List.{AllByRecursion, join_with_byte}
use Rattle.std.proofs.lemmas.Bool.{ne_eqb}
use Rattle.text_num.specs.Lines.{HasNoLineFeed}
use Rattle.trace_model.specs.Grammar.{cut_at_spaces}
use Rattle.trace_laws.proofs.Spelled.{IsField}

cut_field : (field rest : List ℕ) → IsField field → cut_at_spaces (field ++ 32 ∷ rest) ≡ field ∷ cut_at_spaces rest
cut_field [] rest h = refl
cut_field (c ∷ field) rest h = rw (ne_eqb c 32 h.0.0, cut_field field rest h.1) refl

cut_last : (field : List ℕ) → IsField field → cut_at_spaces field ≡ field ∷ []
cut_last [] h = refl
cut_last (c ∷ field) h = rw (ne_eqb c 32 h.0.0, cut_last field h.1) refl

-- the fields of a line that was joined are those that were joined
pub cut_joined : (first : List ℕ) (more : List (List ℕ)) → AllByRecursion IsField (first ∷ more) → cut_at_spaces (join_with_byte 32 (first ∷ more)) ≡ first ∷ more
cut_joined first [] h = cut_last first h.0
cut_joined first (second ∷ more) h = cut_field first (join_with_byte 32 (second ∷ more)) h.0 ∙ ap (λ (l : List (List ℕ)). first ∷ l) (cut_joined second more h.1)

no_feed : (field rest : List ℕ) → IsField field → HasNoLineFeed rest → HasNoLineFeed (field ++ rest)
no_feed [] rest h k = k
no_feed (c ∷ field) rest h k = (h.0.1, no_feed field rest h.1 k)

no_feed_last : (field : List ℕ) → IsField field → HasNoLineFeed field
no_feed_last [] h = tt
no_feed_last (c ∷ field) h = (h.0.1, no_feed_last field h.1)

-- a line that was joined has no line feed
pub joined_line : (first : List ℕ) (more : List (List ℕ)) → AllByRecursion IsField (first ∷ more) → HasNoLineFeed (join_with_byte 32 (first ∷ more))
joined_line first [] h = no_feed_last first h.0
joined_line first (second ∷ more) h = no_feed first (32 ∷ join_with_byte 32 (second ∷ more)) h.0 ((λ e. omega (arith, e)), joined_line second more h.1)
