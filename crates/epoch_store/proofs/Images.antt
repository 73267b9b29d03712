-- Where names stand among more names.
use Rattle.std.proofs.Common.{arith, ◌≡◌, ℕ, ◌+◌, ◌<◌, ◌≤◌, inl, inr, Bool, true, false, cond, eqb, List, ◌++◌, None, Some, length, sym, ap, ◌∙◌}
use Rattle.std.specs.Prelude.{nat_lt, not}
use Rattle.std.specs.List.{prefix_len}
use Rattle.std.specs.Str.{bytes_eq}
use Rattle.std.proofs.lemmas.Grind.{common_steps}
use Rattle.std.proofs.lemmas.Bool.{cases_lt, eq-eqb}
use Rattle.std.proofs.lemmas.List.Folds.{prefix_len-append}
use Rattle.std.proofs.lemmas.List.Sums.{prefix_len-le-length}
use Rattle.image_catalog.specs.Images.{place_of}

lt_true : (a b : ℕ) → a < b → nat_lt a b ≡ true
lt_true a b below = grind (arith, common_steps)

lt_false : (a b : ℕ) → b ≤ a → nat_lt a b ≡ false
lt_false a b above = grind (arith, common_steps)

apart_false : (a b : ℕ) → a < b → eqb a b ≡ false
apart_false a b below = grind (arith, common_steps)

-- a place is below the number of names
none_past : (a b : ℕ) → cond (nat_lt a b) (Some a) None ≡ None → b ≤ a
none_past a b none = elim (cases_lt a b) [
  | inl below ↦ let some : Some a ≡ None = rw (lt_true a b below) at none in absurd cc
  | inr above ↦ above
]

some_at : (a b i : ℕ) → cond (nat_lt a b) (Some a) None ≡ Some i → (a ≡ i) × (a < b)
some_at a b i some = elim (cases_lt a b) [
  | inl below ↦ let is : Some a ≡ Some i = rw (lt_true a b below) at some in (cc, below)
  | inr above ↦ let none : None ≡ Some i = rw (lt_false a b above) at some in absurd cc
]

-- a name that has a place keeps it
pub place_kept : (name : List ℕ) (names more : List (List ℕ)) (i j : ℕ) → place_of name names ≡ Some i → place_of name (names ++ more) ≡ Some j → i ≡ j
place_kept name names more i j here after =
    let test : List ℕ → Bool = λ held. not (bytes_eq held name) in
    let a = some_at (prefix_len test names) (length names) i here in
    let b = some_at (prefix_len test (names ++ more)) (length (names ++ more)) j after in
    let joined : prefix_len test (names ++ more) ≡ prefix_len test names = prefix_len-append test names more ∙ ap (λ t. cond t (length names + prefix_len test more) (prefix_len test names)) (apart_false (prefix_len test names) (length names) a.1) in
    sym a.0 ∙ sym joined ∙ b.0

-- a new name has its place behind the others
pub place_new : (name : List ℕ) (names more : List (List ℕ)) (j : ℕ) → place_of name names ≡ None → place_of name (names ++ more) ≡ Some j → length names ≤ j
place_new name names more j none after =
    let test : List ℕ → Bool = λ held. not (bytes_eq held name) in
    let past = none_past (prefix_len test names) (length names) none in
    let within = prefix_len-le-length test names in
    let at : prefix_len test names ≡ length names = omega (arith, past, within) in
    let b = some_at (prefix_len test (names ++ more)) (length (names ++ more)) j after in
    let joined : prefix_len test (names ++ more) ≡ length names + prefix_len test more = prefix_len-append test names more ∙ ap (λ t. cond t (length names + prefix_len test more) (prefix_len test names)) (eq-eqb (prefix_len test names) (length names) at) in
    omega (arith, joined, b.0)
