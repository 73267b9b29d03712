-- Rows made of numbers: of each number that passes a test, in rising order.
use Rattle.std.proofs.Common.{◌≡◌, ℕ, zero, suc, ◌+◌, ◌<◌, ◌≤◌, Bool, true, false, List, [], ◌∷◌, length, refl, sym, ◌∙◌, ap, arith, Option, Some, None, eqb, if◌then◌else◌}
use Rattle.std.specs.Prelude.{find}
use Rattle.std.proofs.lemmas.Bool.{cond_both, cond-true, cond-false, and_from, eqb-true, eqb-false}
use Rattle.database_state.specs.Rows.{is_before_first, is_rising}

module _ {R : Type 0} (make : ℕ → R) (test : ℕ → Bool) where
  pub picked : ℕ → ℕ → List R
  picked from zero = []
  picked from (suc count) = if test from then make from ∷ picked (from + 1) count else picked (from + 1) count

  -- at most one of each number
  pub few : (from count : ℕ) → length (picked from count) ≤ count
  unfolding picked
  few from zero = omega arith
  few from (suc count) =
      cond_both (test from) (make from ∷ picked (from + 1) count) (picked (from + 1) count) (λ (l : List R). length l ≤ suc count)
      (λ e. omega (arith, few (from + 1) count)) (λ e. omega (arith, few (from + 1) count))

  -- they rise
  module _ (before : R → R → Bool) (ordered : (a b : ℕ) → a < b → before (make a) (make b) ≡ true) where
    pub first : (a from count : ℕ) → a < from → is_before_first before (make a) (picked from count) ≡ true
    unfolding picked
    first a from zero less = refl
    first a from (suc count) less =
        cond_both (test from) (make from ∷ picked (from + 1) count) (picked (from + 1) count) (λ (l : List R). is_before_first before (make a) l ≡ true)
        (λ e. ordered a from less) (λ e. first a (from + 1) count (omega arith))

    pub rising : (from count : ℕ) → is_rising before (picked from count) ≡ true
    unfolding picked
    rising from zero = refl
    rising from (suc count) =
        cond_both (test from) (make from ∷ picked (from + 1) count) (picked (from + 1) count) (λ (l : List R). is_rising before l ≡ true)
        (λ e. and_from _ _ (first from (from + 1) count (omega arith)) (rising (from + 1) count)) (λ e. rising (from + 1) count)

  -- what is looked for is none of them
  pub none : (q : R → Bool) (from count : ℕ) → ((n : ℕ) → from ≤ n → n < from + count → q (make n) ≡ false) → find q (picked from count) ≡ None
  unfolding picked
  none q from zero apart = refl
  none q from (suc count) apart =
      let rest = none q (from + 1) count (λ n l h. apart n (omega arith) (omega arith)) in
      cond_both (test from) (make from ∷ picked (from + 1) count) (picked (from + 1) count) (λ (l : List R). find q l ≡ None)
      (λ e. cond-false (q (make from)) (Some (make from)) (find q (picked (from + 1) count)) (apart from (omega arith) (omega arith)) ∙ rest) (λ e. rest)

  -- or the one of this number
  pub found : (q : R → Bool) (n : ℕ) → q (make n) ≡ true → ((m : ℕ) → (m ≡ n → ⊥) → q (make m) ≡ false) → (from count : ℕ) → from ≤ n → n < from + count
      → find q (picked from count) ≡ (if test n then Some (make n) else None)
  unfolding picked
  found q n here apart from zero low high = absurd (omega arith)
  found q n here apart from (suc count) low high = by (eqb from n) refl (λ low high. found q n here apart (from + 1) count low high)
    where
      by : (t : Bool) → eqb from n ≡ t → (from + 1 ≤ n → n < (from + 1) + count → find q (picked (from + 1) count) ≡ (if test n then Some (make n) else None))
          → find q (if test from then make from ∷ picked (from + 1) count else picked (from + 1) count) ≡ (if test n then Some (make n) else None)
      by true e rest =
          let same : from ≡ n = eqb-true from n e in
          let is : q (make from) ≡ true = ap (λ (m : ℕ). q (make m)) same ∙ here in
          cond_both (test from) (make from ∷ picked (from + 1) count) (picked (from + 1) count) (λ (l : List R). find q l ≡ (if test n then Some (make n) else None))
          (λ t. cond-true (q (make from)) (Some (make from)) (find q (picked (from + 1) count)) is
          ∙ ap {B = Option R} (λ (m : ℕ). Some (make m)) same
          ∙ sym (cond-true (test n) (Some (make n)) None (sym (ap test same) ∙ t)))
          (λ t. none q (from + 1) count (λ m l h. apart m (λ (s : m ≡ n). omega arith))
          ∙ sym (cond-false (test n) (Some (make n)) None (sym (ap test same) ∙ t)))
      by false e rest =
          let other : from ≡ n → ⊥ = eqb-false from n e in
          let after : from + 1 ≤ n = later other in
          cond_both (test from) (make from ∷ picked (from + 1) count) (picked (from + 1) count) (λ (l : List R). find q l ≡ (if test n then Some (make n) else None))
          (λ t. cond-false (q (make from)) (Some (make from)) (find q (picked (from + 1) count)) (apart from other) ∙ rest after (omega arith))
          (λ t. rest after (omega arith))
        where
          later : (from ≡ n → ⊥) → from + 1 ≤ n
          later other = omega arith
