-- Lists of numbers that rise: two with the same members are one.
use Rattle.std.proofs.Common.{◌≡◌, ℕ, ◌+◌, ◌%◌, ◌<◌, ◌≤◌, List, [], ◌∷◌, ◌++◌, length, refl, sym, subst, arith, inl, inr, leb, leb-true, leb-false}
use Rattle.std.proofs.lemmas.Bool.{cond_both}
use Rattle.sample_key.specs.Sent.{Sent}
use Rattle.sample_key.specs.declared.losses.Pace.{Pace}
use Rattle.trace_model.specs.declared.notices.Record.{Record}
use Rattle.driver_model.specs.Lists.{EachFrom, AllOf, SomeOf}
use Rattle.driver_laws.proofs.Lists.{all_last}
use Rattle.run_model.specs.Daemon.{needs_flush, flush_before}
use Rattle.run_model.specs.Validity.{flushes_of}
use Rattle.run_laws.proofs.Owed.{answers_of}

-- each number is above the one before it, and none is below this one
abbrev pub ClimbsFrom : ℕ → List ℕ → Type 0
ClimbsFrom least [] = Unit {0}
ClimbsFrom least (x ∷ xs) = (least ≤ x) × ClimbsFrom (x + 1) xs

-- a number is among these
abbrev pub IsAmong : List ℕ → ℕ → Type 0
IsAmong xs x = SomeOf (λ y. y ≡ x) xs

-- what is among them is no lower than the first may be
pub among_above : (least x : ℕ) (xs : List ℕ) → ClimbsFrom least xs → IsAmong xs x → least ≤ x
among_above least x [] climbs some = absurd some
among_above least x (y ∷ xs) climbs (inl e) = omega (arith, climbs.0)
among_above least x (y ∷ xs) climbs (inr some) = omega (arith, climbs.0, among_above (y + 1) x xs climbs.1 some)

-- what is among the rest is among all, and is not the first
among_rest : (x z : ℕ) (xs ys : List ℕ) → ClimbsFrom (x + 1) xs → (IsAmong (x ∷ xs) z → IsAmong (x ∷ ys) z) → IsAmong xs z → IsAmong ys z
among_rest x z xs ys climbs others some = elim (others (inr some)) as (λ w. IsAmong ys z) [
  | inl e ↦ absurd (omega (arith, among_above (x + 1) z xs climbs some))
  | inr more ↦ more
]

-- lists that rise and have the same members are one
pub same_climbs : (least : ℕ) (xs ys : List ℕ) → ClimbsFrom least xs → ClimbsFrom least ys → ((x : ℕ) → IsAmong xs x → IsAmong ys x) → ((y : ℕ) → IsAmong ys y → IsAmong xs y) → xs ≡ ys
same_climbs least [] [] a b to from = refl
same_climbs least [] (y ∷ ys) a b to from = absurd (from y (inl refl))
same_climbs least (x ∷ xs) [] a b to from = absurd (to x (inl refl))
same_climbs least (x ∷ xs) (y ∷ ys) a b to from =
    let low : y ≤ x = among_above y x (y ∷ ys) (omega arith, b.1) (to x (inl refl)) in
    let high : x ≤ y = among_above x y (x ∷ xs) (omega arith, a.1) (from y (inl refl)) in
    let same : x ≡ y = omega arith in
    let rise : ClimbsFrom (x + 1) ys = subst (λ (n : ℕ). ClimbsFrom (n + 1) ys) (sym same) b.1 in
    let rest : xs ≡ ys = same_climbs (x + 1) xs ys a.1 rise
    (λ z some. among_rest x z xs ys a.1 (λ w. subst (λ (n : ℕ). IsAmong (n ∷ ys) z) (sym same) (to z w)) some)
    (λ z some. among_rest x z ys xs rise (λ w. from z (subst (λ (n : ℕ). IsAmong (n ∷ ys) z) same w)) some) in
    λ i. same i ∷ rest i

-- a list that rises within one that does, up to a value and without a gap below it, stands at its front
pub front_climbs : (least most : ℕ) (xs ys : List ℕ) → ClimbsFrom least xs → ClimbsFrom least ys → AllOf (λ x. x ≤ most) xs
    → ((x : ℕ) → IsAmong xs x → IsAmong ys x) → ((y : ℕ) → IsAmong ys y → y < most → IsAmong xs y) → (rest : List ℕ) × (xs ++ rest ≡ ys)
front_climbs least most [] ys a b few to from = (ys, refl)
front_climbs least most (x ∷ xs) [] a b few to from = absurd (to x (inl refl))
front_climbs least most (x ∷ xs) (y ∷ ys) a b few to from =
    let low : y ≤ x = among_above y x (y ∷ ys) (omega arith, b.1) (to x (inl refl)) in
    let same : x ≡ y = not_above (λ above. among_above x y (x ∷ xs) (omega arith, a.1) (from y (inl refl) (omega (arith, few.0)))) low in
    let rise : ClimbsFrom (x + 1) ys = subst (λ (n : ℕ). ClimbsFrom (n + 1) ys) (sym same) b.1 in
    let rest = front_climbs (x + 1) most xs ys a.1 rise few.1
    (λ z some. among_rest x z xs ys a.1 (λ w. subst (λ (n : ℕ). IsAmong (n ∷ ys) z) (sym same) (to z w)) some)
    (λ z some below. among_rest x z ys xs rise (λ w. from z (subst (λ (n : ℕ). IsAmong (n ∷ ys) z) same w) below) some) in
    (rest.0, λ i. same i ∷ rest.1 i)
  where
    not_above : (y < x → x ≤ y) → y ≤ x → x ≡ y
    not_above h low = cond_both (leb x y) tt tt (λ (z : Unit {0}). x ≡ y) (λ e. omega (arith, leb-true x y e)) (λ e. omega (arith, h (leb-false x y e), leb-false x y e))

-- answers that rise climb
pub answers_climb : (least : ℕ) (done batches : List Sent) → ((batch : Sent) → AllOf (λ b. b.note.answers < batch.note.answers) done → least ≤ batch.note.answers)
    → EachFrom (λ before b. (b.note.answers % 2 ≡ 1) × AllOf (λ a. a.note.answers < b.note.answers) before) done batches
    → ClimbsFrom least (answers_of batches)
answers_climb least done [] from rise = tt
answers_climb least done (b ∷ bs) from rise = (
  from b rise.0.1,
  answers_climb (b.note.answers + 1) (done ++ b ∷ []) bs
      (λ c before. let r : b.note.answers < c.note.answers = all_last (λ a. a.note.answers < c.note.answers) done b before in omega arith) rise.1,
)

-- so do the flushes that records ask for
pub flushes_climb : (pace : Pace) (least number : ℕ) (records : List Record) (close : ℕ) → least ≤ flush_before number → flush_before (number + length records) ≤ close
    → ClimbsFrom least (flushes_of pace number records ++ close ∷ [])
flushes_climb pace least number [] close low high = (omega arith, tt)
flushes_climb pace least number (x ∷ xs) close low high =
    cond_both (needs_flush pace x) (flush_before number ∷ flushes_of pace (number + 1) xs) (flushes_of pace (number + 1) xs)
    (λ (z : List ℕ). ClimbsFrom least (z ++ close ∷ []))
    (λ e. (low, flushes_climb pace (flush_before number + 1) (number + 1) xs close (omega arith) (omega arith)))
    (λ e. flushes_climb pace least (number + 1) xs close (omega arith) (omega arith))
