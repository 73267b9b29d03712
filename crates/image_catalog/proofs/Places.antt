-- Where a name stands among others, and what one name more changes.
use Rattle.std.proofs.Common.{rules, arith, ◌≡◌, ℕ, suc, ◌+◌, ◌<◌, ◌≤◌, Bool, true, false, cond, ◌||◌, eqb, List, [], ◌∷◌, ◌++◌, None, Some, Option, length, refl, sym, ap, ◌∙◌, subst, inl, inr, length-append, lit≤}
use Rattle.std.specs.Prelude.{nat_lt, not, position}
use Rattle.std.specs.List.{position_or_len, list_any, IsDistinct}
use Rattle.std.specs.Str.{bytes_eq}
use Rattle.std.proofs.lemmas.Slice.Eq.{bytes_eq-Decides}
use Rattle.std.proofs.lemmas.Grind.{common_steps}
use Rattle.std.proofs.lemmas.Bool.{cases_lt}
use Rattle.std.proofs.lemmas.Cmp.{nat_list_eq_equiv}
use Rattle.std.proofs.lemmas.List.Folds.{position_or_len_push}
use Rattle.std.proofs.lemmas.List.Sums.{prefix_len-le-length}
use Rattle.std.proofs.lemmas.Map.Keys.{IsDistinct-push}
use Rattle.image_catalog.specs.Images.{place_of, AreImages}

-- no names
pub no_images : (names : List (List ℕ)) → names ≡ [] → AreImages names
unfolding IsDistinct
no_images names none = rw none (record { apart = tt; few = lit≤ tt })

pub lt_true : (a b : ℕ) → a < b → nat_lt a b ≡ true
lt_true a b below = grind (arith, common_steps)

pub lt_false : (a b : ℕ) → b ≤ a → nat_lt a b ≡ false
lt_false a b above = grind (arith, common_steps)

none_le : (a b : ℕ) → cond (nat_lt a b) (Some a) None ≡ None → b ≤ a
none_le a b none = elim (cases_lt a b) [
  | inl below ↦ let some : Some a ≡ None = rw (lt_true a b below) at none in cc
  | inr above ↦ above
]

-- nothing passes before the end
none_passes : (p : List ℕ → Bool) (names : List (List ℕ)) → length names ≤ position_or_len p names → list_any p names ≡ false
none_passes p [] past = refl
none_passes p (x ∷ names) past =
    let step = later (p x) (position_or_len p names) (length names) (omega (arith, past)) in
    rw (step.0) (none_passes p names step.1)
  where
    later : (b : Bool) (first count : ℕ) → count + 1 ≤ cond (not b) (1 + first) 0 → (b ≡ false) × (count ≤ first)
    later true first count le = absurd (omega arith)
    later false first count le = (refl, omega arith)

-- a name that has no place is none of them
pub absent : (name : List ℕ) (names : List (List ℕ)) → place_of name names ≡ None → list_any (λ held. bytes_eq held name) names ≡ false
absent name names none = none_passes (λ held. bytes_eq held name) names (none_le _ _ none)

flipped : (name : List ℕ) (names : List (List ℕ)) → list_any (bytes_eq name) names ≡ list_any (λ held. bytes_eq held name) names
flipped name [] = refl
flipped name (x ∷ names) = ap (λ b. b || list_any (bytes_eq name) names) (nat_list_eq_equiv.symm name x) ∙ ap (λ b. bytes_eq x name || b) (flipped name names)

-- a new name goes to the end
pub one_more : (names : List (List ℕ)) (name : List ℕ) → AreImages names → place_of name names ≡ None → length names < 4096 → AreImages (names ++ name ∷ [])
one_more names name images none room = record {
  apart = IsDistinct-push nat_list_eq_equiv names name images.apart (flipped name names ∙ absent name names none);
  few = omega (arith, length-append names (name ∷ []));
}

end_of : (b : Bool) (n : ℕ) → cond b (n + 0) n ≡ n
end_of true n = omega arith
end_of false n = refl

-- and has its place there
pub place_push : (names : List (List ℕ)) (name : List ℕ) → place_of name names ≡ None → place_of name (names ++ name ∷ []) ≡ Some (length names)
place_push names name none =
    let p : List ℕ → Bool = λ held. bytes_eq held name in
    let past : length names ≤ position_or_len p names = none_le _ _ none in
    let within : position_or_len p names ≤ length names = prefix_len-le-length (λ held. not (p held)) names in
    let at : position_or_len p names ≡ length names = omega arith in
    let same : p name ≡ true = (bytes_eq-Decides name name).1 refl in
    let last : position_or_len p (names ++ name ∷ []) ≡ length names =
    position_or_len_push p names name
    ∙ ap (λ b. cond (eqb (position_or_len p names) (length names)) (length names + cond b 0 1) (position_or_len p names)) same
    ∙ ap (λ n. cond (eqb n (length names)) (length names + 0) n) at
    ∙ end_of (eqb (length names) (length names)) (length names) in
    let below : position_or_len p (names ++ name ∷ []) < length (names ++ name ∷ []) = omega (arith, length-append names (name ∷ []), last) in
    ap (λ b. cond b (Some (position_or_len p (names ++ name ∷ []))) None) (lt_true _ _ below) ∙ ap Some last
