-- Names that are apart, one after the other.
use Rattle.std.proofs.Common.{rules, arith, ◌≡◌, ℕ, suc, ◌+◌, ◌<◌, ◌≤◌, Bool, true, false, cond, ◌||◌, List, [], ◌∷◌, ◌++◌, None, Some, Option, length, take, refl, sym, ap, ◌∙◌, length-append}
use Rattle.std.specs.Prelude.{nat_lt, not, position}
use Rattle.std.specs.List.{position_or_len, list_any, IsDistinct, AllByRecursion}
use Rattle.std.specs.Str.{bytes_eq}
use Rattle.std.proofs.lemmas.Grind.{common_steps}
use Rattle.image_catalog.specs.Images.{place_of, AreImages}

last_of : (P : List ℕ → Type 0) (names more : List (List ℕ)) → AllByRecursion P (names ++ more) → AllByRecursion P more
last_of P [] more all = all
last_of P (x ∷ names) more all = last_of P names more all.1

first_of : (P : List ℕ → Type 0) (names more : List (List ℕ)) → AllByRecursion P (names ++ more) → AllByRecursion P names
first_of P [] more all = tt
first_of P (x ∷ names) more all = (all.0, first_of P names more all.1)

-- a name behind names that are apart with it is none of them
not_listed : (names : List (List ℕ)) (name : List ℕ) → IsDistinct bytes_eq (names ++ name ∷ []) → position_or_len (λ held. bytes_eq held name) names ≡ length names
unfolding IsDistinct
not_listed [] name apart = refl
not_listed (x ∷ names) name apart =
    let other : bytes_eq x name ≡ false = (last_of (λ y. bytes_eq x y ≡ false) names (name ∷ []) apart.0).0 in
    ap (λ b. cond (not b) (1 + position_or_len (λ held. bytes_eq held name) names) 0) other ∙ ap (λ n. 1 + n) (not_listed names name apart.1) ∙ next (length names)
  where
    next : (n : ℕ) → 1 + n ≡ suc n
    next n = omega arith

-- it has no place among them
pub no_place : (names : List (List ℕ)) (name : List ℕ) → AreImages (names ++ name ∷ []) → place_of name names ≡ None
no_place names name images = rw (not_listed names name images.apart) (past (length names))
  where
    past : (n : ℕ) → cond (nat_lt n n) (Some n) None ≡ None
    past n = grind (arith, common_steps)

-- names in front of others that are apart are apart
front_apart : (names more : List (List ℕ)) → IsDistinct bytes_eq (names ++ more) → IsDistinct bytes_eq names
unfolding IsDistinct
front_apart [] more apart = tt
front_apart (x ∷ names) more apart = (first_of (λ y. bytes_eq x y ≡ false) names more apart.0, front_apart names more apart.1)

-- images in front of others are images
pub front_images : (names more : List (List ℕ)) → AreImages (names ++ more) → AreImages names
front_images names more images = record { apart = front_apart names more images.apart; few = omega (arith, length-append names more, images.few) }
