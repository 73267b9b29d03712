-- Lists of which one element more is known, and what the word of a cell says of what was taken.
use Rattle.std.proofs.Common.{◌≡◌, ℕ, zero, suc, ◌+◌, ◌*◌, ◌%◌, ◌<◌, ◌≤◌, List, [], ◌∷◌, ◌++◌, length, take, map, refl, sym, ◌∙◌, ap, subst, arith, inl, inr, ◌⊎◌, Bool, true, false, Some, None, eqb, length-append, eqb-true, eq-eqb}
use Rattle.std.specs.Prelude.{slice_get}
use Rattle.std.proofs.lemmas.List.{take_more}
use Rattle.std.proofs.lemmas.Option.{slice_get_within, get_or_from_slice_get}
use Rattle.sample_key.specs.Sent.{Sent}
use Rattle.driver_model.specs.Lists.{AllOf, SomeOf}
use Rattle.driver_model.specs.Sides.{is_even}
use Rattle.driver_model.specs.Handover.{last_from, rung_of, NeverFallsFrom, WasRung}

-- two different answers of one test
pub both_answers : {A : Type 0} (b : Bool) → b ≡ true → b ≡ false → A
both_answers b is not = cc

-- numbers that differ are not equal
pub eqb_apart : (x y : ℕ) → (x ≡ y → ⊥) → eqb x y ≡ false
eqb_apart x y apart = differ (eqb x y) refl
  where
    differ : (t : Bool) → eqb x y ≡ t → eqb x y ≡ false
    differ true e = absurd (apart (eqb-true x y e))
    differ false e = e

-- the first elements, one more
pub taken_one : {A : Type 0} (xs : List A) (n : ℕ) (x : A) → slice_get xs n ≡ Some x → take (n + 1) xs ≡ take n xs ++ x ∷ []
taken_one {A = A} xs n x h =
    take_more xs n x (slice_get_within xs n x h) ∙ ap {B = List A} (λ (y : A). take n xs ++ y ∷ []) (get_or_from_slice_get xs n x x h)

-- where nothing stands, the list ended
pub none_there : {A : Type 0} (xs : List A) (n : ℕ) → slice_get xs n ≡ None → length xs ≤ n
none_there [] n h = omega arith
none_there (x ∷ xs) zero h = cc
none_there (x ∷ xs) (suc n) h = let r : length xs ≤ n = none_there xs n h in omega arith

-- a list is no longer with one element more
pub not_longer : {A : Type 0} (xs ys : List A) (x : A) → xs ≡ ys → ys ≡ xs ++ x ∷ [] → ⊥
not_longer xs ys x e more =
    let a : length ys ≡ length xs + 1 = ap length more ∙ length-append xs (x ∷ []) in
    let b : length xs ≡ length ys = ap length e in omega arith

-- where lists with a last element are equal, these are
pub last_same : {A : Type 0} (xs ys : List A) (x y : A) → xs ++ x ∷ [] ≡ ys ++ y ∷ [] → x ≡ y
last_same [] [] x y e = cc
last_same [] (b ∷ []) x y e = cc
last_same [] (b ∷ c ∷ ys) x y e = cc
last_same (a ∷ []) [] x y e = cc
last_same (a ∷ c ∷ xs) [] x y e = cc
last_same (a ∷ xs) (b ∷ ys) x y e = let r : xs ++ x ∷ [] ≡ ys ++ y ∷ [] = cc in last_same xs ys x y r

-- and so are the elements before
pub front_same : {A : Type 0} (xs ys : List A) (x y : A) → xs ++ x ∷ [] ≡ ys ++ y ∷ [] → xs ≡ ys
front_same [] [] x y e = refl
front_same [] (b ∷ []) x y e = cc
front_same [] (b ∷ c ∷ ys) x y e = cc
front_same (a ∷ []) [] x y e = cc
front_same (a ∷ c ∷ xs) [] x y e = cc
front_same {A = A} (a ∷ xs) (b ∷ ys) x y e =
    let h : a ≡ b = cc in
    let r : xs ++ x ∷ [] ≡ ys ++ y ∷ [] = cc in
    let t : xs ≡ ys = front_same xs ys x y r in λ i. h i ∷ t i

-- what all of the first elements have, one more has
pub all_take_push : {A : Type 0} (P : A → Type 0) (n : ℕ) (xs : List A) (y : A) → AllOf P (take n xs) → P y → AllOf P (take n (xs ++ y ∷ []))
all_take_push P zero xs y h p = tt
all_take_push P (suc n) [] y h p = (p, all_nothing n)
  where
    all_nothing : (n : ℕ) → AllOf P (take n [])
    all_nothing zero = tt
    all_nothing (suc n) = tt
all_take_push P (suc n) (x ∷ xs) y h p = (h.0, all_take_push P n xs y h.1 p)

-- what all have, the first have
pub all_take : {A : Type 0} (P : A → Type 0) (n : ℕ) (xs : List A) → AllOf P xs → AllOf P (take n xs)
all_take P zero xs h = tt
all_take P (suc n) [] h = tt
all_take P (suc n) (x ∷ xs) h = (h.0, all_take P n xs h.1)

-- the same fact of equal lists of elements and their images
pub all_of_map : {A B : Type 0} (P : B → Type 0) (f : A → B) (xs : List A) → AllOf P (map f xs) → AllOf (λ x. P (f x)) xs
all_of_map P f [] h = tt
all_of_map P f (x ∷ xs) h = (h.0, all_of_map P f xs h.1)

pub all_map_of : {A B : Type 0} (P : B → Type 0) (f : A → B) (xs : List A) → AllOf (λ x. P (f x)) xs → AllOf P (map f xs)
all_map_of P f [] h = tt
all_map_of P f (x ∷ xs) h = (h.0, all_map_of P f xs h.1)

-- the value rung last is the last one
pub last_push : (least : ℕ) (xs : List ℕ) (x : ℕ) → last_from least (xs ++ x ∷ []) ≡ x
last_push least [] x = refl
last_push least (y ∷ xs) x = last_push y xs x

-- it is 0, or was rung
pub last_known : (least : ℕ) (xs : List ℕ) → (last_from least xs ≡ least) ⊎ SomeOf (λ x. x ≡ last_from least xs) xs
last_known least [] = inl refl
last_known least (y ∷ xs) = elim (last_known y xs) as (λ z. (last_from y xs ≡ least) ⊎ ((y ≡ last_from y xs) ⊎ SomeOf (λ x. x ≡ last_from y xs) xs))
    [ inl e ↦ inr (inl (sym e)) | inr s ↦ inr (inr s) ]

pub rung_known : (rungs : List ℕ) → WasRung (rung_of rungs) rungs
rung_known rungs = last_known 0 rungs

-- values that never fall go on with one that is no lower than the last
pub never_push : (least : ℕ) (xs : List ℕ) (x : ℕ) → NeverFallsFrom least xs → last_from least xs ≤ x → NeverFallsFrom least (xs ++ x ∷ [])
never_push least [] x h l = (l, tt)
never_push least (y ∷ xs) x h l = (h.0, never_push y xs x h.1 l)

-- What was taken of a cell is what was handed, or all but the last.
abbrev pub IsFront : List Sent → List Sent → Type 0
IsFront taken handed = (taken ≡ handed) ⊎ ((batch : Sent) × (handed ≡ taken ++ batch ∷ []))

-- And what the driver has was given back.
pub record IsPassed (taken handed : List Sent) (mine : Bool) : Type 0 where
  pub front : IsFront taken handed
  pub home : mine ≡ true → taken ≡ handed

-- at an even word all was taken
pub front_even : (taken handed : List Sent) → IsFront taken handed → is_even (length handed + length taken) ≡ true → taken ≡ handed
front_even taken handed (inl e) even = e
front_even taken handed (inr (batch, e)) even =
    let l : length handed ≡ length taken + 1 = ap length e ∙ length-append taken (batch ∷ []) in
    let z : (length handed + length taken) % 2 ≡ 0 = eqb-true ((length handed + length taken) % 2) 0 even in
    absurd (omega arith)

-- an odd word stands for the last batch handed
pub front_odd : (taken handed : List Sent) → IsFront taken handed → is_even (length handed + length taken) ≡ false
    → (length handed + length taken) + 1 ≡ 2 * length handed
front_odd taken handed (inl e) odd =
    let l : length taken ≡ length handed = ap length e in
    let z : (length handed + length taken) % 2 ≡ 0 = omega arith in
    both_answers (is_even (length handed + length taken)) (eq-eqb ((length handed + length taken) % 2) 0 z) odd
front_odd taken handed (inr (batch, e)) odd =
    let l : length handed ≡ length taken + 1 = ap length e ∙ length-append taken (batch ∷ []) in omega arith

-- where no batch waits, all was taken
pub front_none : (taken handed : List Sent) → IsFront taken handed → slice_get handed (length taken) ≡ None → taken ≡ handed
front_none taken handed (inl e) none = e
front_none taken handed (inr (batch, e)) none =
    let l : length handed ≡ length taken + 1 = ap length e ∙ length-append taken (batch ∷ []) in
    let m : length handed ≤ length taken = none_there handed (length taken) none in absurd (omega arith)

-- the element past the first ones
pub got_next : {A : Type 0} (xs : List A) (y : A) → slice_get (xs ++ y ∷ []) (length xs) ≡ Some y
got_next [] y = refl
got_next (x ∷ xs) y = got_next xs y

-- the batch that waits is the last one handed
pub front_some : (taken handed : List Sent) (batch : Sent) → IsFront taken handed → slice_get handed (length taken) ≡ Some batch → handed ≡ taken ++ batch ∷ []
front_some taken handed batch (inl e) some =
    let l : length taken ≡ length handed = ap length e in
    let m : length taken < length handed = slice_get_within handed (length taken) batch some in absurd (omega arith)
front_some taken handed batch (inr (other, e)) some =
    let s : slice_get (taken ++ other ∷ []) (length taken) ≡ Some batch = subst (λ (z : List Sent). slice_get z (length taken) ≡ Some batch) e some in
    let o : Some other ≡ Some batch = sym (got_next taken other) ∙ s in
    let same : other ≡ batch = cc in
    e ∙ ap {B = List Sent} (λ (z : Sent). taken ++ z ∷ []) same
