-- Lists of which each element has something.
use Rattle.std.proofs.Common.{◌≡◌, ℕ, zero, suc, ◌+◌, ◌<◌, ◌≤◌, List, [], ◌∷◌, ◌++◌, length, get_or, reverse, take, drop, sym, subst, arith, drop-cons, add-one}
use Rattle.std.specs.List.{AllByRecursion, AllWithin}
use Rattle.std.proofs.lemmas.List.{reverse-append}

-- one list behind another, one element more, from the back, and the first of a list
pub all_append : {A : Type 0} (P : A → Type 0) (xs ys : List A) → AllByRecursion P xs → AllByRecursion P ys → AllByRecursion P (xs ++ ys)
all_append P [] ys h k = k
all_append P (x ∷ xs) ys h k = (h.0, all_append P xs ys h.1 k)

pub all_push : {A : Type 0} (P : A → Type 0) (xs : List A) (x : A) → AllByRecursion P xs → P x → AllByRecursion P (xs ++ x ∷ [])
all_push P xs x h k = all_append P xs (x ∷ []) h (k, tt)

pub all_reversed : {A : Type 0} (P : A → Type 0) (xs : List A) → AllByRecursion P xs → AllByRecursion P (reverse xs)
all_reversed P [] h = tt
all_reversed P (x ∷ xs) h = subst (AllByRecursion P) (sym (reverse-append (x ∷ []) xs)) (all_push P (reverse xs) x (all_reversed P xs h.1) h.0)

pub all_first : {A : Type 0} (P : A → Type 0) (n : ℕ) (xs : List A) → AllByRecursion P xs → AllByRecursion P (take n xs)
all_first P zero xs h = tt
all_first P (suc n) [] h = tt
all_first P (suc n) (x ∷ xs) h = (h.0, all_first P n xs h.1)

-- the elements before a place, and those from it on
pub front_all : {A : Type 0} (P : A → Type 0) (i : ℕ) (xs : List A) → i ≤ length xs → AllWithin P xs 0 i → AllByRecursion P (take i xs)
front_all P zero xs within all = tt
front_all P (suc i) [] within all = tt
front_all P (suc i) (x ∷ xs) within all = (all 0 x (omega arith) (omega arith), front_all P i xs (omega arith) (λ k d low high. all (suc k) d (omega arith) (omega arith)))

pub back_all : {A : Type 0} (P : A → Type 0) (i : ℕ) (xs : List A) → AllWithin P xs i (length xs) → AllByRecursion P (drop i xs)
back_all P zero [] all = tt
back_all P zero (x ∷ xs) all = (all 0 x (omega arith) (omega arith), back_all P zero xs (λ k d low high. all (suc k) d (omega arith) (omega arith)))
back_all P (suc i) [] all = tt
back_all P (suc i) (x ∷ xs) all = back_all P i xs (λ k d low high. all (suc k) d (omega arith) (omega arith))

-- numbers from a place on, the first of them apart
pub rest_at : (order : List ℕ) (i : ℕ) → i < length order → drop i order ≡ get_or order i 0 ∷ drop (i + 1) order
rest_at order i within = rw add-one (drop-cons order i 0 within)
