use Rattle.std.proofs.Common.{◌≡◌, ℕ, zero, suc, ◌%◌, ◌<◌, ◌≤◌, List, [], ◌∷◌, ◌++◌, length, drop, refl, sym, ap, subst, arith, inl, inr, append_assoc, false, Some, eqb}
use Rattle.std.specs.Prelude.{slice_get, IsSomeAnd, IfSome}
use Rattle.driver_model.specs.Lists.{EachFrom, AllOf, SomeOf}
use Rattle.driver_model.specs.Sides.{is_even}

-- nothing after a list leaves it
pub append-nil : {A : Type 0} (xs : List A) → xs ++ [] ≡ xs
append-nil [] = refl
append-nil {A = A} (x ∷ xs) = ap {B = List A} (λ z. x ∷ z) (append-nil xs)

-- one element more at the end
pub each_push : {A : Type 0} (P : List A → A → Type 0) (done xs : List A) (y : A)
    → EachFrom P done xs → P (done ++ xs) y → EachFrom P done (xs ++ y ∷ [])
each_push {A = A} P done [] y h p = (subst (λ (z : List A). P z y) (append-nil done) p, tt)
each_push {A = A} P done (x ∷ xs) y h p =
    (h.0, each_push P (done ++ x ∷ []) xs y h.1 (subst (λ (z : List A). P z y) (sym (append_assoc done (x ∷ []) xs)) p))

-- a fact of each element changes along a fact that all have
pub each_map : {A : Type 0} (P Q : List A → A → Type 0) (R : A → Type 0) → ((d : List A) (x : A) → R x → P d x → Q d x)
    → (done xs : List A) → AllOf R xs → EachFrom P done xs → EachFrom Q done xs
each_map P Q R f done [] r h = tt
each_map P Q R f done (x ∷ xs) r h = (f done x r.0 h.0, each_map P Q R f (done ++ x ∷ []) xs r.1 h.1)

-- one element more at the end
pub all_push : {A : Type 0} (P : A → Type 0) (xs : List A) (y : A) → AllOf P xs → P y → AllOf P (xs ++ y ∷ [])
all_push P [] y h p = (p, tt)
all_push P (x ∷ xs) y h p = (h.0, all_push P xs y h.1 p)

-- what follows of each element
pub all_map : {A : Type 0} (P Q : A → Type 0) → ((x : A) → P x → Q x) → (xs : List A) → AllOf P xs → AllOf Q xs
all_map P Q f [] h = tt
all_map P Q f (x ∷ xs) h = (f x h.0, all_map P Q f xs h.1)

-- two facts of each element
pub all_both : {A : Type 0} (P Q S : A → Type 0) → ((x : A) → P x → Q x → S x) → (xs : List A) → AllOf P xs → AllOf Q xs → AllOf S xs
all_both P Q S f [] g h = tt
all_both P Q S f (x ∷ xs) g h = (f x g.0 h.0, all_both P Q S f xs g.1 h.1)

-- what every element has
pub all_any : {A : Type 0} (P : A → Type 0) → ((x : A) → P x) → (xs : List A) → AllOf P xs
all_any P f [] = tt
all_any P f (x ∷ xs) = (f x, all_any P f xs)

-- both parts of a list
pub all_append : {A : Type 0} (P : A → Type 0) (xs ys : List A) → AllOf P xs → AllOf P ys → AllOf P (xs ++ ys)
all_append P [] ys h g = g
all_append P (x ∷ xs) ys h g = (h.0, all_append P xs ys h.1 g)

-- the last element
pub all_last : {A : Type 0} (P : A → Type 0) (xs : List A) (y : A) → AllOf P (xs ++ y ∷ []) → P y
all_last P [] y h = h.0
all_last P (x ∷ xs) y h = all_last P xs y h.1

-- some element is still there
pub some_push : {A : Type 0} (P : A → Type 0) (xs : List A) (y : A) → SomeOf P xs → SomeOf P (xs ++ y ∷ [])
some_push P [] y h = absurd h
some_push P (x ∷ xs) y (inl h) = inl h
some_push P (x ∷ xs) y (inr h) = inr (some_push P xs y h)

-- the last element is one
pub some_last : {A : Type 0} (P : A → Type 0) (xs : List A) (y : A) → P y → SomeOf P (xs ++ y ∷ [])
some_last P [] y h = inl h
some_last P (x ∷ xs) y h = inr (some_last P xs y h)

-- the i-th element is still there
pub got_push : {A : Type 0} (P : A → Type 0) (xs : List A) (y : A) (i : ℕ)
    → IsSomeAnd (slice_get xs i) P → IsSomeAnd (slice_get (xs ++ y ∷ []) i) P
got_push P [] y i h = absurd h
got_push P (x ∷ xs) y zero h = h
got_push P (x ∷ xs) y (suc i) h = got_push P xs y i h

-- the i-th element, if there is one now, is an old one or the new one
pub next_push : {A : Type 0} (P : A → Type 0) (xs : List A) (y : A) (i : ℕ)
    → IfSome (slice_get xs i) P → P y → IfSome (slice_get (xs ++ y ∷ []) i) P
next_push P [] y zero h p = p
next_push P [] y (suc i) h p = tt
next_push P (x ∷ xs) y zero h p = h
next_push P (x ∷ xs) y (suc i) h p = next_push P xs y i h p

-- the new element is where the list ended
pub got_last : {A : Type 0} (P : A → Type 0) (xs : List A) (y : A) → P y → IsSomeAnd (slice_get (xs ++ y ∷ []) (length xs)) P
got_last P [] y h = h
got_last P (x ∷ xs) y h = got_last P xs y h

-- nothing is past the end
pub past_end : {A : Type 0} (P : A → Type 0) (xs : List A) (i : ℕ) → length xs ≤ i → IfSome (slice_get xs i) P
past_end P [] i h = tt
past_end P (x ∷ xs) zero h = absurd (omega arith)
past_end P (x ∷ xs) (suc i) h = past_end P xs i (omega arith)

-- a list that is not empty has a last element
pub snoc_of : {A : Type 0} (xs : List A) → 0 < length xs → (front : List A) × (y : A) × (xs ≡ front ++ y ∷ [])
snoc_of [] h = absurd (omega arith)
snoc_of {A = A} (x ∷ []) h = ([], x, refl)
snoc_of {A = A} (x ∷ y ∷ ys) h =
    let r = snoc_of (y ∷ ys) (omega arith) in (x ∷ r.0, r.1, ap {B = List A} (λ (z : List A). x ∷ z) r.2)

-- where a list is not done, its next element is there
pub next_at : {A : Type 0} (n : ℕ) (xs : List A) (x : A) (rest : List A) → drop n xs ≡ x ∷ rest → slice_get xs n ≡ Some x
next_at zero [] x rest h = cc
next_at (suc n) [] x rest h = cc
next_at zero (y ∷ ys) x rest h = cc
next_at (suc n) (y ∷ ys) x rest h = next_at n ys x rest h

-- and the list is longer than what is done
pub next_below : {A : Type 0} (n : ℕ) (xs : List A) (x : A) (rest : List A) → drop n xs ≡ x ∷ rest → n < length xs
next_below zero [] x rest h = cc
next_below (suc n) [] x rest h = cc
next_below zero (y ∷ ys) x rest h = omega arith
next_below (suc n) (y ∷ ys) x rest h = let r : n < length ys = next_below n ys x rest h in omega arith

-- where nothing is left, all is done
pub none_left : {A : Type 0} (n : ℕ) (xs : List A) → drop n xs ≡ [] → length xs ≤ n
none_left n [] h = omega arith
none_left zero (y ∷ ys) h = cc
none_left (suc n) (y ∷ ys) h = let r : length ys ≤ n = none_left n ys h in omega arith

-- by the number of a buffer
pub by_number : (P : ℕ → Type 0) (n : ℕ) → n ≤ 1 → P 0 → P 1 → P n
by_number P zero l f g = f
by_number P (suc zero) l f g = g
by_number P (suc (suc n)) l f g = absurd (omega arith)

-- an odd word is one
pub odd_of : (w : ℕ) → is_even w ≡ false → w % 2 ≡ 1
odd_of w = by_number (λ (n : ℕ). eqb n 0 ≡ false → n ≡ 1) (w % 2) (omega arith) (λ h. cc) (λ h. refl)
