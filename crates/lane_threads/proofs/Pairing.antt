-- Lists whose elements belong together, one by one: what is put last, what is set, what was taken off the front of one
-- of them, and two such facts in a row.
use Rattle.std.proofs.Common.{◌≡◌, ℕ, zero, suc, ◌+◌, ◌≤◌, List, [], ◌∷◌, ◌++◌, length, map, slice_set, slice_index_or, ap, sym, subst, ◌∙◌, append_assoc, arith}
use Rattle.std.proofs.lemmas.List.{length_push, map_push}
use Rattle.lane_threads.specs.Pairs.{Pairwise}

pub pairs_pushed : {A B : Type 0} (R : A → B → Type 0) (xs : List A) (ys : List B) (x : A) (y : B)
    → Pairwise R xs ys → R x y → Pairwise R (xs ++ x ∷ []) (ys ++ y ∷ [])
pairs_pushed R [] [] x y p r = (r, tt)
pairs_pushed R [] (b ∷ ys) x y p r = absurd p
pairs_pushed R (a ∷ xs) [] x y p r = absurd p
pairs_pushed R (a ∷ xs) (b ∷ ys) x y p r = (p.0, pairs_pushed R xs ys x y p.1 r)

pub pairs_then : {A B C : Type 0} (R : A → B → Type 0) (S : B → C → Type 0) (T : A → C → Type 0) (xs : List A) (ys : List B) (zs : List C)
    → ((x : A) (y : B) (z : C) → R x y → S y z → T x z) → Pairwise R xs ys → Pairwise S ys zs → Pairwise T xs zs
pairs_then R S T [] [] [] f p q = tt
pairs_then R S T [] [] (z ∷ zs) f p q = absurd q
pairs_then R S T [] (y ∷ ys) zs f p q = absurd p
pairs_then R S T (x ∷ xs) [] zs f p q = absurd p
pairs_then R S T (x ∷ xs) (y ∷ ys) [] f p q = absurd q
pairs_then R S T (x ∷ xs) (y ∷ ys) (z ∷ zs) f p q = (f x y z p.0 q.0, pairs_then R S T xs ys zs f p.1 q.1)

-- the same where the list with one more has a name
pub pairs_more : {A B : Type 0} (R : A → B → Type 0) (xs : List A) (ys more : List B) (x : A) (y : B)
    → more ≡ ys ++ y ∷ [] → Pairwise R xs ys → R x y → Pairwise R (xs ++ x ∷ []) more
pairs_more {A} {B} R xs ys more x y e p r = subst (λ (l : List B). Pairwise R (xs ++ x ∷ []) l) (sym e) (pairs_pushed R xs ys x y p r)

-- an element of the second list is changed, and belongs to what it belonged to
pub pairs_set : {A B : Type 0} (R : A → B → Type 0) (xs : List A) (ys : List B) (i : ℕ) (old new : B)
    → old ≡ slice_index_or ys i old → ((x : A) → R x old → R x new) → Pairwise R xs ys → Pairwise R xs (slice_set ys i new)
pairs_set R [] [] i old new e f p = p
pairs_set R [] (y ∷ ys) i old new e f p = absurd p
pairs_set R (x ∷ xs) [] i old new e f p = absurd p
pairs_set R (x ∷ xs) (y ∷ ys) zero old new e f p = (f x (subst (λ (b : _). R x b) (sym e) p.0), p.1)
pairs_set R (x ∷ xs) (y ∷ ys) (suc i) old new e f p = (p.0, pairs_set R xs ys i old new e f p.1)

-- one more of the second list is taken, and belongs to the one more of the first
pub pairs_moved : {A B : Type 0} (R : A → B → Type 0) (xs : List A) (all left rest : List B) (x : A) (y : B)
    → (done : List B) × (all ≡ done ++ left) × Pairwise R xs done → left ≡ y ∷ rest → R x y
    → (done : List B) × (all ≡ done ++ rest) × Pairwise R (xs ++ x ∷ []) done
pairs_moved {A} {B} R xs all left rest x y d e r =
    (d.0 ++ y ∷ [], d.1 ∙ (ap (λ (l : List B). d.0 ++ l) e ∙ sym (append_assoc d.0 (y ∷ []) rest)), pairs_pushed R xs d.0 x y d.2 r)

-- what is read of the elements stays the same, where one more is put last
pub read_more : {A B C : Type 0} (f : A → C) (g : B → C) (xs more : List A) (ys : List B) (x : A) (y : B)
    → more ≡ xs ++ x ∷ [] → map f xs ≡ map g ys → f x ≡ g y → map f more ≡ map g (ys ++ y ∷ [])
read_more f g xs more ys x y e h q = let a = map_push f xs x in let b = map_push g ys y in cc

pub listed_more : {B C : Type 0} (g : B → C) (xs more : List C) (ys : List B) (x : C) (y : B)
    → more ≡ xs ++ x ∷ [] → xs ≡ map g ys → x ≡ g y → more ≡ map g (ys ++ y ∷ [])
listed_more g xs more ys x y e h q = let b = map_push g ys y in cc

-- there is still a place for each that is left
pub room_kept : {A B : Type 0} (xs more : List A) (x : A) (left rest : List B) (y : B) (before after : ℕ)
    → more ≡ xs ++ x ∷ [] → left ≡ y ∷ rest → length xs + length left ≤ before → after ≡ before → length more + length rest ≤ after
room_kept xs more x left rest y before after e d h k = omega (arith, ap length e, ap length d, length_push xs x)
