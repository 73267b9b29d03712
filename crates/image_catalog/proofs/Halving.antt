-- What stands in an index before and behind a name, and what one number more changes.
use Rattle.std.proofs.Common.{rules, arith, ◌≡◌, ℕ, zero, suc, ◌+◌, ◌<◌, ◌≤◌, Bool, true, false, cond, eqb, List, [], ◌∷◌, ◌++◌, None, Some, Option, length, take, drop, get_or, refl, sym, ap, ◌∙◌, subst, inl, inr, length-append, take-append-drop, lit≤}
use Rattle.std.specs.Prelude.{find, nat_lt, position}
use Rattle.std.specs.declared.cmp.Ordering.{Ordering}
use Rattle.std.specs.declared.cmp.Ordering.TheVariants.{Less, Equal, Greater}
use Rattle.std.specs.Ordering.{nat_cmp, is_lt, is_eq, ordering_reverse}
use Rattle.std.specs.Cmp.Lexicographic.{slice_cmp}
use Rattle.std.specs.List.{AllByRecursion, AllWithin, position_or_len}
use Rattle.std.specs.List.Sorted.{IsStrictlySortedBy, IsPartitionedBy}
use Rattle.std.specs.Str.{bytes_eq}
use Rattle.std.proofs.lemmas.Cmp.{nat_list_cmp_total, nat_list_eq_equiv}
use Rattle.std.proofs.lemmas.Map.Text.{is_eq-slice_cmp}
use Rattle.std.proofs.lemmas.Slice.Eq.{bytes_eq-Decides}
use Rattle.std.proofs.lemmas.List.{get_or_append_left}
use Rattle.std.proofs.Math.Seq.{get_or-append_seam}
use Rattle.std.proofs.lemmas.Bool.{cases_lt}
use Rattle.std.proofs.lemmas.List.Folds.{position_or_len_push}
use Rattle.std.proofs.lemmas.List.Sums.{prefix_len-le-length}
use Rattle.text_num.proofs.Lists.{front_all, rest_at}
use Rattle.image_catalog.specs.Images.{place_of, text_at, comes_before, Rises, IsCatalog, AreImages}
use Rattle.image_catalog.proofs.Places.{one_more, no_images, lt_true, lt_false}

-- ---- the order of names

abbrev pub by_bytes : List ℕ → List ℕ → Ordering
by_bytes = slice_cmp nat_cmp

-- the test of an index for a name
abbrev pub is_of : List (List ℕ) → List ℕ → ℕ → Bool
is_of names name k = bytes_eq (text_at names k) name

pub less_from : (o : Ordering) → is_lt o ≡ true → o ≡ Less
less_from Less is = refl
less_from Equal is = cc
less_from Greater is = cc

pub apart_below : (a b : List ℕ) → by_bytes a b ≡ Less → bytes_eq a b ≡ false
apart_below a b below = sym (is_eq-slice_cmp a b) ∙ ap is_eq below

pub apart_above : (a b : List ℕ) → by_bytes b a ≡ Less → bytes_eq a b ≡ false
apart_above a b below = nat_list_eq_equiv.symm a b ∙ apart_below b a below

above_at : (o : Ordering) (a b : List ℕ) → by_bytes a b ≡ o → is_lt o ≡ false → bytes_eq a b ≡ false → by_bytes b a ≡ Less
above_at Less a b is lt other = cc
above_at Equal a b is lt other = let same : true ≡ false = sym (sym (is_eq-slice_cmp a b) ∙ ap is_eq is) ∙ other in cc
above_at Greater a b is lt other = nat_list_cmp_total.antisymm b a ∙ ap ordering_reverse is

-- what is neither below nor equal is above
pub above : (a b : List ℕ) → is_lt (by_bytes a b) ≡ false → bytes_eq a b ≡ false → by_bytes b a ≡ Less
above a b lt other = above_at (by_bytes a b) a b refl lt other

rises_drop : (names : List (List ℕ)) (i : ℕ) (xs : List ℕ) → Rises names xs → Rises names (drop i xs)
unfolding IsStrictlySortedBy
rises_drop names zero xs rising = rising
rises_drop names (suc i) [] rising = tt
rises_drop names (suc i) (x ∷ xs) rising = rises_drop names i xs rising.1

at_of : (P : ℕ → Type 0) (xs : List ℕ) (j d : ℕ) → AllByRecursion P xs → j < length xs → P (get_or xs j d)
at_of P [] j d all within = absurd (omega arith)
at_of P (x ∷ xs) zero d all within = all.0
at_of P (x ∷ xs) (suc j) d all within = at_of P xs j d all.1 (omega arith)

front_half : (names : List (List ℕ)) (name : List ℕ) (x : ℕ) (xs : List ℕ) → AllByRecursion (λ y. by_bytes (text_at names x) (text_at names y) ≡ Less) xs → IsPartitionedBy (λ k. comes_before names k name) xs → IsPartitionedBy (λ k. comes_before names k name) (x ∷ xs)
front_half names name x xs first rest zero zero d le within holds = holds
front_half names name x xs first rest zero (suc j) d le within holds = ap is_lt (nat_list_cmp_total.trans (text_at names x) (text_at names (get_or xs j d)) name (at_of (λ y. by_bytes (text_at names x) (text_at names y) ≡ Less) xs j d first (omega arith)) (less_from _ holds))
front_half names name x xs first rest (suc i) zero d le within holds = absurd (omega arith)
front_half names name x xs first rest (suc i) (suc j) d le within holds = rest i j d (omega arith) (omega arith) holds

-- numbers whose names come before a name come first
pub halves : (names : List (List ℕ)) (name : List ℕ) (order : List ℕ) → Rises names order → IsPartitionedBy (λ k. comes_before names k name) order
unfolding IsStrictlySortedBy
halves names name [] rising = λ i j d le within holds. absurd (omega arith)
halves names name (x ∷ xs) rising = front_half names name x xs rising.0 (halves names name xs rising.1)

-- ---- what is found

passed : (names : List (List ℕ)) (name : List ℕ) (front back : List ℕ) → AllByRecursion (λ k. comes_before names k name ≡ true) front → find (is_of names name) (front ++ back) ≡ find (is_of names name) back
passed names name [] back all = refl
passed names name (k ∷ front) back all =
    ap (λ b. cond b (Some k) (find (is_of names name) (front ++ back))) (apart_below (text_at names k) name (less_from _ all.0)) ∙ passed names name front back all.1

none_above : (names : List (List ℕ)) (name : List ℕ) (xs : List ℕ) → AllByRecursion (λ k. by_bytes name (text_at names k) ≡ Less) xs → find (is_of names name) xs ≡ None
none_above names name [] all = refl
none_above names name (k ∷ xs) all = ap (λ b. cond b (Some k) (find (is_of names name) xs)) (apart_above (text_at names k) name all.0) ∙ none_above names name xs all.1

all_above : (names : List (List ℕ)) (name : List ℕ) (k : ℕ) (xs : List ℕ) → by_bytes name (text_at names k) ≡ Less → AllByRecursion (λ j. by_bytes (text_at names k) (text_at names j) ≡ Less) xs → AllByRecursion (λ j. by_bytes name (text_at names j) ≡ Less) xs
all_above names name k [] below all = tt
all_above names name k (x ∷ xs) below all = (nat_list_cmp_total.trans name (text_at names k) (text_at names x) below all.0, all_above names name k xs below all.1)

-- only what stands at the place counts
pub sought : (names : List (List ℕ)) (name : List ℕ) (order : List ℕ) (at : ℕ) → at ≤ length order → AllWithin (λ k. comes_before names k name ≡ true) order 0 at → find (is_of names name) order ≡ find (is_of names name) (drop at order)
sought names name order at within before =
    ap (find (is_of names name)) (sym (take-append-drop at order)) ∙ passed names name (take at order) (drop at order) (front_all (λ k. comes_before names k name ≡ true) at order within before)

pub found : (names : List (List ℕ)) (name : List ℕ) (order : List ℕ) (at : ℕ) → at < length order → AllWithin (λ j. comes_before names j name ≡ true) order 0 at → is_of names name (get_or order at 0) ≡ true → Some (get_or order at 0) ≡ find (is_of names name) order
found names name order at within before holds =
    sym (sought names name order at (omega arith) before ∙ ap (find (is_of names name)) (rest_at order at within) ∙ ap (λ b. cond b (Some (get_or order at 0)) (find (is_of names name) (drop (at + 1) order))) holds)

pub missed : (names : List (List ℕ)) (name : List ℕ) (order : List ℕ) (at : ℕ) → at < length order → Rises names order → AllWithin (λ j. comes_before names j name ≡ true) order 0 at → AllWithin (λ j. comes_before names j name ≡ false) order at (length order) → is_of names name (get_or order at 0) ≡ false → None ≡ find (is_of names name) order
unfolding IsStrictlySortedBy
missed names name order at within rising before behind other =
    let k = get_or order at 0 in
    let rest = rest_at order at within in
    let below : by_bytes name (text_at names k) ≡ Less = above (text_at names k) name (behind at 0 (omega arith) within) other in
    let rises : Rises names (k ∷ drop (at + 1) order) = subst (λ l. Rises names l) rest (rises_drop names at order rising) in
    sym (sought names name order at (omega arith) before ∙ ap (find (is_of names name)) rest ∙ none_above names name (k ∷ drop (at + 1) order) (below, all_above names name k (drop (at + 1) order) below rises.0))

pub past_all : (names : List (List ℕ)) (name : List ℕ) (order : List ℕ) (at : ℕ) → at ≤ length order → length order ≤ at → AllWithin (λ j. comes_before names j name ≡ true) order 0 at → None ≡ find (is_of names name) order
past_all names name order at within past before = sym (sought names name order at within before ∙ ap (find (is_of names name)) (none_left at order past))
  where
    none_left : (i : ℕ) (xs : List ℕ) → length xs ≤ i → drop i xs ≡ []
    none_left zero [] past = refl
    none_left zero (x ∷ xs) past = absurd (omega arith)
    none_left (suc i) [] past = refl
    none_left (suc i) (x ∷ xs) past = none_left i xs (omega arith)
