-- A catalog with one name more.
use Rattle.std.proofs.Common.{rules, arith, ◌≡◌, ℕ, zero, suc, ◌+◌, ◌<◌, ◌≤◌, Bool, true, false, cond, eqb, List, [], ◌∷◌, ◌++◌, None, Some, Option, length, take, drop, get_or, refl, sym, ap, ◌∙◌, subst, inl, inr, length-append, take-append-drop}
use Rattle.std.specs.Prelude.{find, nat_lt, position}
use Rattle.std.specs.declared.cmp.Ordering.TheVariants.{Less}
use Rattle.std.specs.List.{AllByRecursion, AllWithin, position_or_len, insert}
use Rattle.std.specs.List.Sorted.{IsStrictlySortedBy}
use Rattle.std.specs.Str.{bytes_eq}
use Rattle.std.proofs.lemmas.Slice.Eq.{bytes_eq-Decides}
use Rattle.std.proofs.lemmas.List.{get_or_append_left}
use Rattle.std.proofs.Math.Seq.{get_or-append_seam}
use Rattle.std.proofs.lemmas.Bool.{cases_lt}
use Rattle.std.proofs.lemmas.List.Folds.{position_or_len_push}
use Rattle.std.proofs.lemmas.List.Sums.{prefix_len-le-length}
use Rattle.image_catalog.specs.Images.{place_of, text_at, comes_before, Rises, IsCatalog, AreImages}
use Rattle.image_catalog.specs.declared.catalog.TheConstants.{MOST_IMAGES}
use Rattle.image_catalog.proofs.Places.{one_more, no_images, lt_true, lt_false}
use Rattle.text_num.proofs.Lists.{front_all, back_all}
use Rattle.image_catalog.proofs.Halving.{by_bytes, is_of, above, apart_below, apart_above, less_from}

-- no names
pub none_held : (names : List (List ℕ)) (order : List ℕ) → names ≡ [] → order ≡ [] → IsCatalog names order
unfolding IsStrictlySortedBy
none_held names order no_names no_order = rw (no_names, no_order) (record { images = no_images [] refl; within = tt; rising = tt; finds = λ name. refl })

-- what was found, or else the new number where the name is its
abbrev pub or_new : Option ℕ → Bool → ℕ → Option ℕ
or_new (Some k) b n = Some k
or_new None b n = cond b (Some n) None

-- ---- the place of a name among one more

find_past : (m n : ℕ) (b : Bool) → m ≤ n → cond (nat_lt (cond (eqb m n) (n + cond b 0 1) m) (n + 1)) (Some (cond (eqb m n) (n + cond b 0 1) m)) None ≡ or_new (cond (nat_lt m n) (Some m) None) b n
find_past m n b within = elim (cases_lt m n) [
  | inl below ↦
      let other : eqb m n ≡ false = grind (arith, below) in
      ap (λ t. cond (nat_lt (cond t (n + cond b 0 1) m) (n + 1)) (Some (cond t (n + cond b 0 1) m)) None) other ∙ ap (λ t. cond t (Some m) None) (lt_true m (n + 1) (omega arith)) ∙ sym (ap (λ t. or_new (cond t (Some m) None) b n) (lt_true m n below))
  | inr above ↦
      let same : eqb m n ≡ true = grind (arith, above, within) in
      ap (λ t. cond (nat_lt (cond t (n + cond b 0 1) m) (n + 1)) (Some (cond t (n + cond b 0 1) m)) None) same ∙ last b ∙ sym (ap (λ t. or_new (cond t (Some m) None) b n) (lt_false m n above))
]
  where
    last : (b : Bool) → cond (nat_lt (n + cond b 0 1) (n + 1)) (Some (n + cond b 0 1)) None ≡ or_new None b n
    last true = let e : n + 0 ≡ n = omega arith in ap (λ t. cond t (Some (n + 0)) None) (lt_true (n + 0) (n + 1) (omega arith)) ∙ ap Some e
    last false = ap (λ t. cond t (Some (n + 1)) None) (lt_false (n + 1) (n + 1) (omega arith))

place_more : (names : List (List ℕ)) (name other : List ℕ) → place_of other (names ++ name ∷ []) ≡ or_new (place_of other names) (bytes_eq name other) (length names)
place_more names name other =
    let p : List ℕ → Bool = λ held. bytes_eq held other in
    ap (λ n. cond (nat_lt (position_or_len p (names ++ name ∷ [])) n) (Some (position_or_len p (names ++ name ∷ []))) None) (length-append names (name ∷ []))
    ∙ ap (λ m. cond (nat_lt m (length names + 1)) (Some m) None) (position_or_len_push p names name)
    ∙ find_past (position_or_len p names) (length names) (bytes_eq name other) (prefix_len-le-length _ names)

-- ---- one number more in the index

all_insert : (P : ℕ → Type 0) (front back : List ℕ) (n : ℕ) → AllByRecursion P (front ++ back) → P n → AllByRecursion P (front ++ n ∷ back)
all_insert P [] back n all one = (one, all)
all_insert P (k ∷ front) back n all one = (all.0, all_insert P front back n all.1 one)

all_more : (P Q : ℕ → Type 0) (xs : List ℕ) → ((k : ℕ) → P k → Q k) → AllByRecursion P xs → AllByRecursion Q xs
all_more P Q [] more all = tt
all_more P Q (x ∷ xs) more all = (more x all.0, all_more P Q xs more all.1)

rises_insert : (names : List (List ℕ)) (front back : List ℕ) (n : ℕ) → Rises names (front ++ back) → AllByRecursion (λ k. by_bytes (text_at names k) (text_at names n) ≡ Less) front → AllByRecursion (λ k. by_bytes (text_at names n) (text_at names k) ≡ Less) back → Rises names (front ++ n ∷ back)
unfolding IsStrictlySortedBy
rises_insert names [] back n rising below beyond = (beyond, rising)
rises_insert names (k ∷ front) back n rising below beyond = (all_insert (λ j. by_bytes (text_at names k) (text_at names j) ≡ Less) front back n rising.0 below.0, rises_insert names front back n rising.1 below.1 beyond)

new_or : (o : Option ℕ) (b : Bool) (n : ℕ) → (b ≡ true → o ≡ None) → cond b (Some n) o ≡ or_new o b n
new_or None true n none = refl
new_or None false n none = refl
new_or (Some k) true n none = let e : Some k ≡ None = none refl in cc
new_or (Some k) false n none = refl

insert_at : (p : ℕ → Bool) (b : Bool) (k n : ℕ) (more rest : Option ℕ) → (b ≡ false → more ≡ or_new rest (p n) n) → cond b (Some k) more ≡ or_new (cond b (Some k) rest) (p n) n
insert_at p true k n more rest later = refl
insert_at p false k n more rest later = later refl

none_later : (b : Bool) (k : ℕ) (rest : Option ℕ) → b ≡ false → cond b (Some k) rest ≡ None → rest ≡ None
none_later true k rest is none = cc
none_later false k rest is none = none

find_insert : (p : ℕ → Bool) (front back : List ℕ) (n : ℕ) → (p n ≡ true → find p (front ++ back) ≡ None) → find p (front ++ n ∷ back) ≡ or_new (find p (front ++ back)) (p n) n
find_insert p [] back n none = new_or (find p back) (p n) n none
find_insert p (k ∷ front) back n none =
    insert_at p (p k) k n (find p (front ++ n ∷ back)) (find p (front ++ back)) (λ past. find_insert p front back n (λ is. none_later (p k) k (find p (front ++ back)) past (none is)))

find_same : (p q : ℕ → Bool) (xs : List ℕ) → AllByRecursion (λ k. p k ≡ q k) xs → find p xs ≡ find q xs
find_same p q [] all = refl
find_same p q (x ∷ xs) all = ap (λ b. cond b (Some x) (find p xs)) all.0 ∙ ap (λ o. cond (q x) (Some x) o) (find_same p q xs all.1)

-- ---- the names of numbers among one name more

held_text : (names : List (List ℕ)) (name : List ℕ) (k : ℕ) → k < length names → text_at (names ++ name ∷ []) k ≡ text_at names k
held_text names name k within = get_or_append_left names (name ∷ []) [] k within

new_text : (names : List (List ℕ)) (name : List ℕ) → text_at (names ++ name ∷ []) (length names) ≡ name
new_text names name = get_or-append_seam names name [] []

below_more : (names : List (List ℕ)) (name : List ℕ) (x : ℕ) (xs : List ℕ) → x < length names → AllByRecursion (λ k. k < length names) xs → AllByRecursion (λ y. by_bytes (text_at names x) (text_at names y) ≡ Less) xs → AllByRecursion (λ y. by_bytes (text_at (names ++ name ∷ []) x) (text_at (names ++ name ∷ []) y) ≡ Less) xs
below_more names name x [] first within all = tt
below_more names name x (y ∷ xs) first within all =
    (ap (λ t. by_bytes t (text_at (names ++ name ∷ []) y)) (held_text names name x first) ∙ ap (by_bytes (text_at names x)) (held_text names name y within.0) ∙ all.0, below_more names name x xs first within.1 all.1)

rises_more : (names : List (List ℕ)) (name : List ℕ) (xs : List ℕ) → AllByRecursion (λ k. k < length names) xs → Rises names xs → Rises (names ++ name ∷ []) xs
unfolding IsStrictlySortedBy
rises_more names name [] within rising = tt
rises_more names name (x ∷ xs) within rising = (below_more names name x xs within.0 within.1 rising.0, rises_more names name xs within.1 rising.1)

before_more : (names : List (List ℕ)) (name : List ℕ) (xs : List ℕ) → AllByRecursion (λ k. k < length names) xs → AllByRecursion (λ k. comes_before names k name ≡ true) xs → AllByRecursion (λ k. by_bytes (text_at (names ++ name ∷ []) k) (text_at (names ++ name ∷ []) (length names)) ≡ Less) xs
before_more names name [] within all = tt
before_more names name (x ∷ xs) within all =
    (ap (λ t. by_bytes t (text_at (names ++ name ∷ []) (length names))) (held_text names name x within.0) ∙ ap (by_bytes (text_at names x)) (new_text names name) ∙ less_from _ all.0, before_more names name xs within.1 all.1)

-- where a name is not held, no number is of it
none_of : (names : List (List ℕ)) (name : List ℕ) (xs : List ℕ) → find (is_of names name) xs ≡ None → AllByRecursion (λ k. is_of names name k ≡ false) xs
none_of names name [] none = tt
none_of names name (x ∷ xs) none = let parts = split (is_of names name x) x (find (is_of names name) xs) none in (parts.0, none_of names name xs parts.1)
  where
    split : (b : Bool) (k : ℕ) (rest : Option ℕ) → cond b (Some k) rest ≡ None → (b ≡ false) × (rest ≡ None)
    split true k rest none = cc
    split false k rest none = (refl, none)

behind_more : (names : List (List ℕ)) (name : List ℕ) (xs : List ℕ) → AllByRecursion (λ k. k < length names) xs → AllByRecursion (λ k. comes_before names k name ≡ false) xs → AllByRecursion (λ k. is_of names name k ≡ false) xs → AllByRecursion (λ k. by_bytes (text_at (names ++ name ∷ []) (length names)) (text_at (names ++ name ∷ []) k) ≡ Less) xs
behind_more names name [] within all others = tt
behind_more names name (x ∷ xs) within all others =
    (ap (by_bytes (text_at (names ++ name ∷ []) (length names))) (held_text names name x within.0) ∙ ap (λ t. by_bytes t (text_at names x)) (new_text names name) ∙ above (text_at names x) name all.0 others.0, behind_more names name xs within.1 all.1 others.1)

all_front : (P : ℕ → Type 0) (front back : List ℕ) → AllByRecursion P (front ++ back) → AllByRecursion P front
all_front P [] back all = tt
all_front P (k ∷ front) back all = (all.0, all_front P front back all.1)

all_back : (P : ℕ → Type 0) (front back : List ℕ) → AllByRecursion P (front ++ back) → AllByRecursion P back
all_back P [] back all = all
all_back P (k ∷ front) back all = all_back P front back all.1

same_tests : (names : List (List ℕ)) (name other : List ℕ) (xs : List ℕ) → AllByRecursion (λ k. k < length names) xs → AllByRecursion (λ k. is_of (names ++ name ∷ []) other k ≡ is_of names other k) xs
same_tests names name other xs within = all_more (λ k. k < length names) (λ k. is_of (names ++ name ∷ []) other k ≡ is_of names other k) xs (λ k below. ap (λ t. bytes_eq t other) (held_text names name k below)) within

-- ---- all together: the index in two parts, and the new number between them

between : (names : List (List ℕ)) (front back : List ℕ) (name : List ℕ) → IsCatalog names (front ++ back) → place_of name names ≡ None → length names < MOST_IMAGES → AllByRecursion (λ k. comes_before names k name ≡ true) front → AllByRecursion (λ k. comes_before names k name ≡ false) back → IsCatalog (names ++ name ∷ []) (front ++ length names ∷ back)
between names front back name held none room before behind =
    let n = length names in
    let more = names ++ name ∷ [] in
    let within = held.within in
    let of_front = all_front (λ k. k < n) front back within in
    let of_back = all_back (λ k. k < n) front back within in
    let others = all_back (λ k. is_of names name k ≡ false) front back (none_of names name (front ++ back) (held.finds name ∙ none)) in
    let longer : length more ≡ n + 1 = length-append names (name ∷ []) in
    record {
      images = one_more names name held.images none room;
      within = all_insert (λ k. k < length more) front back n (all_more (λ k. k < n) (λ k. k < length more) (front ++ back) (λ k below. omega (arith, below, longer)) within) (omega (arith, longer));
      rising = rises_insert more front back n (rises_more names name (front ++ back) within held.rising) (before_more names name front of_front before) (behind_more names name back of_back behind others);
      finds = λ other.
          let same : find (is_of more other) (front ++ back) ≡ place_of other names = find_same (is_of more other) (is_of names other) (front ++ back) (same_tests names name other (front ++ back) within) ∙ held.finds other in
          let own : is_of more other n ≡ bytes_eq name other = ap (λ t. bytes_eq t other) (new_text names name) in
          find_insert (is_of more other) front back n (λ is. same ∙ ap (λ m. place_of m names) (sym ((bytes_eq-Decides name other).0 (sym own ∙ is))) ∙ none)
          ∙ ap (λ o. or_new o (is_of more other n) n) same
          ∙ ap (λ b. or_new (place_of other names) b n) own
          ∙ sym (place_more names name other);
    }

pub added : (names : List (List ℕ)) (order : List ℕ) (name : List ℕ) (at : ℕ) → IsCatalog names order → place_of name names ≡ None → length names < MOST_IMAGES → at ≤ length order → AllWithin (λ k. comes_before names k name ≡ true) order 0 at → AllWithin (λ k. comes_before names k name ≡ false) order at (length order) → IsCatalog (names ++ name ∷ []) (insert order at (length names))
added names order name at held none room within before behind =
    between names (take at order) (drop at order) name (subst (λ l. IsCatalog names l) (sym (take-append-drop at order)) held) none room (front_all (λ k. comes_before names k name ≡ true) at order within before) (back_all (λ k. comes_before names k name ≡ false) at order behind)
