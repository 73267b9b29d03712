-- What is added to the profiles of a commit is what was gathered for their parts.
use Rattle.std.proofs.Common.{arith, ◌≡◌, ℕ, ◌+◌, ◌<◌, ◌&&◌, ◌||◌, Bool, true, false, cond, List, [], ◌∷◌, ◌++◌, Option, None, Some, length, refl, sym, ap, ◌∙◌, subst}
use Rattle.std.specs.Prelude.{is_some, is_none, unwrap_or, slice_index_or}
use Rattle.std.specs.List.{IsDistinct, AllByRecursion}
use Rattle.std.specs.Map.{lookup}
use Rattle.std.specs.Str.{bytes_eq}
use Rattle.std.proofs.lemmas.Bool.{and_parts, eqb-true, eq-eqb}
use Rattle.sample_key.specs.declared.events.Event.{Event}
use Rattle.sample_key.specs.Events.{code_of, event_of_code}
use Rattle.image_catalog.specs.Images.{place_of}
use Rattle.trace_model.specs.Recording.{name_at}
use Rattle.growth_model.specs.Additions.{Additions}
use Rattle.growth_model.specs.Growth.{Selects, IsNewName}
use Rattle.profile_merge.specs.declared.owners.Owner.{Owner}
use Rattle.profile_merge.specs.declared.owners.Owner.TheVariants.{Known, Unknown}
use Rattle.profile_merge.specs.Sums.{Collected, Counts, same_owner, sum_at, gathered_at, AreCounts, AreSums}
use Rattle.profile_merge.specs.Gathering.{known_by, unknown_by, additions_in, ImagesAreIn}
use Rattle.profile_merge.specs.Faults.{added_to, IsNumbered, IsChanged}
use Rattle.profile_merge.specs.Numbering.{is_image, is_used, fresh_of, numbers_of, renumbered}
use Rattle.profile_merge.specs.Renewing.{Parts, IsGathered, ArePartsOf}
use Rattle.profile_merge.proofs.Counting.{found_are}
use Rattle.profile_merge.proofs.Names.{StandsAt, name_there, own_place}
use Rattle.profile_merge.proofs.Numbers.{numbers_stand, fresh_chosen}
use Rattle.sample_key.proofs.Codes.{event_back}
use Rattle.profile_merge.proofs.OwnerOrder.{same_itself, same_equal}

-- ---- what was gathered counts something

first_counts : (s : Counts) → AreCounts s → (offset : ℕ) × (0 < sum_at s offset)
first_counts [] are = absurd are
first_counts (first ∷ rest) are =
    let own : sum_at (first ∷ rest) first.0 ≡ first.1 = ap (λ (b : Bool). cond b first.1 (sum_at rest first.0)) (eq-eqb first.0 first.0 refl) in
    (first.0, omega (arith, own, are.3))

pub counts_some : (g : Collected) (p : Owner) (s : Counts) → AreSums g → lookup (same_owner p) g ≡ Some s → (offset : ℕ) × (0 < gathered_at g p offset)
counts_some g p s sums found =
    let first = first_counts s (found_are (same_owner p) g s found sums) in
    let at : gathered_at g p first.0 ≡ sum_at s first.0 = ap (λ (o : Option Counts). sum_at (unwrap_or o []) first.0) found in
    (first.0, omega (arith, at, first.1))

found_of : {X : Type 0} (o : Option X) → is_some o ≡ true → (x : X) × (o ≡ Some x)
found_of None is = absurd cc
found_of (Some x) is = (x, refl)

pub gathered_found : (g : Collected) (p : Owner) → IsGathered g p → (s : Counts) × (lookup (same_owner p) g ≡ Some s)
gathered_found g p is = found_of (lookup (same_owner p) g) is

-- a profile that counts something was gathered
found_or : (o : Option Counts) (offset : ℕ) → 0 < sum_at (unwrap_or o []) offset → is_some o ≡ true
found_or None offset some = absurd (omega (arith, some))
found_or (Some s) offset some = refl

pub gathered_some : (g : Collected) (p : Owner) (offset : ℕ) → 0 < gathered_at g p offset → IsGathered g p
gathered_some g p offset some = found_or (lookup (same_owner p) g) offset some

-- ---- the images that are used

own_image : (e i : ℕ) (v : Event) (p : Owner) → same_owner (Known e i v) p ≡ true → is_image i p ≡ true
own_image e i v p same = ap (is_image i) (sym (same_equal (Known e i v) p same)) ∙ eq-eqb i i refl

used_by : (b : Bool) (t : Bool) (rest : Bool) (s : Counts) (x : Counts) (o : Option Counts) → (b ≡ true → t ≡ true) → (o ≡ Some s → rest ≡ true) → cond b (Some x) o ≡ Some s → (t || rest) ≡ true
used_by true t rest s x o here there is = ap (λ (y : Bool). y || rest) (here refl)
used_by false t rest s x o here there is = ap (λ (y : Bool). t || y) (there is) ∙ or_true t
  where
    or_true : (t : Bool) → (t || true) ≡ true
    or_true true = refl
    or_true false = refl

pub found_used : (g : Collected) (e i : ℕ) (v : Event) (s : Counts) → lookup (same_owner (Known e i v)) g ≡ Some s → is_used g i ≡ true
found_used [] e i v s found = absurd cc
found_used (x ∷ g) e i v s found = used_by (same_owner (Known e i v) x.0) (is_image i x.0) (is_used g i) s x.1 (lookup (same_owner (Known e i v)) g) (own_image e i v x.0) (found_used g e i v s) found

-- something that was gathered for an image
pub record UsedBy (g : Collected) (i : ℕ) : Type 0 where
  pub epoch : ℕ
  pub event : Event
  pub counts : Counts
  pub found : lookup (same_owner (Known epoch i event)) g ≡ Some counts

pass_by : (g : Collected) (i : ℕ) (x : Owner × Counts) (u : UsedBy g i) (b : Bool) → same_owner (Known u.epoch i u.event) x.0 ≡ b → UsedBy (x ∷ g) i
pass_by g i x u true is = record { epoch = u.epoch; event = u.event; counts = x.1; found = ap (λ (b : Bool). cond b (Some x.1) (lookup (same_owner (Known u.epoch i u.event)) g)) is }
pass_by g i x u false is = record { epoch = u.epoch; event = u.event; counts = u.counts; found = ap (λ (b : Bool). cond b (Some x.1) (lookup (same_owner (Known u.epoch i u.event)) g)) is ∙ u.found }

here_by : (g : Collected) (i : ℕ) (p : Owner) (s : Counts) → is_image i p ≡ true → UsedBy ((p, s) ∷ g) i
here_by g i (Unknown e v) s is = absurd cc
here_by g i (Known e j v) s is =
    let at : j ≡ i = eqb-true j i is in
    let same : same_owner (Known e i v) (Known e j v) ≡ true = ap (λ (n : ℕ). same_owner (Known e i v) (Known e n v)) at ∙ same_itself (Known e i v) in
    record { epoch = e; event = v; counts = s; found = ap (λ (b : Bool). cond b (Some s) (lookup (same_owner (Known e i v)) g)) same }

or_by : (t rest : Bool) {G : Type 0} → (t || rest) ≡ true → (t ≡ true → G) → (rest ≡ true → G) → G
or_by true rest is a b = a refl
or_by false rest is a b = b is

pub used_found : (g : Collected) (i : ℕ) → is_used g i ≡ true → UsedBy g i
used_found [] i is = absurd cc
used_found (x ∷ g) i is = or_by (is_image i x.0) (is_used g i) is (λ here. here_by g i x.0 x.1 here) (λ there. let u = used_found g i there in pass_by g i x u (same_owner (Known u.epoch i u.event) x.0) refl)

-- ---- the parts

pub all_new : (names : List (List ℕ)) → AllByRecursion (λ n. place_of n [] ≡ None) names
all_new [] = tt
all_new (n ∷ names) = (refl, all_new names)

pub record Numbering (g : Collected) (names held : List (List ℕ)) (used : List Bool) : Type 0 where
  pub sums : AreSums g
  pub apart : IsDistinct bytes_eq names
  pub within : ImagesAreIn names g
  pub len : length used ≡ length names
  pub marks : (index : ℕ) → index < length names → slice_index_or used index false ≡ is_used g index
  pub all_apart : IsDistinct bytes_eq (held ++ fresh_of held used names)

known_none : (g : Collected) (epoch offset : ℕ) (o : Option ℕ) (w : Option Event) → ((i : ℕ) (v : Event) → o ≡ Some i → w ≡ Some v → gathered_at g (Known epoch i v) offset ≡ 0) → known_by g epoch offset o w ≡ 0
known_none g epoch offset None w none = refl
known_none g epoch offset (Some i) None none = refl
known_none g epoch offset (Some i) (Some v) none = none i v refl refl

pub not_gathered : (o : Option Counts) (offset : ℕ) → is_some o ≡ false → sum_at (unwrap_or o []) offset ≡ 0
not_gathered None offset none = refl
not_gathered (Some s) offset none = absurd cc

some_event : {x y : Event} → Some x ≡ Some y → x ≡ y
some_event h = cc

module _ (g : Collected) (names held : List (List ℕ)) (used : List Bool) (n : Numbering g names held used) where
  abbrev fresh : List (List ℕ)
  fresh = fresh_of held used names

  abbrev all : List (List ℕ)
  all = held ++ fresh

  abbrev numbers : List ℕ
  numbers = numbers_of held (length held) used names

  abbrev added : Additions
  added = additions_in names g

  pub image_within : (e i : ℕ) (v : Event) (s : Counts) → lookup (same_owner (Known e i v)) g ≡ Some s → i < length names
  image_within e i v s found = let some = counts_some g (Known e i v) s n.sums found in n.within e i v some.0 some.1

  -- the place of the name of an image that is used is its number
  pub number_stands : (i : ℕ) → i < length names → slice_index_or used i false ≡ true → place_of (name_at names i) all ≡ Some (slice_index_or numbers i 0)
  number_stands i below is =
      numbers_stand held [] used names i n.apart n.len (all_new names) below is
      ∙ ap (λ (x : ℕ). Some (slice_index_or (numbers_of held x used names) i 0)) (no_more (length held))
    where
      no_more : (x : ℕ) → x + 0 ≡ x
      no_more x = omega arith

  pub marked : (e i : ℕ) (v : Event) (s : Counts) → lookup (same_owner (Known e i v)) g ≡ Some s → slice_index_or used i false ≡ true
  marked e i v s found = n.marks i (image_within e i v s found) ∙ found_used g e i v s found

  pub part_stands : (e i : ℕ) (v : Event) (s : Counts) → lookup (same_owner (Known e i v)) g ≡ Some s → StandsAt (name_at names i) all (slice_index_or numbers i 0)
  part_stands e i v s found = name_there (name_at names i) all (slice_index_or numbers i 0) (number_stands i (image_within e i v s found) (marked e i v s found))

  -- what is added to a part is what was gathered for it
  pub part_adds : (p : Owner) (s : Counts) → lookup (same_owner p) g ≡ Some s → IsNumbered all (renumbered numbers p) × ((offset : ℕ) → added_to added all (renumbered numbers p) offset ≡ gathered_at g p offset)
  part_adds (Known e i v) s found =
      let stands = part_stands e i v s found in
      let place : place_of (name_at all (slice_index_or numbers i 0)) names ≡ Some i = ap (λ (name : List ℕ). place_of name names) stands.1 ∙ own_place names i n.apart (image_within e i v s found) in
      (stands.0, λ offset. ap (λ (o : Option ℕ). known_by g e offset o (event_of_code (code_of v))) place ∙ ap (λ (w : Option Event). known_by g e offset (Some i) w) (event_back v))
  part_adds (Unknown e v) s found = (tt, λ offset. ap (λ (w : Option Event). unknown_by g e offset w) (event_back v))

  module _ (parts : Parts) (are : ArePartsOf numbers g parts) where
    -- of a profile that has a part
    pub found_adds : (q p : Owner) → lookup (same_owner q) parts ≡ Some p → IsNumbered all q × ((offset : ℕ) → added_to added all q offset ≡ gathered_at g p offset)
    found_adds q p found =
        let is = are.found q p found in
        let some = gathered_found g p is.1 in
        subst (λ (o : Owner). IsNumbered all o × ((offset : ℕ) → added_to added all o offset ≡ gathered_at g p offset)) is.0 (part_adds p some.0 some.1)

    missed : (p : Owner) (q : Owner) → renumbered numbers p ≡ q → lookup (same_owner q) parts ≡ None → (b : Bool) → is_some (lookup (same_owner p) g) ≡ b → b ≡ false
    missed p q is none false at = refl
    missed p q is none true at =
        let has = are.has p at in
        let wrong : is_some {T = Owner} None ≡ true = sym (ap is_some (ap (λ (o : Owner). lookup (same_owner o) parts) is ∙ none)) ∙ has in
        absurd cc

    none_found : (e k : ℕ) (v : Event) → k < length all → lookup (same_owner (Known e k v)) parts ≡ None → (offset i : ℕ) (w : Event) → w ≡ v → place_of (name_at all k) names ≡ Some i
        → (b : Bool) → is_some (lookup (same_owner (Known e i w)) g) ≡ b → gathered_at g (Known e i w) offset ≡ 0
    none_found e k v below none offset i w same place false is = not_gathered (lookup (same_owner (Known e i w)) g) offset is
    none_found e k v below none offset i w same place true is =
        let some = gathered_found g (Known e i w) is in
        let there = name_there (name_at all k) names i place in
        let number : place_of (name_at names i) all ≡ Some (slice_index_or numbers i 0) = number_stands i there.0 (marked e i w some.0 some.1) in
        let own : place_of (name_at names i) all ≡ Some k = ap (λ (name : List ℕ). place_of name all) there.1 ∙ own_place all k n.all_apart below in
        let both : Some (slice_index_or numbers i 0) ≡ Some k = sym number ∙ own in
        let at : slice_index_or numbers i 0 ≡ k = cc in
        let renumber : renumbered numbers (Known e i w) ≡ Known e k v = ap (λ (x : ℕ). Known e x w) at ∙ ap (λ (x : Event). Known e k x) same in
        let wrong : true ≡ false = missed (Known e i w) (Known e k v) renumber none true is in
        absurd cc

    -- nothing is added to a profile that has none
    pub none_adds : (q : Owner) → IsNumbered all q → lookup (same_owner q) parts ≡ None → (offset : ℕ) → added_to added all q offset ≡ 0
    none_adds (Known e k v) numbered none offset = known_none g e offset (place_of (name_at all k) names) (event_of_code (code_of v)) (λ i w place code.
        none_found e k v numbered none offset i w (some_event (sym code ∙ event_back v)) place (is_some (lookup (same_owner (Known e i w)) g)) refl)
    none_adds (Unknown e v) numbered none offset =
        ap (λ (w : Option Event). unknown_by g e offset w) (event_back v)
        ∙ not_gathered (lookup (same_owner (Unknown e v)) g) offset (missed (Unknown e v) (Unknown e v) refl none (is_some (lookup (same_owner (Unknown e v)) g)) refl)

    -- a profile has a part exactly where something is added to it
    pub part_changed : (q p : Owner) → lookup (same_owner q) parts ≡ Some p → IsChanged added all q
    part_changed q p found =
        let adds = found_adds q p found in
        let some = gathered_found g p (are.found q p found).1 in
        let counted = counts_some g p some.0 n.sums some.1 in
        record { numbered = adds.0; counted = record { offset = counted.0; some = (let is = adds.1 counted.0 in omega (arith, is, counted.1)) } }

    changed_by : (q : Owner) → IsChanged added all q → (o : Option Owner) → lookup (same_owner q) parts ≡ o → (p : Owner) × (lookup (same_owner q) parts ≡ Some p)
    changed_by q changed None none = let zero = none_adds q changed.numbered none changed.counted.offset in absurd (omega (arith, zero, changed.counted.some))
    changed_by q changed (Some p) found = (p, found)

    pub changed_part : (q : Owner) → IsChanged added all q → (p : Owner) × (lookup (same_owner q) parts ≡ Some p)
    changed_part q changed = changed_by q changed (lookup (same_owner q) parts) refl

  -- ---- the new names

  used_at : Option ℕ → Bool
  used_at None = false
  used_at (Some i) = slice_index_or used i false

  chosen_test : List ℕ → Bool
  chosen_test name = used_at (place_of name names) && is_none (place_of name held)

  test_is : (i : ℕ) → i < length names → chosen_test (name_at names i) ≡ (slice_index_or used i false && is_none (place_of (name_at names i) held))
  unfolding chosen_test used_at
  test_is i below = ap (λ (o : Option ℕ). used_at o && is_none (place_of (name_at names i) held)) (own_place names i n.apart below)

  is_new : (name : List ℕ) (i : ℕ) → place_of name names ≡ Some i → slice_index_or used i false ≡ true → (h : Option ℕ) → place_of name held ≡ h → is_none h ≡ true → IsNewName held added name
  is_new name i place on (Some j) at none = absurd cc
  is_new name i place on None at none =
      let below = (name_there name names i place).0 in
      let u = used_found g i (sym (n.marks i below) ∙ on) in
      let counted = counts_some g (Known u.epoch i u.event) u.counts n.sums u.found in
      let is : added.known u.epoch name (code_of u.event) counted.0 ≡ gathered_at g (Known u.epoch i u.event) counted.0 =
      ap (λ (o : Option ℕ). known_by g u.epoch counted.0 o (event_of_code (code_of u.event))) place ∙ ap (λ (w : Option Event). known_by g u.epoch counted.0 (Some i) w) (event_back u.event) in
      record { fresh = at; epoch = u.epoch; event = code_of u.event; counted = record { offset = counted.0; some = omega (arith, is, counted.1) } }

  holds_by : (name : List ℕ) (o : Option ℕ) → place_of name names ≡ o → (used_at o && is_none (place_of name held)) ≡ true → IsNewName held added name
  unfolding used_at
  holds_by name None place is = absurd cc
  holds_by name (Some i) place is = let both = and_parts (slice_index_or used i false) (is_none (place_of name held)) is in is_new name i place both.0 (place_of name held) refl both.1

  counted_known : (epoch offset : ℕ) (o : Option ℕ) (w : Option Event) → 0 < known_by g epoch offset o w → (i : ℕ) × (v : Event) × (o ≡ Some i) × (w ≡ Some v) × (0 < gathered_at g (Known epoch i v) offset)
  counted_known epoch offset None w some = absurd (omega (arith, some))
  counted_known epoch offset (Some i) None some = absurd (omega (arith, some))
  counted_known epoch offset (Some i) (Some v) some = (i, v, refl, refl, some)

  fails_new : (name : List ℕ) → chosen_test name ≡ false → IsNewName held added name → ⊥
  unfolding chosen_test used_at
  fails_new name fails new =
      let some = counted_known new.epoch new.counted.offset (place_of name names) (event_of_code new.event) new.counted.some in
      let found = gathered_found g (Known new.epoch some.0 some.1) (gathered_some g (Known new.epoch some.0 some.1) new.counted.offset some.4) in
      let on : slice_index_or used some.0 false ≡ true = marked new.epoch some.0 some.1 found.0 found.1 in
      let passes : (used_at (place_of name names) && is_none (place_of name held)) ≡ true =
      ap (λ (o : Option ℕ). used_at o && is_none (place_of name held)) some.2 ∙ ap (λ (h : Option ℕ). slice_index_or used some.0 false && is_none h) new.fresh ∙ ap (λ (b : Bool). b && true) on in
      let wrong : true ≡ false = sym passes ∙ fails in
      absurd cc

  -- the new names are those that are new and have a count, in the trace's order
  pub fresh_selected : Selects (IsNewName held added) names fresh
  unfolding chosen_test used_at
  fresh_selected = record {
    test = chosen_test;
    holds = λ name is. holds_by name (place_of name names) refl is;
    fails = λ name is new. fails_new name is new;
    list = fresh_chosen held chosen_test used names n.len test_is;
  }
