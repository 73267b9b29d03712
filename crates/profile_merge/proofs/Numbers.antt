-- The numbers that images get are the places of their names among those held and the new ones.
use Rattle.std.proofs.Common.{arith, ◌≡◌, ℕ, zero, suc, ◌+◌, ◌<◌, ◌≤◌, ◌&&◌, Bool, true, false, cond, List, [], ◌∷◌, ◌++◌, Option, None, Some, length, drop, refl, sym, ap, ◌∙◌, subst, append_assoc, length-append}
use Rattle.std.specs.Prelude.{is_none, unwrap_or, slice_index_or, filter, if◌then◌else◌}
use Rattle.std.specs.List.{IsDistinct, AllByRecursion}
use Rattle.std.specs.Str.{bytes_eq}
use Rattle.std.proofs.lemmas.List.{append-nil, drop_more, drop_all}
use Rattle.image_catalog.specs.Images.{place_of}
use Rattle.database_state.specs.declared.faults.DbFault.{DbFault}
use Rattle.database_state.specs.declared.faults.DbFault.TheVariants.{StoreFault, Bad, Full, Memory}
use Rattle.trace_model.specs.Recording.{name_at}
use Rattle.profile_merge.specs.Numbering.{new_names, fresh_of, number_at, numbers_of, IsImagesFault}
use Rattle.profile_merge.proofs.Names.{next, place_first, place_later, own_bytes}

-- the place behind so many others
abbrev pub after : ℕ → Option ℕ → Option ℕ
after n None = None
after n (Some i) = Some (n + i)

after_none : (o : Option ℕ) → after 0 o ≡ o
after_none None = refl
after_none (Some i) = ap (λ (n : ℕ). Some n) (zero_more i)
  where
    zero_more : (n : ℕ) → 0 + n ≡ n
    zero_more n = omega arith

next_after : (l : ℕ) (o : Option ℕ) → next (after l o) ≡ after (suc l) o
next_after l None = refl
next_after l (Some i) = ap (λ (n : ℕ). Some n) (more l i)
  where
    more : (l i : ℕ) → suc (l + i) ≡ suc l + i
    more l i = omega arith

pub next_none : (o : Option ℕ) → next o ≡ None → o ≡ None
next_none None is = refl
next_none (Some i) is = absurd cc

-- a name that is new has its place behind the others
behind_by : (name n : List ℕ) (names more : List (List ℕ)) (b : Bool) → bytes_eq n name ≡ b → place_of name (n ∷ names) ≡ None
    → (place_of name names ≡ None → place_of name (names ++ more) ≡ after (length names) (place_of name more))
    → place_of name (n ∷ (names ++ more)) ≡ after (suc (length names)) (place_of name more)
behind_by name n names more true here none rest = let some : ◌≡◌ {A = Option ℕ} (Some 0) None = sym (place_first name n names here) ∙ none in absurd cc
behind_by name n names more false other none rest =
    let later : place_of name names ≡ None = next_none (place_of name names) (sym (place_later name n names other) ∙ none) in
    place_later name n (names ++ more) other ∙ ap next (rest later) ∙ next_after (length names) (place_of name more)

pub place_behind : (name : List ℕ) (names more : List (List ℕ)) → place_of name names ≡ None → place_of name (names ++ more) ≡ after (length names) (place_of name more)
place_behind name [] more none = sym (after_none (place_of name more))
place_behind name (n ∷ names) more none = behind_by name n names more (bytes_eq n name) refl none (λ later. place_behind name names more later)

-- a name that has a place keeps it
front_later : (o p : Option ℕ) (k : ℕ) → ((i : ℕ) → o ≡ Some i → p ≡ Some i) → next o ≡ Some k → next p ≡ Some k
front_later None p k same is = absurd cc
front_later (Some i) p k same is = ap next (same i refl) ∙ is

front_by : (name n : List ℕ) (names more : List (List ℕ)) (k : ℕ) (b : Bool) → bytes_eq n name ≡ b → place_of name (n ∷ names) ≡ Some k
    → ((i : ℕ) → place_of name names ≡ Some i → place_of name (names ++ more) ≡ Some i) → place_of name (n ∷ (names ++ more)) ≡ Some k
front_by name n names more k true here place rest = place_first name n (names ++ more) here ∙ sym (place_first name n names here) ∙ place
front_by name n names more k false other place rest =
    place_later name n (names ++ more) other ∙ front_later (place_of name names) (place_of name (names ++ more)) k rest (sym (place_later name n names other) ∙ place)

pub place_front : (name : List ℕ) (names more : List (List ℕ)) (k : ℕ) → place_of name names ≡ Some k → place_of name (names ++ more) ≡ Some k
place_front name [] more k place = absurd cc
place_front name (n ∷ names) more k place = front_by name n names more k (bytes_eq n name) refl place (λ i at. place_front name names more i at)

-- ---- the numbers

-- none of these names is among the first
abbrev pub AreNew : List (List ℕ) → List (List ℕ) → Type 0
AreNew front names = AllByRecursion (λ n. place_of n front ≡ None) names

not_first : (name n : List ℕ) → bytes_eq n name ≡ false → place_of name (n ∷ []) ≡ None
not_first name n other = place_later name n [] other

pub still_new : (front : List (List ℕ)) (n : List ℕ) (names : List (List ℕ)) → AllByRecursion (λ y. bytes_eq n y ≡ false) names → AreNew front names → AreNew (front ++ n ∷ []) names
still_new front n [] others new = tt
still_new front n (m ∷ names) others new = (place_behind m front (n ∷ []) new.0 ∙ ap (after (length front)) (not_first m n others.0), still_new front n names others.1 new.1)

pub new_by : (b : Bool) (front : List (List ℕ)) (n : List ℕ) (names : List (List ℕ)) → AllByRecursion (λ y. bytes_eq n y ≡ false) names → AreNew front names → AreNew (front ++ (if b then n ∷ [] else [])) names
new_by true front n names others new = still_new front n names others new
new_by false front n names others new = subst (λ (f : List (List ℕ)). AreNew f names) (sym (nothing front)) new
  where
    nothing : (f : List (List ℕ)) → f ++ [] ≡ f
    nothing [] = refl
    nothing (x ∷ f) = ap (λ (g : List (List ℕ)). x ∷ g) (nothing f)

first_number : (held front more : List (List ℕ)) (n : List ℕ) (o : Option ℕ) → place_of n held ≡ o → place_of n front ≡ None
    → place_of n (held ++ (front ++ ((if true && is_none o then n ∷ [] else []) ++ more))) ≡ Some (unwrap_or o (length held + length front))
first_number held front more n (Some k) place new = place_front n held (front ++ more) k place
first_number held front more n None place new =
    place_behind n held (front ++ n ∷ more) place
    ∙ ap (after (length held)) (place_behind n front (n ∷ more) new ∙ ap (after (length front)) (place_first n n more (own_bytes n)))
    ∙ ap (λ (x : ℕ). Some x) (last (length held) (length front))
  where
    last : (a b : ℕ) → a + (b + 0) ≡ a + b
    last a b = omega arith

-- the place of each image that is used is its number
pub numbers_stand : (held front : List (List ℕ)) (used : List Bool) (names : List (List ℕ)) (i : ℕ) → IsDistinct bytes_eq names → length used ≡ length names → AreNew front names
    → i < length names → slice_index_or used i false ≡ true
    → place_of (name_at names i) (held ++ (front ++ fresh_of held used names)) ≡ Some (slice_index_or (numbers_of held (length held + length front) used names) i 0)
unfolding IsDistinct
numbers_stand held front used [] i apart same new below is = absurd (omega (arith, below))
numbers_stand held front [] (n ∷ names) i apart same new below is = absurd (omega (arith, same))
numbers_stand held front (u ∷ used) (n ∷ names) zero apart same new below is =
    let on : u ≡ true = is in
    subst (λ (b : Bool). place_of n (held ++ (front ++ (new_names held b n ++ fresh_of held used names))) ≡ Some (number_at held (length held + length front) b n)) (sym on)
    (first_number held front (fresh_of held used names) n (place_of n held) refl new.0)
numbers_stand held front (u ∷ used) (n ∷ names) (suc i) apart same new below is =
    let add = new_names held u n in
    let rest = numbers_stand held (front ++ add) used names i apart.1 (omega (arith, same)) (new_by (u && is_none (place_of n held)) front n names apart.0 new.1) (omega (arith, below)) is in
    let list : held ++ ((front ++ add) ++ fresh_of held used names) ≡ held ++ (front ++ (add ++ fresh_of held used names)) = ap (λ (l : List (List ℕ)). held ++ l) (append_assoc front add (fresh_of held used names)) in
    let count : length held + length (front ++ add) ≡ (length held + length front) + length add = let size = length-append front add in omega (arith, size) in
    ap (place_of (name_at names i)) (sym list) ∙ rest ∙ ap (λ (x : ℕ). Some (slice_index_or (numbers_of held x used names) i 0)) count

-- ---- the new names are those of the trace that are used and not held, in its order

fresh_by : (b : Bool) (n : List ℕ) (rest more : List (List ℕ)) → rest ≡ more → (if b then n ∷ [] else []) ++ rest ≡ cond b (n ∷ more) more
fresh_by true n rest more same = ap (λ (l : List (List ℕ)). n ∷ l) same
fresh_by false n rest more same = same

pub fresh_chosen : (held : List (List ℕ)) (test : List ℕ → Bool) (used : List Bool) (names : List (List ℕ)) → length used ≡ length names
    → ((i : ℕ) → i < length names → test (name_at names i) ≡ (slice_index_or used i false && is_none (place_of (name_at names i) held)))
    → fresh_of held used names ≡ filter test names
fresh_chosen held test [] [] same tests = refl
fresh_chosen held test [] (n ∷ names) same tests = absurd (omega (arith, same))
fresh_chosen held test (u ∷ used) [] same tests = absurd (omega (arith, same))
fresh_chosen held test (u ∷ used) (n ∷ names) same tests =
    fresh_by (u && is_none (place_of n held)) n (fresh_of held used names) (filter test names)
    (fresh_chosen held test used names (omega (arith, same)) (λ i below. tests (suc i) (omega (arith, below))))
    ∙ ap (λ (b : Bool). cond b (n ∷ filter test names) (filter test names)) (sym (tests 0 (omega arith)))

-- ---- the loop over the images

pub record NumberedSoFar (held : List (List ℕ)) (used : List Bool) (names fresh : List (List ℕ)) (numbers : List ℕ) (i : ℕ) : Type 0 where
  pub few : length held + length fresh ≤ 4096
  pub fresh_is : fresh ++ fresh_of held (drop i used) (drop i names) ≡ fresh_of held used names
  pub numbers_are : numbers ++ numbers_of held (length held + length fresh) (drop i used) (drop i names) ≡ numbers_of held (length held) used names

pub none_numbered : (held : List (List ℕ)) (used : List Bool) (names : List (List ℕ)) → length held ≤ 4096 → NumberedSoFar held used names [] [] 0
none_numbered held used names few = record {
  few = omega (arith, few);
  fresh_is = refl;
  numbers_are = ap (λ (n : ℕ). numbers_of held n used names) (more (length held));
}
  where
    more : (n : ℕ) → n + 0 ≡ n
    more n = omega arith

pub one_numbered : (held : List (List ℕ)) (used : List Bool) (names fresh after : List (List ℕ)) (numbers : List ℕ) (i number : ℕ) (b : Bool) (d : List ℕ) → i < length names → length used ≡ length names
    → after ≡ fresh ++ new_names held (slice_index_or used i b) (slice_index_or names i d) → number ≡ number_at held (length held + length fresh) (slice_index_or used i b) (slice_index_or names i d) → length held + length after ≤ 4096
    → NumberedSoFar held used names fresh numbers i → NumberedSoFar held used names after (numbers ++ number ∷ []) (i + 1)
one_numbered held used names fresh after numbers i number b d below same after_is number_is few so =
    let u = slice_index_or used i b in
    let n = slice_index_or names i d in
    let add = new_names held u n in
    let us : drop i used ≡ u ∷ drop (i + 1) used = drop_more used i b (omega (arith, below, same)) in
    let ns : drop i names ≡ n ∷ drop (i + 1) names = drop_more names i d below in
    let rest = fresh_of held (drop (i + 1) used) (drop (i + 1) names) in
    let whole : fresh ++ (add ++ rest) ≡ fresh_of held used names = ap (λ (l : List (List ℕ)). fresh ++ l) (sym (ap (λ (l : List Bool). fresh_of held l (drop i names)) us ∙ ap (fresh_of held (u ∷ drop (i + 1) used)) ns)) ∙ so.fresh_is in
    let count : length held + length fresh + length add ≡ length held + length after = let size = length-append fresh add in let is = ap (λ (l : List (List ℕ)). length l) after_is in omega (arith, size, is) in
    let numbered : numbers ++ (number_at held (length held + length fresh) u n ∷ numbers_of held (length held + length fresh + length add) (drop (i + 1) used) (drop (i + 1) names)) ≡ numbers_of held (length held) used names =
    ap (λ (l : List ℕ). numbers ++ l) (sym (ap (λ (l : List Bool). numbers_of held (length held + length fresh) l (drop i names)) us ∙ ap (numbers_of held (length held + length fresh) (u ∷ drop (i + 1) used)) ns)) ∙ so.numbers_are in
    record {
      few = few;
      fresh_is = ap (λ (l : List (List ℕ)). l ++ rest) after_is ∙ append_assoc fresh add rest ∙ whole;
      numbers_are = append_assoc numbers (number ∷ []) (numbers_of held (length held + length after) (drop (i + 1) used) (drop (i + 1) names))
          ∙ ap (λ (x : ℕ). numbers ++ (x ∷ numbers_of held (length held + length after) (drop (i + 1) used) (drop (i + 1) names))) number_is
          ∙ ap (λ (x : ℕ). numbers ++ (number_at held (length held + length fresh) u n ∷ numbers_of held x (drop (i + 1) used) (drop (i + 1) names))) (sym count)
          ∙ numbered;
    }

none_of : (held : List (List ℕ)) (used : List Bool) → fresh_of held used [] ≡ []
none_of held [] = refl
none_of held (u ∷ used) = refl

no_number : (held : List (List ℕ)) (next : ℕ) (used : List Bool) → numbers_of held next used [] ≡ []
no_number held next [] = refl
no_number held next (u ∷ used) = refl

pub all_fresh : (held : List (List ℕ)) (used : List Bool) (names fresh : List (List ℕ)) (numbers : List ℕ) (i : ℕ) → length names ≤ i → NumberedSoFar held used names fresh numbers i → fresh ≡ fresh_of held used names
all_fresh held used names fresh numbers i past so =
    sym (append-nil fresh) ∙ ap (λ (l : List (List ℕ)). fresh ++ l) (sym (ap (fresh_of held (drop i used)) (drop_all i names past) ∙ none_of held (drop i used))) ∙ so.fresh_is

pub all_numbers : (held : List (List ℕ)) (used : List Bool) (names fresh : List (List ℕ)) (numbers : List ℕ) (i : ℕ) → length names ≤ i → NumberedSoFar held used names fresh numbers i → numbers ≡ numbers_of held (length held) used names
all_numbers held used names fresh numbers i past so =
    sym (append-nil numbers) ∙ ap (λ (l : List ℕ). numbers ++ l) (sym (ap (numbers_of held (length held + length fresh) (drop i used)) (drop_all i names past) ∙ no_number held (length held + length fresh) (drop i used))) ∙ so.numbers_are

-- more are new than there is room for, so it is with all
pub full_more : (held : List (List ℕ)) (used : List Bool) (names fresh : List (List ℕ)) (numbers : List ℕ) (i : ℕ) (b : Bool) (d : List ℕ) (fault : DbFault) → i < length names → length used ≡ length names
    → NumberedSoFar held used names fresh numbers i → IsImagesFault held (fresh ++ new_names held (slice_index_or used i b) (slice_index_or names i d)) fault → IsImagesFault held (fresh_of held used names) fault
full_more held used names fresh numbers i b d StoreFault below same so full = absurd full
full_more held used names fresh numbers i b d (Bad file) below same so full = absurd full
full_more held used names fresh numbers i b d (Full what is_held added) below same so full =
    let u = slice_index_or used i b in
    let n = slice_index_or names i d in
    let rest = fresh_of held (drop (i + 1) used) (drop (i + 1) names) in
    let us : drop i used ≡ u ∷ drop (i + 1) used = drop_more used i b (omega (arith, below, same)) in
    let ns : drop i names ≡ n ∷ drop (i + 1) names = drop_more names i d below in
    let whole : (fresh ++ new_names held u n) ++ rest ≡ fresh_of held used names = append_assoc fresh (new_names held u n) rest ∙ ap (λ (l : List (List ℕ)). fresh ++ l) (sym (ap (λ (l : List Bool). fresh_of held l (drop i names)) us ∙ ap (fresh_of held (u ∷ drop (i + 1) used)) ns)) ∙ so.fresh_is in
    let size = length-append (fresh ++ new_names held u n) rest in
    let is = ap (λ (l : List (List ℕ)). length l) whole in
    (full.0, full.1, full.2, omega (arith, full.3, size, is))
full_more held used names fresh numbers i b d Memory below same so full = tt
