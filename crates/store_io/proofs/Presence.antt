-- Which names are among the keys of a set, and what changes say of a name.
use Rattle.std.proofs.Common.{rules, arith, ◌≡◌, ℕ, ◌+◌, ◌<◌, Bool, true, false, cond, ◌&&◌, ◌||◌, List, [], ◌∷◌, ◌++◌, map, None, Some, Option, length, take, get_or, refl, sym, ap, ◌∙◌}
use Rattle.std.specs.Prelude.{is_some, filter, not}
use Rattle.std.specs.declared.cmp.Ordering.{Ordering}
use Rattle.std.specs.declared.cmp.Ordering.TheVariants.{Less, Equal, Greater}
use Rattle.std.specs.Ordering.{nat_cmp, is_eq, match_ordering}
use Rattle.std.specs.Cmp.Lexicographic.{slice_cmp}
use Rattle.std.specs.List.{list_any, list_all, AllByRecursion}
use Rattle.std.specs.List.Sorted.{IsStrictlySortedBy}
use Rattle.std.specs.Str.{bytes_eq}
use Rattle.std.specs.Global.{Vec}
use Rattle.std.specs.BTreeSet.{insert_key}
use Rattle.std.specs.Set.{remove_key}
use Rattle.std.specs.BTreeMap.{is_at}
use Rattle.std.proofs.lemmas.Cmp.{nat_list_eq_equiv}
use Rattle.std.proofs.lemmas.List.{take_more, map-append}
use Rattle.std.proofs.lemmas.List.Folds.{list_any-append}
use Rattle.std.proofs.lemmas.Map.Text.{is_eq-slice_cmp}
use Rattle.std.proofs.lemmas.Slice.Eq.{bytes_eq-Decides}
use Rattle.std.proofs.Math.Bool.{or-false}
use Rattle.store_io.specs.declared.steps.Step.{Step}
use Rattle.store_io.specs.Files.{Files, no_files, contents}
use Rattle.store_io.specs.Listing.{is_listed, IsInByteOrder, Lists}
use Rattle.store_io.specs.declared.steps.Outcome.{Outcome}
use Rattle.store_io.specs.declared.steps.Outcome.TheVariants.{Written, HalfWritten, Removed, HalfRemoved}
use Rattle.store_io.specs.Changes.{after_outcome, after_step, after_steps, changes_files, bytes_left, decides}
use Rattle.std.specs.Option.{option_map, option_copied}
use Rattle.std.proofs.Common.{Bor, ◌-◌, ◌≤◌}
use Rattle.text_num.specs.Names.{is_name}
use Rattle.store_io.proofs.History.{after_steps-append, and_first, and_second}

-- ---- keys

pub ordered_texts : (ks : List (Vec ℕ)) → IsStrictlySortedBy (λ x y. slice_cmp nat_cmp (contents x) (contents y)) ks → IsInByteOrder (map contents ks)
unfolding IsStrictlySortedBy
ordered_texts [] sorted = tt
ordered_texts (k ∷ ks) sorted = (below k ks sorted.0, ordered_texts ks sorted.1)
  where
    below : (k : Vec ℕ) (ks : List (Vec ℕ)) → AllByRecursion (λ y. slice_cmp nat_cmp (contents k) (contents y) ≡ Less) ks → AllByRecursion (λ y. slice_cmp nat_cmp (contents k) y ≡ Less) (map contents ks)
    below k [] all = tt
    below k (x ∷ xs) all = (all.0, below k xs all.1)

pub equal_texts : (xs ys : List ℕ) → slice_cmp nat_cmp xs ys ≡ Equal → xs ≡ ys
equal_texts xs ys same = (bytes_eq-Decides xs ys).0 (sym (is_eq-slice_cmp xs ys) ∙ ap is_eq same)

pub or_twice : (a r : Bool) → (a || r) ≡ (a || (a || r))
or_twice true r = refl
or_twice false r = refl

pub or_swap : (a b r : Bool) → (a || (b || r)) ≡ (b || (a || r))
or_swap true true r = refl
or_swap true false r = refl
or_swap false true r = refl
or_swap false false r = refl

-- the order of keys
abbrev pub by_bytes : Vec ℕ → Vec ℕ → Ordering
by_bytes x y = slice_cmp nat_cmp (contents x) (contents y)

listed_at : (o : Ordering) (k x : Vec ℕ) (xs inserted : List (Vec ℕ)) (n : List ℕ) → slice_cmp nat_cmp (contents k) (contents x) ≡ o → is_listed n (map contents inserted) ≡ (bytes_eq (contents k) n || is_listed n (map contents xs)) → is_listed n (map contents (match_ordering o (k ∷ x ∷ xs) (x ∷ xs) (x ∷ inserted))) ≡ (bytes_eq (contents k) n || is_listed n (map contents (x ∷ xs)))
listed_at Less k x xs inserted n is rest = refl
listed_at Equal k x xs inserted n is rest = or_twice (bytes_eq (contents x) n) (is_listed n (map contents xs)) ∙ ap (λ t. bytes_eq t n || is_listed n (map contents (x ∷ xs))) (sym (equal_texts (contents k) (contents x) is))
listed_at Greater k x xs inserted n is rest = ap (λ r. bytes_eq (contents x) n || r) rest ∙ or_swap (bytes_eq (contents x) n) (bytes_eq (contents k) n) (is_listed n (map contents xs))

-- a key more
pub listed_insert : (k : Vec ℕ) (ks : List (Vec ℕ)) (n : List ℕ) → is_listed n (map contents (insert_key by_bytes ks k)) ≡ (bytes_eq (contents k) n || is_listed n (map contents ks))
listed_insert k [] n = refl
listed_insert k (x ∷ xs) n = listed_at (by_bytes k x) k x xs (insert_key by_bytes xs k) n refl (listed_insert k xs n)

and_true : (a b : Bool) → a ≡ true → b ≡ true → (a && b) ≡ true
and_true a b x y = rw (x, y) refl

names_at : (o : Ordering) (k x : Vec ℕ) (xs inserted : List (Vec ℕ)) → is_name (contents k) ≡ true → list_all is_name (map contents (x ∷ xs)) ≡ true → list_all is_name (map contents inserted) ≡ true → list_all is_name (map contents (match_ordering o (k ∷ x ∷ xs) (x ∷ xs) (x ∷ inserted))) ≡ true
names_at Less k x xs inserted name all rest = and_true _ _ name all
names_at Equal k x xs inserted name all rest = all
names_at Greater k x xs inserted name all rest = and_true _ _ (and_first (is_name (contents x)) (list_all is_name (map contents xs)) all) rest

-- a name more among names
pub names_insert : (k : Vec ℕ) (ks : List (Vec ℕ)) → is_name (contents k) ≡ true → list_all is_name (map contents ks) ≡ true → list_all is_name (map contents (insert_key by_bytes ks k)) ≡ true
names_insert k [] name all = and_true _ _ name refl
names_insert k (x ∷ xs) name all = names_at (by_bytes k x) k x xs (insert_key by_bytes xs k) name all (names_insert k xs name (and_second (is_name (contents x)) (list_all is_name (map contents xs)) all))

-- what all pass, a filter keeps
pub filter_all : (xs : List (List ℕ)) → list_all is_name xs ≡ true → filter is_name xs ≡ xs
filter_all [] all = refl
filter_all (x ∷ xs) all = rw (and_first (is_name x) (list_all is_name xs) all) (ap (λ l. x ∷ l) (filter_all xs (and_second (is_name x) (list_all is_name xs) all)))

-- a key less

bytes_apart : (x y : List ℕ) → slice_cmp nat_cmp x y ≡ Less → bytes_eq y x ≡ false
bytes_apart x y less = not_both (bytes_eq y x) (λ same. not_less (sym less ∙ ap (slice_cmp nat_cmp x) ((bytes_eq-Decides y x).0 same) ∙ own x))
  where
    not_both : (b : Bool) → (b ≡ true → ⊥) → b ≡ false
    not_both true never = absurd (never refl)
    not_both false never = refl

    not_less : Less ≡ Equal → ⊥
    not_less e = cc

    own : (x : List ℕ) → slice_cmp nat_cmp x x ≡ Equal
    own x = is_equal (slice_cmp nat_cmp x x) (is_eq-slice_cmp x x ∙ (bytes_eq-Decides x x).1 refl)
      where
        is_equal : (o : Ordering) → is_eq o ≡ true → o ≡ Equal
        is_equal Less e = cc
        is_equal Equal e = refl
        is_equal Greater e = cc

-- the first key is none of the others
none_of_others : (k : Vec ℕ) (ks : List (Vec ℕ)) → AllByRecursion (λ y. by_bytes k y ≡ Less) ks → is_listed (contents k) (map contents ks) ≡ false
none_of_others k [] all = refl
none_of_others k (x ∷ xs) all = ap (λ b. b || is_listed (contents k) (map contents xs)) (bytes_apart (contents k) (contents x) all.0) ∙ none_of_others k xs all.1

removed_here : (b : Bool) (l : Bool) → (b ≡ true → l ≡ false) → l ≡ (not b && (b || l))
removed_here true l none = none refl
removed_here false l none = refl

removed_later : (b a l r : Bool) → (b ≡ true → a ≡ false) → r ≡ (not b && l) → (a || r) ≡ (not b && (a || l))
removed_later true a l r apart rest = ap (λ x. x || r) (apart refl) ∙ rest
removed_later false a l r apart rest = ap (λ x. a || x) rest

removed_at : (q : List ℕ) (t : Bool) (x : Vec ℕ) (xs rest : List (Vec ℕ)) (n : List ℕ) → bytes_eq q (contents x) ≡ t → AllByRecursion (λ y. by_bytes x y ≡ Less) xs → is_listed n (map contents rest) ≡ (not (bytes_eq q n) && is_listed n (map contents xs)) → is_listed n (map contents (cond t xs (x ∷ rest))) ≡ (not (bytes_eq q n) && is_listed n (map contents (x ∷ xs)))
removed_at q true x xs rest n is above others =
    let same : q ≡ contents x = (bytes_eq-Decides q (contents x)).0 is in
    removed_here (bytes_eq q n) (is_listed n (map contents xs)) (λ at. ap (λ m. is_listed m (map contents xs)) (sym ((bytes_eq-Decides q n).0 at) ∙ same) ∙ none_of_others x xs above)
    ∙ ap (λ m. not (bytes_eq q n) && (bytes_eq m n || is_listed n (map contents xs))) same
removed_at q false x xs rest n is above others =
    removed_later (bytes_eq q n) (bytes_eq (contents x) n) (is_listed n (map contents xs)) (is_listed n (map contents rest))
    (λ at. nat_list_eq_equiv.symm (contents x) n ∙ ap (λ m. bytes_eq m (contents x)) (sym ((bytes_eq-Decides q n).0 at)) ∙ is)
    others

pub listed_remove : (q : List ℕ) (ks : List (Vec ℕ)) (n : List ℕ) → IsStrictlySortedBy by_bytes ks → is_listed n (map contents (remove_key (is_at (λ k. slice_cmp nat_cmp q (contents k))) ks)) ≡ (not (bytes_eq q n) && is_listed n (map contents ks))
unfolding IsStrictlySortedBy
listed_remove q [] n sorted = sym (and_none (not (bytes_eq q n)))
  where
    and_none : (b : Bool) → (b && false) ≡ false
    and_none true = refl
    and_none false = refl
listed_remove q (x ∷ xs) n sorted = removed_at q (is_eq (slice_cmp nat_cmp q (contents x))) x xs (remove_key (is_at (λ k. slice_cmp nat_cmp q (contents k))) xs) n (sym (is_eq-slice_cmp q (contents x))) sorted.0 (listed_remove q xs n sorted.1)

names_without : (t : Bool) (x : Vec ℕ) (xs rest : List (Vec ℕ)) → list_all is_name (map contents (x ∷ xs)) ≡ true → list_all is_name (map contents rest) ≡ true → list_all is_name (map contents (cond t xs (x ∷ rest))) ≡ true
names_without true x xs rest all others = and_second (is_name (contents x)) (list_all is_name (map contents xs)) all
names_without false x xs rest all others = and_true _ _ (and_first (is_name (contents x)) (list_all is_name (map contents xs)) all) others

pub names_remove : (test : Vec ℕ → Bool) (ks : List (Vec ℕ)) → list_all is_name (map contents ks) ≡ true → list_all is_name (map contents (remove_key test ks)) ≡ true
names_remove test [] all = refl
names_remove test (x ∷ xs) all = names_without (test x) x xs (remove_key test xs) all (names_remove test xs (and_second (is_name (contents x)) (list_all is_name (map contents xs)) all))

-- ---- changes

step_at : (steps : List Step) (i : ℕ) (x : Step) (n : List ℕ) → i < length steps → x ≡ get_or steps i x → after_steps (take (i + 1) steps) no_files n ≡ after_step x (after_steps (take i steps) no_files) n
step_at steps i x n below here = ap (λ l. after_steps l no_files n) (take_more steps i x below ∙ ap (λ y. take i steps ++ y ∷ []) (sym here)) ∙ ap (λ f. f n) (after_steps-append (take i steps) (x ∷ []) no_files)

last_at : (steps : List Step) (m : ℕ) (x : Step) (n : List ℕ) → 0 < m → m ≤ length steps → x ≡ get_or steps (m - 1) x → after_steps (take m steps) no_files n ≡ after_step x (after_steps (take (m - 1) steps) no_files) n
last_at steps m x n some within here =
    let whole : m ≡ m - 1 + 1 = omega arith in
    ap (λ k. after_steps (take k steps) no_files n) whole ∙ step_at steps (m - 1) x n (omega arith) here

at : (b : Bool) (x y : Option (List ℕ)) → (b && true) ≡ true → cond b x y ≡ x
at true x y is = refl
at false x y is = cc

past : (b : Bool) (x y : Option (List ℕ)) → (b && true) ≡ false → cond b x y ≡ y
past true x y is = cc
past false x y is = refl

-- what a change says of a name that it decides
decided : (o : Outcome) (name n : List ℕ) (f : Files) → (bytes_eq name n && changes_files o) ≡ true → after_outcome o name f n ≡ bytes_left o
decided (Written bytes) name n f is = at (bytes_eq name n) (Some (contents bytes)) (f n) is
decided (HalfWritten left) name n f is = at (bytes_eq name n) (option_map contents left) (f n) is
decided Removed name n f is = at (bytes_eq name n) None (f n) is
decided (HalfRemoved true) name n f is = at (bytes_eq name n) None (f n) is
decided (HalfRemoved false) name n f is = never (bytes_eq name n) is
  where
    never : (b : Bool) → (b && false) ≡ true → f n ≡ None
    never true is = cc
    never false is = cc

-- and of another
undecided : (o : Outcome) (name n : List ℕ) (f : Files) → (bytes_eq name n && changes_files o) ≡ false → after_outcome o name f n ≡ f n
undecided (Written bytes) name n f is = past (bytes_eq name n) (Some (contents bytes)) (f n) is
undecided (HalfWritten left) name n f is = past (bytes_eq name n) (option_map contents left) (f n) is
undecided Removed name n f is = past (bytes_eq name n) None (f n) is
undecided (HalfRemoved true) name n f is = past (bytes_eq name n) None (f n) is
undecided (HalfRemoved false) name n f is = refl

-- the last of the first m changes decides
pub found_at : (steps : List Step) (m : ℕ) (x : Step) (n : List ℕ) → 0 < m → m ≤ length steps → x ≡ get_or steps (m - 1) x → decides x n ≡ true → bytes_left x.outcome ≡ after_steps (take m steps) no_files n
found_at steps m x n some within here is = sym (last_at steps m x n some within here ∙ decided x.outcome x.name n (after_steps (take (m - 1) steps) no_files) is)

-- it does not
pub passed_at : (steps : List Step) (m : ℕ) (x : Step) (n : List ℕ) → 0 < m → m ≤ length steps → x ≡ get_or steps (m - 1) x → decides x n ≡ false → after_steps (take (m - 1) steps) no_files n ≡ after_steps (take m steps) no_files n
passed_at steps m x n some within here is = sym (last_at steps m x n some within here ∙ undecided x.outcome x.name n (after_steps (take (m - 1) steps) no_files) is)

-- the change at i takes the names so far to the next
pub next_present : (steps : List Step) (i : ℕ) (x : Step) (texts : List (List ℕ)) → i < length steps → x ≡ get_or steps i x → Lists (Some (after_step x (after_steps (take i steps) no_files))) texts → Lists (Some (after_steps (take (i + 1) steps) no_files)) texts
next_present steps i x texts below here lists = λ n. lists n ∙ ap is_some (sym (step_at steps i x n below here))

-- a name that is put
pub put_present : (b l : Bool) (x : List ℕ) (y : Option (List ℕ)) → l ≡ is_some y → (b || l) ≡ is_some (cond b (Some x) y)
put_present true l x y is = refl
put_present false l x y is = is

-- a name that is taken away
pub take_present : (b l : Bool) (y : Option (List ℕ)) → l ≡ is_some y → (not b && l) ≡ is_some (cond b None y)
take_present true l y is = refl
take_present false l y is = is

-- the bytes behind what `as_ref` gives
pub shown : (r : Option (Bor (Vec ℕ))) (o : Option (Vec ℕ)) → option_copied r ≡ o → option_map (λ v. contents v.now) r ≡ option_map contents o
shown None o same = ap (option_map contents) same
shown (Some v) o same = ap (option_map contents) same
