-- Names that come to a set, and what it then holds.
use Rattle.std.proofs.Common.{◌≡◌, ℕ, Bool, true, false, ◌||◌, List, [], ◌∷◌, ◌++◌, refl, sym, ap, ◌∙◌}
use Rattle.std.specs.declared.cmp.Ordering.{Ordering}
use Rattle.std.specs.declared.cmp.Ordering.TheVariants.{Less, Equal, Greater}
use Rattle.std.specs.Ordering.{nat_cmp, is_eq, match_ordering}
use Rattle.std.specs.Cmp.Lexicographic.{slice_cmp}
use Rattle.std.specs.List.{list_any}
use Rattle.std.specs.Str.{bytes_eq}
use Rattle.std.specs.BTreeSet.{insert_key}
use Rattle.std.specs.BTreeMap.{is_at}
use Rattle.std.proofs.lemmas.Cmp.{nat_list_eq_equiv}
use Rattle.std.proofs.lemmas.List.Folds.{list_any-append}
use Rattle.std.proofs.lemmas.Map.Text.{is_eq-slice_cmp}
use Rattle.store_io.specs.Listing.{is_listed}
use Rattle.store_io.proofs.Presence.{equal_texts, or_twice, or_swap}
use Rattle.store_tidy.specs.Sets.{HoldSame, Gains}

or_join : (a b r : Bool) → (b || (a || r)) ≡ ((a || b) || r)
or_join true true r = refl
or_join true false r = refl
or_join false true r = refl
or_join false false r = refl

or_assoc : (a b r : Bool) → (a || (b || r)) ≡ ((a || b) || r)
or_assoc true b r = refl
or_assoc false b r = refl

or_none : (a r : Bool) → (a || r) ≡ ((a || false) || r)
or_none true r = refl
or_none false r = refl

listed_at : (o : Ordering) (k x : List ℕ) (xs inserted : List (List ℕ)) (n : List ℕ) → slice_cmp nat_cmp k x ≡ o → is_listed n inserted ≡ (bytes_eq k n || is_listed n xs) → is_listed n (match_ordering o (k ∷ x ∷ xs) (x ∷ xs) (x ∷ inserted)) ≡ (bytes_eq k n || is_listed n (x ∷ xs))
listed_at Less k x xs inserted n is rest = refl
listed_at Equal k x xs inserted n is rest = or_twice (bytes_eq x n) (is_listed n xs) ∙ ap (λ t. bytes_eq t n || is_listed n (x ∷ xs)) (sym (equal_texts k x is))
listed_at Greater k x xs inserted n is rest = ap (λ r. bytes_eq x n || r) rest ∙ or_swap (bytes_eq x n) (bytes_eq k n) (is_listed n xs)

listed_insert : (k : List ℕ) (ks : List (List ℕ)) (n : List ℕ) → is_listed n (insert_key (slice_cmp nat_cmp) ks k) ≡ (bytes_eq k n || is_listed n ks)
listed_insert k [] n = refl
listed_insert k (x ∷ xs) n = listed_at (slice_cmp nat_cmp k x) k x xs (insert_key (slice_cmp nat_cmp) xs k) n refl (listed_insert k xs n)

-- a name more
pub gains_one : (k : List ℕ) (ks : List (List ℕ)) → Gains (k ∷ []) ks (insert_key (slice_cmp nat_cmp) ks k)
gains_one k ks = λ n. listed_insert k ks n ∙ or_none (bytes_eq k n) (is_listed n ks)

-- names, and others that are listed before them
pub gains_before : (old mid new a b : List (List ℕ)) → Gains b old mid → Gains a mid new → Gains (a ++ b) old new
gains_before old mid new a b one two = λ n.
    two n ∙ ap (λ r. is_listed n a || r) (one n) ∙ or_assoc (is_listed n a) (is_listed n b) (is_listed n old)
    ∙ ap (λ l. l || is_listed n old) (sym (list_any-append (λ m. bytes_eq m n) a b))

-- a name more, listed first
pub gains_first : (old mid new a : List (List ℕ)) (k : List ℕ) → Gains a old mid → Gains (k ∷ []) mid new → Gains (k ∷ a) old new
gains_first old mid new a k one two = gains_before old mid new (k ∷ []) a one two

-- names, and others that are listed behind them
pub gains_behind : (old mid new a b : List (List ℕ)) → Gains a old mid → Gains b mid new → Gains (a ++ b) old new
gains_behind old mid new a b one two = λ n.
    two n ∙ ap (λ r. is_listed n b || r) (one n) ∙ or_join (is_listed n a) (is_listed n b) (is_listed n old)
    ∙ ap (λ l. l || is_listed n old) (sym (list_any-append (λ m. bytes_eq m n) a b))

-- no names
pub gains_none : (old : List (List ℕ)) → Gains [] old old
gains_none old = λ n. refl

-- all that a set holds that began empty
pub gains_all : (names old new : List (List ℕ)) → old ≡ [] → Gains names old new → HoldSame new names
gains_all names old new none gains = λ n. gains n ∙ ap (λ l. is_listed n names || is_listed n l) none ∙ or_false (is_listed n names)
  where
    or_false : (b : Bool) → (b || false) ≡ b
    or_false true = refl
    or_false false = refl

-- the search of a set
pub contains_listed : (n : List ℕ) (ks : List (List ℕ)) → list_any (is_at (slice_cmp nat_cmp n)) ks ≡ is_listed n ks
contains_listed n [] = refl
contains_listed n (x ∷ xs) = ap (λ b. b || list_any (is_at (slice_cmp nat_cmp n)) xs) (is_eq-slice_cmp n x ∙ nat_list_eq_equiv.symm n x) ∙ ap (λ r. bytes_eq x n || r) (contains_listed n xs)
