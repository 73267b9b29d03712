-- Ranks of names: what a halving over sorted names finds, and one rank after the other.
use Rattle.std.proofs.Common.{◌≡◌, ℕ, suc, zero, ◌+◌, ◌<◌, ◌≤◌, Bool, true, false, List, [], ◌∷◌, ◌++◌, length, drop, get_or, refl, ap, sym, ◌∙◌, arith, ⊎_elim}
use Rattle.std.specs.Prelude.{slice_index}
use Rattle.std.specs.declared.cmp.Ordering.TheVariants.{Less, Equal, Greater}
use Rattle.std.specs.Ordering.{is_eq, is_lt, nat_cmp, ordering_reverse}
use Rattle.std.specs.Cmp.Lexicographic.{slice_cmp}
use Rattle.std.specs.List.{Contains}
use Rattle.std.specs.List.Sorted.{IsPartitionedBy, IsPartitionPoint}
use Rattle.std.proofs.lemmas.Bool.{cases_lt}
use Rattle.std.proofs.lemmas.Cmp.{nat_list_cmp_total, tied_itself}
use Rattle.std.proofs.lemmas.List.MinMax.{ranks_by}
use Rattle.std.proofs.lemmas.List.Sorted.{sorted_far}
use Rattle.std.proofs.lemmas.Map.Text.{is_eq-slice_cmp}
use Rattle.std.proofs.lemmas.Option.{unwrap_or-slice_get}
use Rattle.std.proofs.lemmas.Slice.Eq.{bytes_eq-Decides}
use Rattle.trace_model.specs.Recording.{name_at}
use Rattle.direct_counts.specs.Ranks.{AreRanks, AreSorted, IsRank}
use Rattle.direct_counts.proofs.Order.{by_ordering}

equal_names : (a b : List ℕ) → slice_cmp nat_cmp a b ≡ Equal → a ≡ b
equal_names a b h = (bytes_eq-Decides a b).0 (sym (is_eq-slice_cmp a b) ∙ ap is_eq h)

turned : (a b : List ℕ) → slice_cmp nat_cmp a b ≡ Greater → slice_cmp nat_cmp b a ≡ Less
turned a b h = nat_list_cmp_total.antisymm b a ∙ ap ordering_reverse h

not_less : (a b : List ℕ) → slice_cmp nat_cmp a b ≡ Less → is_lt (slice_cmp nat_cmp a b) ≡ false → ⊥
not_less a b h k = let is : true ≡ false = sym (ap is_lt h) ∙ k in cc

less_is : (a b : List ℕ) → is_lt (slice_cmp nat_cmp a b) ≡ true → slice_cmp nat_cmp a b ≡ Less
less_is a b h = by_ordering (slice_cmp nat_cmp a b) (λ k. k) (λ k. absurd (wrong Equal k refl)) (λ k. absurd (wrong Greater k refl))
  where
    wrong : (o : _) → slice_cmp nat_cmp a b ≡ o → is_lt o ≡ false → ⊥
    wrong o k f = let is : true ≡ false = sym h ∙ (ap is_lt k ∙ f) in cc

far : (names : List (List ℕ)) → AreSorted names → (i j : ℕ) (d : List ℕ) → i ≤ j → j < length names → is_lt (slice_cmp nat_cmp (get_or names j d) (get_or names i d)) ≡ false
far names sorted i j d h k = sorted_far (λ a b. is_lt (slice_cmp nat_cmp a b)) (ranks_by nat_list_cmp_total (λ name. name)) names sorted i j d h k

below_too : (a b name : List ℕ) → is_lt (slice_cmp nat_cmp b a) ≡ false → is_lt (slice_cmp nat_cmp b name) ≡ true → is_lt (slice_cmp nat_cmp a name) ≡ true
below_too a b name h k = by_ordering (slice_cmp nat_cmp a b)
    (λ less. ap is_lt (nat_list_cmp_total.trans a b name less (less_is b name k)))
    (λ equal. rw (equal_names a b equal) k)
    (λ greater. absurd (not_less b a (turned a b greater) h))

-- names smaller than one stand before the others
pub names_part : (names : List (List ℕ)) (name : List ℕ) → AreSorted names → IsPartitionedBy (λ other. is_lt (slice_cmp nat_cmp other name)) names
names_part names name sorted i j d h k less = below_too (get_or names i d) (get_or names j d) name (far names sorted i j d h k) less

pub at_name : (names : List (List ℕ)) (i : ℕ) → name_at names i ≡ get_or names i []
at_name names i = unwrap_or-slice_get names i []

pub any_default : {X : Type 0} (xs : List X) (i : ℕ) (d e : X) → i < length xs → get_or xs i d ≡ get_or xs i e
any_default [] i d e h = absurd (omega arith)
any_default (x ∷ xs) zero d e h = refl
any_default (x ∷ xs) (suc i) d e h = any_default xs i d e (omega arith)

-- the item at an index, and what is behind it
pub drop_item : {X : Type 0} (xs : List X) (i : ℕ) (x : X) → i < length xs → x ≡ get_or xs i x → drop i xs ≡ x ∷ drop (i + 1) xs
drop_item [] i x h is = absurd (omega arith)
drop_item (y ∷ xs) zero x h is = ap (λ z. z ∷ xs) (sym is)
drop_item (y ∷ xs) (suc i) x h is = let step : suc (i + 1) ≡ suc i + 1 = omega arith in drop_item xs i x (omega arith) is ∙ ap (λ n. x ∷ drop n (y ∷ xs)) step

pub record Found (names : List (List ℕ)) (name : List ℕ) (n : ℕ) : Type 0 where
  pub rank : IsRank names n
  pub named : name_at names n ≡ name

found_at : (names : List (List ℕ)) (name : List ℕ) (n m : ℕ) → AreSorted names → m < length names → get_or names m [] ≡ name → n ≤ m
    → IsPartitionPoint (λ other. is_lt (slice_cmp nat_cmp other name) ≡ true) (λ other. is_lt (slice_cmp nat_cmp other name) ≡ false) names n → Found names name n
found_at names name n m sorted h is below point =
    let not_before : is_lt (slice_cmp nat_cmp (get_or names n []) name) ≡ false = point.1 n [] (omega arith) (omega arith) in
    let not_behind : is_lt (slice_cmp nat_cmp name (get_or names n [])) ≡ false = rw (← is) (far names sorted n m [] below h) in
    let here : get_or names n [] ≡ name = by_ordering (slice_cmp nat_cmp (get_or names n []) name)
    (λ less. absurd (not_less (get_or names n []) name less not_before))
    (λ equal. equal_names (get_or names n []) name equal)
    (λ greater. absurd (not_less name (get_or names n []) (turned (get_or names n []) name greater) not_behind)) in
    record {
      rank = record {
        within = omega arith;
        smaller = λ before less. rw (at_name names before, at_name names n, here) (less_is (get_or names before []) name (point.0 before [] (omega arith) less));
      };
      named = at_name names n ∙ here;
    }

not_past : (names : List (List ℕ)) (name : List ℕ) (n m : ℕ) → get_or names m [] ≡ name → m < n
    → IsPartitionPoint (λ other. is_lt (slice_cmp nat_cmp other name) ≡ true) (λ other. is_lt (slice_cmp nat_cmp other name) ≡ false) names n → ⊥
not_past names name n m is less point =
    let smaller : is_lt (slice_cmp nat_cmp name name) ≡ true = rw is at (point.0 m [] (omega arith) less) in
    let tied : is_lt (slice_cmp nat_cmp name name) ≡ false = ap is_lt (tied_itself nat_list_cmp_total name) in
    let wrong : true ≡ false = sym smaller ∙ tied in
    cc

-- the halving finds the place of a name that is there
pub name_found : (names : List (List ℕ)) (name : List ℕ) (n : ℕ) → AreSorted names → Contains names name
    → IsPartitionPoint (λ other. is_lt (slice_cmp nat_cmp other name) ≡ true) (λ other. is_lt (slice_cmp nat_cmp other name) ≡ false) names n → Found names name n
name_found names name n sorted member point =
    let m = member.0 in
    let is : get_or names m [] ≡ name = any_default names m [] name member.1 ∙ member.2 in
    ⊎_elim
    (λ less. absurd (not_past names name n m is less point))
    (λ past. found_at names name n m sorted member.1 is past point)
    (cases_lt m n)

-- the ranks of the first images
pub record RanksSoFar (images names : List (List ℕ)) (ranks : List ℕ) (n : ℕ) : Type 0 where
  pub many : length ranks ≡ n
  pub rank : (i : ℕ) → i < n → IsRank names (slice_index ranks i)
  pub named : (i : ℕ) → i < n → name_at names (slice_index ranks i) ≡ name_at images i

at_front : (xs : List ℕ) (x i : ℕ) → i < length xs → get_or (xs ++ x ∷ []) i 0 ≡ get_or xs i 0
at_front [] x i h = absurd (omega arith)
at_front (y ∷ xs) x zero h = refl
at_front (y ∷ xs) x (suc i) h = at_front xs x i (omega arith)

at_end : (xs : List ℕ) (x : ℕ) → get_or (xs ++ x ∷ []) (length xs) 0 ≡ x
at_end [] x = refl
at_end (y ∷ xs) x = at_end xs x

longer : (xs : List ℕ) (x : ℕ) → length (xs ++ x ∷ []) ≡ length xs + 1
longer [] x = refl
longer (y ∷ xs) x = omega (arith, longer xs x)

pub one_rank_more : (images names : List (List ℕ)) (ranks : List ℕ) (n r : ℕ) (image : List ℕ) → RanksSoFar images names ranks n → n < length images → IsRank names r → name_at names r ≡ image → image ≡ get_or images n image → RanksSoFar images names (ranks ++ r ∷ []) (n + 1)
one_rank_more images names ranks n r image so_far h rank named is =
    let last : (i : ℕ) → n ≤ i → i < n + 1 → slice_index (ranks ++ r ∷ []) i ≡ r = λ i low high. ap (λ j. get_or (ranks ++ r ∷ []) j 0) (omega (arith, so_far.many)) ∙ at_end ranks r in
    let first : (i : ℕ) → i < n → slice_index (ranks ++ r ∷ []) i ≡ slice_index ranks i = λ i less. at_front ranks r i (omega (arith, so_far.many)) in
    record {
      many = longer ranks r ∙ ap (λ i. i + 1) so_far.many;
      rank = λ i less. ⊎_elim (λ front. rw (first i front) (so_far.rank i front)) (λ end. rw (last i end less) rank) (cases_lt i n);
      named = λ i less. ⊎_elim
          (λ front. ap (name_at names) (first i front) ∙ so_far.named i front)
          (λ end. ap (name_at names) (last i end less) ∙ (named ∙ (is ∙ (any_default images n image [] h ∙ (ap (λ j. get_or images j []) (omega arith) ∙ sym (at_name images i))))))
          (cases_lt i n);
    }
