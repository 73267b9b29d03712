-- What one count more changes in the entries of an ordered map, for any order of keys.
use Rattle.std.proofs.Common.{arith, ◌≡◌, ℕ, ◌+◌, ◌<◌, ◌≤◌, Bool, true, false, cond, List, [], ◌∷◌, None, Some, Option, refl, sym, ap, ◌∙◌}
use Rattle.std.specs.Prelude.{unwrap_or, sum_by}
use Rattle.std.specs.List.{AllByRecursion}
use Rattle.std.specs.List.Sorted.{IsStrictlySortedBy}
use Rattle.std.specs.declared.cmp.Ordering.{Ordering}
use Rattle.std.specs.declared.cmp.Ordering.TheVariants.{Less, Equal, Greater}
use Rattle.std.specs.Cmp.{IsTotalOrder}
use Rattle.std.specs.Map.{keys_of, lookup}
use Rattle.std.specs.BTreeMap.{insert_entry, is_at}
use Rattle.std.proofs.lemmas.List.Sums.{sum_by-cons}
use Rattle.std.proofs.lemmas.Map.{lookup-none}
use Rattle.std.proofs.lemmas.Map.Entries.{none_below_head}
use Rattle.std.proofs.lemmas.Map.Keys.{sorted_tail}

-- what an entry counts, if its key passes a test
abbrev pub if_passes : {K : Type 0} → (K → Bool) → K × ℕ → ℕ
if_passes test e = cond (test e.0) e.1 0

abbrev pub passing : {K : Type 0} → (K → Bool) → List (K × ℕ) → ℕ
passing test es = sum_by (if_passes test) es

-- the count of a key, with more
abbrev pub with_more : {K : Type 0} → (K → Ordering) → ℕ → List (K × ℕ) → ℕ
with_more at n es = unwrap_or (lookup (is_at at) es) 0 + n

new_count : (t : Bool) (v n s h : ℕ) → v ≡ 0 + n → h ≡ cond t v 0 + s → h ≡ s + cond t n 0
new_count true v n s h p q = omega arith
new_count false v n s h p q = omega arith

raised : (t u : Bool) (v m n s h g : ℕ) → t ≡ u → v ≡ m + n → h ≡ cond t v 0 + s → g ≡ cond t m 0 + s → h ≡ g + cond u n 0
raised true true v m n s h g e p q r = omega arith
raised false false v m n s h g e p q r = omega arith
raised true false v m n s h g e p q r = cc
raised false true v m n s h g e p q r = cc

kept : (a h g l m x : ℕ) → h ≡ a + m → g ≡ a + l → m ≡ l + x → h ≡ g + x
kept a h g l m x p q r = omega arith

module _ {K : Type 0} {R : K → K → Ordering} (o : IsTotalOrder R) (test : K → Bool) (ties : (a b : K) → R a b ≡ Equal → test a ≡ test b) where
  by_order : (k : K) (n v : ℕ) (e : K × ℕ) (es : List (K × ℕ)) (r : Ordering) → R k e.0 ≡ r → IsStrictlySortedBy R (keys_of (e ∷ es)) → v ≡ with_more (R k) n (e ∷ es)
      → (v ≡ with_more (R k) n es → passing test (insert_entry R es k v) ≡ passing test es + cond (test k) n 0)
      → passing test (insert_entry R (e ∷ es) k v) ≡ passing test (e ∷ es) + cond (test k) n 0
  by_order k n v e es Less is sorted value others =
      let none : lookup (is_at (R k)) (e ∷ es) ≡ None = lookup-none (is_at (R k)) (e ∷ es) (none_below_head o k e es sorted is) in
      let new : v ≡ 0 + n = value ∙ ap (λ found. unwrap_or found 0 + n) none in
      let counted : passing test ((k, v) ∷ e ∷ es) ≡ passing test (e ∷ es) + cond (test k) n 0 = new_count (test k) v n (passing test (e ∷ es)) (passing test ((k, v) ∷ e ∷ es)) new (sum_by-cons (if_passes test) (k, v) (e ∷ es)) in
      rw is counted
  by_order k n v e es Equal is sorted value others =
      let found : lookup (is_at (R k)) (e ∷ es) ≡ Some e.1 = rw is refl in
      let new : v ≡ e.1 + n = value ∙ ap (λ o'. unwrap_or o' 0 + n) found in
      let counted : passing test ((e.0, v) ∷ es) ≡ passing test (e ∷ es) + cond (test k) n 0 = raised (test e.0) (test k) v e.1 n (passing test es) (passing test ((e.0, v) ∷ es)) (passing test (e ∷ es)) (sym (ties k e.0 is)) new (sum_by-cons (if_passes test) (e.0, v) es) (sum_by-cons (if_passes test) e es) in
      rw is counted
  by_order k n v e es Greater is sorted value others =
      let found : lookup (is_at (R k)) (e ∷ es) ≡ lookup (is_at (R k)) es = rw is refl in
      let rest = others (value ∙ ap (λ o'. unwrap_or o' 0 + n) found) in
      let counted : passing test (e ∷ insert_entry R es k v) ≡ passing test (e ∷ es) + cond (test k) n 0 = kept (if_passes test e) (passing test (e ∷ insert_entry R es k v)) (passing test (e ∷ es)) (passing test es) (passing test (insert_entry R es k v)) (cond (test k) n 0)
      (sum_by-cons (if_passes test) e (insert_entry R es k v)) (sum_by-cons (if_passes test) e es) rest in
      rw is counted

  -- one entry more, or one that counts more
  pub passing_more : (k : K) (n v : ℕ) (es : List (K × ℕ)) → IsStrictlySortedBy R (keys_of es) → v ≡ with_more (R k) n es → passing test (insert_entry R es k v) ≡ passing test es + cond (test k) n 0
  passing_more k n v [] sorted value = new_count (test k) v n 0 (passing test ((k, v) ∷ [])) value (sum_by-cons (if_passes test) (k, v) [])
  passing_more k n v (e ∷ es) sorted value = by_order k n v e es (R k e.0) refl sorted value (passing_more k n v es (sorted_tail R e.0 (keys_of es) sorted))

-- what holds of each entry, where a count above 0 is put
abbrev pub AreGood : {K : Type 0} → (K → Type 0) → List (K × ℕ) → Type 0
AreGood {K} P es = AllByRecursion (λ (e : K × ℕ). (0 < e.1) × P e.0) es

good_by_order : {K : Type 0} (R : K → K → Ordering) (P : K → Type 0) (k : K) (v : ℕ) (e : K × ℕ) (es : List (K × ℕ)) (r : Ordering) → R k e.0 ≡ r → 0 < v → P k → AreGood P (e ∷ es) → AreGood P (insert_entry R es k v) → AreGood P (insert_entry R (e ∷ es) k v)
good_by_order R P k v e es Less is some one all others = rw is ((some, one), all)
good_by_order R P k v e es Equal is some one all others = rw is ((some, all.0.1), all.1)
good_by_order R P k v e es Greater is some one all others = rw is (all.0, others)

pub good_more : {K : Type 0} (R : K → K → Ordering) (P : K → Type 0) (k : K) (v : ℕ) (es : List (K × ℕ)) → 0 < v → P k → AreGood P es → AreGood P (insert_entry R es k v)
good_more R P k v [] some one all = ((some, one), tt)
good_more R P k v (e ∷ es) some one all = good_by_order R P k v e es (R k e.0) refl some one all (good_more R P k v es some one all.1)

found_within : (b : Bool) (v m s h : ℕ) (found : Option ℕ) → unwrap_or found 0 ≤ s → h ≡ v + s → unwrap_or (cond b (Some v) found) 0 ≤ h
found_within true v m s h found below is = omega arith
found_within false v m s h found below is = omega arith

-- a count is at most the sum of all
pub found_most : {K : Type 0} (at : K → Bool) (es : List (K × ℕ)) → unwrap_or (lookup at es) 0 ≤ passing (λ _. true) es
found_most at [] = omega arith
found_most at (e ∷ es) = found_within (at e.0) e.1 0 (passing (λ _. true) es) (passing (λ _. true) (e ∷ es)) (lookup at es) (found_most at es) (sum_by-cons (if_passes (λ _. true)) e es)
