-- A table with one more sample.
use Rattle.std.proofs.Common.{◌≡◌, ℕ, ◌+◌, ◌<◌, ◌≤◌, Bool, true, false, cond, if◌then◌else◌, List, [], ◌∷◌, ◌++◌, map, length, refl, ap, sym, ◌∙◌, arith, Option, Some, None, ⊎_elim}
use Rattle.std.specs.Prelude.{unwrap_or}
use Rattle.std.specs.List.{All, AllByRecursion, count_by, sum_by}
use Rattle.std.specs.List.Sorted.{IsPermutation}
use Rattle.std.specs.Map.{lookup, set_value}
use Rattle.std.specs.HashMap.{HashMap, PutsEntry}
use Rattle.std.proofs.lemmas.Bool.{cases_Bool}
use Rattle.std.proofs.lemmas.List.Elements.{All-from_recursion, recursion_from_All, All-cons}
use Rattle.std.proofs.lemmas.List.Sorted.{All-permutation, IsPermutation-map, sum_by-IsPermutation}
use Rattle.trace_model.specs.Counting.{Row, Spot, same_spot}
use Rattle.direct_counts.specs.declared.sites.Site.{Site}
use Rattle.direct_counts.specs.Sites.{AreRanked, CountsOne, IsRanked, Tallies, counted_at, row_shown, rows_in, spot_shown, total_at}
use Rattle.direct_counts.proofs.Order.{same_equal}
use Rattle.direct_counts.proofs.Rows.{count_push, sum_first}
use Rattle.direct_counts.proofs.Sorting.{eq_spots, site_eq}

-- what is said of each entry, by recursion
abbrev pub AreGood : List (List ℕ) → List (Site × ℕ) → Type 0
AreGood names es = AllByRecursion (λ (e : Site × ℕ). IsRanked names e.0 × (0 < e.1)) es

some_more : {m n : ℕ} → Some m ≡ Some n → m ≡ n
some_more h = cc

found_here : {b : Bool} (m n : ℕ) (o : Option ℕ) → b ≡ true → cond b (Some m) o ≡ Some n → m ≡ n
found_here m n o is h = some_more (rw is at h)

found_there : {b : Bool} (m n : ℕ) (o : Option ℕ) → b ≡ false → cond b (Some m) o ≡ Some n → o ≡ Some n
found_there m n o is h = rw is at h

same_here : (names : List (List ℕ)) (k : Site) (e : Site × ℕ) → IsRanked names k → IsRanked names e.0 → site_eq k e.0 ≡ true → spot_shown names k ≡ spot_shown names e.0
same_here names k e g h is = same_equal (spot_shown names k) (spot_shown names e.0) (sym (eq_spots names k e.0 g h) ∙ is)

raised : (b : Bool) (m n t u l : ℕ) → m ≡ n → t ≡ cond b m 0 + l → u ≡ cond b (n + 1) 0 + l → u ≡ t + cond b 1 0
raised true m n t u l is h k = omega arith
raised false m n t u l is h k = omega arith

kept : (a t u l m x : ℕ) → t ≡ a + l → u ≡ a + m → m ≡ l + x → u ≡ t + x
kept a t u l m x h k p = omega arith

-- a count that was found is raised
pub total_set : (names : List (List ℕ)) (q : Spot) (k : Site) (n : ℕ) (es : List (Site × ℕ)) → IsRanked names k → AreGood names es → lookup (site_eq k) es ≡ Some n
    → total_at q (rows_in names (set_value (site_eq k) es (n + 1))) ≡ total_at q (rows_in names es) + cond (same_spot q (spot_shown names k)) 1 0
total_set names q k n [] g h found = cc
total_set names q k n (e ∷ es) g h found = ⊎_elim
    (λ is. rw is (raised (same_spot q (spot_shown names k)) e.1 n (total_at q (rows_in names (e ∷ es))) (total_at q (row_shown names (e.0, n + 1) ∷ rows_in names es)) (total_at q (rows_in names es))
    (found_here e.1 n (lookup (site_eq k) es) is found)
    (sum_first (counted_at q) (row_shown names e) (rows_in names es) ∙ ap (λ (s : Spot). cond (same_spot q s) e.1 0 + total_at q (rows_in names es)) (sym (same_here names k e g h.0.0 is)))
    (sum_first (counted_at q) (row_shown names (e.0, n + 1)) (rows_in names es) ∙ ap (λ (s : Spot). cond (same_spot q s) (n + 1) 0 + total_at q (rows_in names es)) (sym (same_here names k e g h.0.0 is)))))
    (λ is. rw is (kept (counted_at q (row_shown names e)) (total_at q (rows_in names (e ∷ es))) (total_at q (row_shown names e ∷ rows_in names (set_value (site_eq k) es (n + 1)))) (total_at q (rows_in names es)) (total_at q (rows_in names (set_value (site_eq k) es (n + 1)))) (cond (same_spot q (spot_shown names k)) 1 0)
    (sum_first (counted_at q) (row_shown names e) (rows_in names es))
    (sum_first (counted_at q) (row_shown names e) (rows_in names (set_value (site_eq k) es (n + 1))))
    (total_set names q k n es g h.1 (found_there e.1 n (lookup (site_eq k) es) is found))))
    (cases_Bool (site_eq k e.0))

pub good_set : (names : List (List ℕ)) (k : Site) (n : ℕ) (es : List (Site × ℕ)) → AreGood names es → AreGood names (set_value (site_eq k) es (n + 1))
good_set names k n [] h = tt
good_set names k n (e ∷ es) h = ⊎_elim
    (λ is. rw is ((h.0.0, omega arith), h.1))
    (λ is. rw is (h.0, good_set names k n es h.1))
    (cases_Bool (site_eq k e.0))

most_here : (b : Bool) (m n t l : ℕ) → m ≡ n → b ≡ true → t ≡ cond b m 0 + l → n ≤ t
most_here true m n t l is h k = omega arith
most_here false m n t l is h k = cc

-- a count is at most the total at its site
pub lookup_most : (names : List (List ℕ)) (k : Site) (n : ℕ) (es : List (Site × ℕ)) → IsRanked names k → AreGood names es → lookup (site_eq k) es ≡ Some n → n ≤ total_at (spot_shown names k) (rows_in names es)
lookup_most names k n [] g h found = cc
lookup_most names k n (e ∷ es) g h found = ⊎_elim
    (λ is. most_here (same_spot (spot_shown names k) (spot_shown names e.0)) e.1 n (total_at (spot_shown names k) (rows_in names (e ∷ es))) (total_at (spot_shown names k) (rows_in names es))
    (found_here e.1 n (lookup (site_eq k) es) is found) (sym (eq_spots names k e.0 g h.0.0) ∙ is) (sum_first (counted_at (spot_shown names k)) (row_shown names e) (rows_in names es)))
    (λ is. omega (arith, sum_first (counted_at (spot_shown names k)) (row_shown names e) (rows_in names es), lookup_most names k n es g h.1 (found_there e.1 n (lookup (site_eq k) es) is found)))
    (cases_Bool (site_eq k e.0))

pub good_of : (names : List (List ℕ)) (es : List (Site × ℕ)) (done : List Spot) → Tallies names es done → AreGood names es
good_of names es done t = recursion_from_All (λ (e : Site × ℕ). IsRanked names e.0 × (0 < e.1)) es (λ i d h. (t.ranked i d h, t.some i d h))

tallies_of : (names : List (List ℕ)) (es : List (Site × ℕ)) (done : List Spot) → AreGood names es → ((q : Spot) → total_at q (rows_in names es) ≡ count_by (same_spot q) done) → Tallies names es done
tallies_of names es done good totals =
    let all = All-from_recursion (λ (e : Site × ℕ). IsRanked names e.0 × (0 < e.1)) es good in
    record { ranked = λ k d h. (all k d h).0; some = λ k d h. (all k d h).1; totals = totals }

-- a table in another order
pub total_moved : (names : List (List ℕ)) (q : Spot) (es fs : List (Site × ℕ)) → IsPermutation es fs → total_at q (rows_in names fs) ≡ total_at q (rows_in names es)
total_moved names q es fs p = sum_by-IsPermutation (counted_at q) (rows_in names es) (rows_in names fs) (IsPermutation-map (row_shown names) es fs p)

pub good_moved : (names : List (List ℕ)) (es fs : List (Site × ℕ)) → IsPermutation es fs → AreGood names es → AreGood names fs
good_moved names es fs p good =
    let P : Site × ℕ → Type 0 = λ e. IsRanked names e.0 × (0 < e.1) in
    recursion_from_All P fs (All-permutation P es fs p (All-from_recursion P es good))

-- one more sample at a site, by what was found there
put_by : {S : Type 0} (names : List (List ℕ)) (k : Site) (m n : HashMap Site ℕ S) (done : List Spot) (o : Option ℕ) → IsRanked names k → lookup (site_eq k) m.entries ≡ o → PutsEntry site_eq m n k (unwrap_or o 0 + 1) o → Tallies names m.entries done → Tallies names n.entries (done ++ spot_shown names k ∷ [])
put_by names k m n done None ranked is p t =
    tallies_of names n.entries (done ++ spot_shown names k ∷ []) (good_moved names ((k, 1) ∷ m.entries) n.entries p ((ranked, omega arith), good_of names m.entries done t))
    (λ q. omega (arith, total_moved names q ((k, 1) ∷ m.entries) n.entries p, sum_first (counted_at q) (row_shown names (k, 1)) (rows_in names m.entries), t.totals q, count_push (same_spot q) done (spot_shown names k)))
put_by names k m n done (Some old) ranked is p t =
    tallies_of names n.entries (done ++ spot_shown names k ∷ []) (rw p (good_set names k old m.entries (good_of names m.entries done t)))
    (λ q. rw p (total_set names q k old m.entries ranked (good_of names m.entries done t) is ∙ (ap (λ i. i + cond (same_spot q (spot_shown names k)) 1 0) (t.totals q) ∙ sym (count_push (same_spot q) done (spot_shown names k)))))

pub put_tallies : {S : Type 0} (names : List (List ℕ)) (k : Site) (m n : HashMap Site ℕ S) (done : List Spot) → IsRanked names k → CountsOne site_eq m n k → Tallies names m.entries done → Tallies names n.entries (done ++ spot_shown names k ∷ [])
put_tallies names k m n done ranked puts t = put_by names k m n done (lookup (site_eq k) m.entries) ranked refl puts t
