-- A sorted table as rows that rise.
use Rattle.std.proofs.Common.{IfOk, Result, Ok, Err, ◌≡◌, ℕ, suc, zero, ◌+◌, ◌<◌, ◌≤◌, Bool, true, false, List, [], ◌∷◌, ◌++◌, map, length, get_or, refl, ap, sym, subst, ◌∙◌, arith}
use Rattle.std.specs.declared.cmp.Ordering.{Ordering}
use Rattle.std.specs.declared.cmp.Ordering.TheVariants.{Less, Equal, Greater}
use Rattle.std.specs.Ordering.{is_eq, is_lt, nat_cmp, ordering_then}
use Rattle.std.specs.List.{All, AllByRecursion, IsDistinct}
use Rattle.std.specs.List.Sorted.{IsPermutation}
use Rattle.std.specs.Map.{keys_of}
use Rattle.std.proofs.lemmas.List.{append_assoc, map-append}
use Rattle.std.proofs.lemmas.List.Elements.{recursion_from_All}
use Rattle.std.proofs.lemmas.List.Sorted.{IsPermutation-map}
use Rattle.std.proofs.lemmas.Map.Keys.{IsDistinct-IsPermutation, IsDistinct-head, IsDistinct-tail}
use Rattle.sample_key.specs.declared.events.Event.{Event}
use Rattle.trace_model.specs.declared.count_lists.KnownCount.{KnownCount}
use Rattle.trace_model.specs.declared.count_lists.UnknownCount.{UnknownCount}
use Rattle.trace_model.specs.Counting as counting
use Rattle.trace_model.specs.Recording.{name_at}
use Rattle.direct_counts.specs.declared.sites.Site.TheVariants.{Known}
use Rattle.trace_model.specs.Counting.{AreCountsOf, Row, Rises, known_row, spot_cmp, same_spot, unknown_row}
use Rattle.direct_counts.specs.declared.sites.Site.{Site}
use Rattle.direct_counts.specs.Lists.{AreApart, AreListable, AreSorted, ListsTable, knowns, rows_with, unknowns}
use Rattle.direct_counts.specs.Sites.{AreRanked, IsRanked, row_shown, rows_in, spot_shown}
use Rattle.direct_counts.proofs.Order.{by_ordering, flipped, same_by_cmp}
use Rattle.direct_counts.proofs.Rows.{Leads, rises_from, total_listed}
use Rattle.direct_counts.proofs.Sorting.{by_spots, eq_flips, eq_spots, site_cmp, site_eq}
use Rattle.direct_counts.proofs.Tallying.{AreGood, good_moved, total_moved}

tail_sorted : (e : Site × ℕ) (es : List (Site × ℕ)) → AreSorted (e ∷ es) → AreSorted es
tail_sorted e es h k d low high =
    let Less_at : ℕ → Type 0 = λ i. is_lt (ordering_then (site_cmp (get_or (e ∷ es) i d).0 (get_or es k d).0) (nat_cmp (get_or (e ∷ es) i d).1 (get_or es k d).1)) ≡ false in
    let step : suc k + 1 ≡ suc (k + 1) = omega arith in
    subst Less_at step (h (suc k) d (omega arith) (omega arith))

wrong : {P : Type 0} → true ≡ false → P
wrong h = cc

rises_next : (names : List (List ℕ)) (e f : Site × ℕ) → IsRanked names e.0 → IsRanked names f.0 → is_lt (ordering_then (site_cmp f.0 e.0) (nat_cmp f.1 e.1)) ≡ false → site_eq e.0 f.0 ≡ false → spot_cmp (spot_shown names e.0) (spot_shown names f.0) ≡ Less
rises_next names e f g h sorted apart = by_ordering (spot_cmp (spot_shown names e.0) (spot_shown names f.0))
    (λ k. k)
    (λ k. wrong (sym (ap is_eq k) ∙ (same_by_cmp (spot_shown names e.0) (spot_shown names f.0) ∙ (sym (eq_spots names e.0 f.0 g h) ∙ apart))))
    (λ k. let less : site_cmp f.0 e.0 ≡ Less = by_spots names f.0 e.0 h g ∙ flipped (spot_shown names e.0) (spot_shown names f.0) k in
    wrong (sym (ap (λ (o : Ordering). is_lt (ordering_then o (nat_cmp f.1 e.1))) less) ∙ sorted))

pub rows_rise : (names : List (List ℕ)) (es : List (Site × ℕ)) → AreGood names es → AreApart es → AreSorted es → Rises (rows_in names es)
rows_rise names [] good apart sorted = tt
rows_rise names (e ∷ []) good apart sorted = good.0.1
rows_rise names (e ∷ f ∷ es) good apart sorted = (
  good.0.1,
  rises_next names e f good.0.0 good.1.0.0 (sorted 0 e (omega arith) (omega arith)) (IsDistinct-head site_eq e.0 (keys_of (f ∷ es)) apart).0,
  rows_rise names (f ∷ es) good.1 (IsDistinct-tail site_eq e.0 (keys_of (f ∷ es)) apart) (tail_sorted e (f ∷ es) sorted),
)

-- rows of a sorted table list what the table counts
pub table_listed : (names : List (List ℕ)) (es fs : List (Site × ℕ)) (rows : List Row) → IsPermutation es fs → Rises (rows_in names fs) → rows ≡ rows_in names fs → ListsTable names es rows
table_listed names es fs rows moved rise is spots t = rw is (record {
  rise = rise;
  counts = λ q. sym (total_listed q (rows_in names fs) rise) ∙ (total_moved names q es fs moved ∙ t.totals q);
})

pub ok_then : {T E : Type 0} (P Q : T → Type 0) (r : Result T E) → ((x : T) → P x → Q x) → IfOk r P → IfOk r Q
ok_then P Q (Ok x) f h = f x h
ok_then P Q (Err e) f h = h

-- a table that can be listed, sorted
pub sorted_rise : (names : List (List ℕ)) (es fs : List (Site × ℕ)) → AreListable names es → AreApart es → IsPermutation es fs → AreSorted fs → Rises (rows_in names fs)
sorted_rise names es fs listable apart moved sorted =
    let good = recursion_from_All (λ (e : Site × ℕ). IsRanked names e.0 × (0 < e.1)) es (λ i d h. (listable.0 i d h, listable.1 i d h)) in
    rows_rise names fs (good_moved names es fs moved good) (IsDistinct-IsPermutation site_eq eq_flips (keys_of es) (keys_of fs) (IsPermutation-map (λ (e : Site × ℕ). e.0) es fs moved) apart) sorted

-- a known row goes to the end of its list
pub move_known : (names : List (List ℕ)) (known : List KnownCount) (unknown : List UnknownCount) (more : List Row) (entry : Site × ℕ) (e r : ℕ) (v : Event) (o : ℕ) (k : KnownCount) → entry.0 ≡ Known e r v o
    → known_row k ≡ (record { spot = counting.Known e (name_at names r) v o; count = entry.1 }) → rows_with known unknown (row_shown names entry ∷ more) ≡ rows_with (known ++ k ∷ []) unknown more
move_known names known unknown more entry e r v o k is same = rw is (ap (λ (l : List Row). l ++ (map unknown_row unknown ++ unknowns more)) (sym
    (ap (λ (l : List Row). l ++ knowns more) (map-append known_row known (k ∷ []))
    ∙ (append_assoc (map known_row known) (known_row k ∷ []) (knowns more)
    ∙ ap (λ (w : Row). map known_row known ++ (w ∷ knowns more)) same))))
