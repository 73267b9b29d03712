-- Entries of an ordered map as the rows of a listing.
use Rattle.std.proofs.Common.{arith, ◌≡◌, ℕ, zero, suc, ◌+◌, ◌<◌, Bool, true, false, cond, List, [], ◌∷◌, map, length, get_or, refl, sym, ap, ◌∙◌}
use Rattle.std.specs.Prelude.{sum_by, sum}
use Rattle.std.specs.declared.cmp.Ordering.{Ordering}
use Rattle.std.specs.declared.cmp.Ordering.TheVariants.{Less, Equal, Greater}
use Rattle.std.specs.Ordering.{is_eq, is_lt, nat_cmp, ordering_then, ordering_reverse}
use Rattle.std.specs.List.{All, AllByRecursion, IsDistinct}
use Rattle.std.specs.List.Sorted.{IsPermutation, IsSorted, IsStrictlySortedBy}
use Rattle.std.specs.Map.{keys_of, values_of}
use Rattle.std.proofs.lemmas.Cmp.{eq_by_cmp_equiv}
use Rattle.std.proofs.lemmas.List.Elements.{All-from_recursion}
use Rattle.std.proofs.lemmas.List.Sorted.{All-permutation, IsPermutation-map, sum_by-IsPermutation}
use Rattle.std.proofs.lemmas.List.Sums.{sum_by-cons}
use Rattle.std.proofs.lemmas.Map.Keys.{IsDistinct-from_sorted, IsDistinct-IsPermutation, IsDistinct-head, IsDistinct-tail, apart_from_distinct, sorted_from_all_adjacent}
use Rattle.report_text.specs.declared.labels.Label.{Label}
use Rattle.report_text.specs.declared.rows.Row.{Row}
use Rattle.report_text.specs.Labels.{label_cmp, row_cmp, same_label, is_listed}
use Rattle.report_text.specs.Orders.{label_total, row_total}
use Rattle.report_text.specs.Reports.{AddsUp, AreListed, StandsInOrder, listed_at}
use Rattle.dcpiprof_report.specs.Sums.{AreSums, held, held_in_all, row_of}

abbrev pub label_in : Row → Label
label_in row = row.label

abbrev pub count_in : Row → ℕ
count_in row = row.count

-- what a row counts, if its label is this one
abbrev pub if_same : Label → Row → ℕ
if_same label row = cond (same_label label row.label) row.count 0

labels_are_keys : (es : List (Label × ℕ)) → map label_in (map row_of es) ≡ keys_of es
labels_are_keys [] = refl
labels_are_keys (e ∷ es) = ap (λ (labels : List Label). e.0 ∷ labels) (labels_are_keys es)

same_flips : (a b : Label) → same_label a b ≡ same_label b a
same_flips a b = (eq_by_cmp_equiv label_total).symm a b

-- the labels of the rows are apart, before and after they are sorted
pub apart_sorted : (es : List (Label × ℕ)) (rows : List Row) → IsStrictlySortedBy label_cmp (keys_of es) → IsPermutation (map row_of es) rows → IsDistinct same_label (map label_in rows)
apart_sorted es rows sorted moved =
    let keys : IsDistinct same_label (keys_of es) = IsDistinct-from_sorted label_cmp (keys_of es) sorted in
    let before : IsDistinct same_label (map label_in (map row_of es)) = rw (labels_are_keys es) keys in
    IsDistinct-IsPermutation same_label same_flips (map label_in (map row_of es)) (map label_in rows) (IsPermutation-map label_in (map row_of es) rows moved) before

-- two rows that are not in the wrong order, and whose labels differ
tied_labels : (a b : Ordering) → ordering_then a b ≡ Equal → b ≡ Equal
tied_labels Less b h = cc
tied_labels Equal b h = h
tied_labels Greater b h = cc

strict : (r : Ordering) (a b : Row) → row_cmp a b ≡ r → is_lt (row_cmp b a) ≡ false → same_label a.label b.label ≡ false → row_cmp a b ≡ Less
strict Less a b is sorted apart = is
strict Equal a b is sorted apart = absurd (true_not_false (sym (ap is_eq (tied_labels (nat_cmp b.count a.count) (label_cmp a.label b.label) is)) ∙ apart))
  where
    true_not_false : true ≡ false → ⊥
    true_not_false h = cc
strict Greater a b is sorted apart = absurd (true_not_false (sym (ap is_lt (row_total.antisymm b a ∙ ap ordering_reverse is)) ∙ sorted))
  where
    true_not_false : true ≡ false → ⊥
    true_not_false h = cc

-- the place of a label among the labels
label_place : (rows : List Row) (k : ℕ) (d : Row) → get_or (map label_in rows) k d.label ≡ (get_or rows k d).label
label_place [] k d = refl
label_place (row ∷ rows) zero d = refl
label_place (row ∷ rows) (suc k) d = label_place rows k d

pub strictly_sorted : (rows : List Row) → IsSorted row_cmp rows → IsDistinct same_label (map label_in rows) → IsStrictlySortedBy row_cmp rows
unfolding IsStrictlySortedBy
strictly_sorted [] sorted apart = tt
strictly_sorted (row ∷ rows) sorted apart =
    sorted_from_all_adjacent row_total (row ∷ rows) row (λ k within. strict (row_cmp (get_or (row ∷ rows) k row) (get_or (row ∷ rows) (k + 1) row)) (get_or (row ∷ rows) k row) (get_or (row ∷ rows) (k + 1) row) refl (sorted k row (omega arith) within) (apart_at k within))
  where
    size : (l : List Row) → length (map label_in l) ≡ length l
    size [] = refl
    size (x ∷ l) = ap suc (size l)

    apart_at : (k : ℕ) → k + 1 < length (row ∷ rows) → same_label (get_or (row ∷ rows) k row).label (get_or (row ∷ rows) (k + 1) row).label ≡ false
    apart_at k within =
        rw (sym (label_place (row ∷ rows) k row), sym (label_place (row ∷ rows) (k + 1) row))
        (apart_from_distinct same_label (map label_in (row ∷ rows)) k (k + 1) row.label apart (omega arith) (omega (arith, size (row ∷ rows))))

-- ---- what rows count under a label

none_alike : (label : Label) (row : Row) (rows : List Row) → same_label label row.label ≡ true → AllByRecursion (λ other. same_label row.label other ≡ false) (map label_in rows) → sum_by (if_same label) rows ≡ 0
none_alike label row [] is apart = refl
none_alike label row (other ∷ rows) is apart =
    let differs : same_label label other.label ≡ false = (eq_by_cmp_equiv label_total).congr label row.label other.label is ∙ apart.0 in
    let here : if_same label other ≡ 0 = rw differs refl in
    let rest = none_alike label row rows is apart.1 in
    omega (arith, sum_by-cons (if_same label) other rows)

listed_here : (t : Bool) (n rest listed all : ℕ) → all ≡ cond t n 0 + rest → (t ≡ true → rest ≡ 0) → (t ≡ false → listed ≡ rest) → cond t n listed ≡ all
listed_here true n rest listed all split none same = let zero = none refl in omega arith
listed_here false n rest listed all split none same = let is = same refl in omega arith

-- rows whose labels are apart list what they count
pub listed_sum : (label : Label) (rows : List Row) → IsDistinct same_label (map label_in rows) → listed_at label rows ≡ sum_by (if_same label) rows
listed_sum label [] apart = refl
listed_sum label (row ∷ rows) apart =
    listed_here (same_label label row.label) row.count (sum_by (if_same label) rows) (listed_at label rows) (sum_by (if_same label) (row ∷ rows)) (sum_by-cons (if_same label) row rows)
    (λ is. none_alike label row rows is (IsDistinct-head same_label row.label (map label_in rows) apart))
    (λ differs. listed_sum label rows (IsDistinct-tail same_label row.label (map label_in rows) apart))

sum_of_rows : (f : Row → ℕ) (es : List (Label × ℕ)) → sum_by f (map row_of es) ≡ sum_by (λ e. f (row_of e)) es
sum_of_rows f [] = refl
sum_of_rows f (e ∷ es) = sum_by-cons f (row_of e) (map row_of es) ∙ ap (λ n. f (row_of e) + n) (sum_of_rows f es) ∙ sym (sum_by-cons (λ e. f (row_of e)) e es)

pub listed_held : (label : Label) (es : List (Label × ℕ)) (rows : List Row) → IsDistinct same_label (map label_in rows) → IsPermutation (map row_of es) rows → listed_at label rows ≡ held (same_label label) es
listed_held label es rows apart moved =
    listed_sum label rows apart ∙ sum_by-IsPermutation (if_same label) (map row_of es) rows moved ∙ sum_of_rows (if_same label) es

-- ---- the total, and what is said of each row

pub total_held : (es : List (Label × ℕ)) (rows : List Row) → IsPermutation (map row_of es) rows → held_in_all es ≡ sum_by count_in rows
total_held es rows moved = sym (sum_by-IsPermutation count_in (map row_of es) rows moved ∙ sum_of_rows count_in es)

abbrev pub IsGood : Bool → Row → Type 0
IsGood procedures row = (0 < row.count) × (is_listed procedures row.label ≡ true)

good_rows : (procedures : Bool) (es : List (Label × ℕ)) → AreSums procedures es → AllByRecursion (IsGood procedures) (map row_of es)
good_rows procedures [] all = tt
good_rows procedures (e ∷ es) all = (all.0, good_rows procedures es all.1)

pub good_sorted : (procedures : Bool) (es : List (Label × ℕ)) (rows : List Row) → AreSums procedures es → IsPermutation (map row_of es) rows → All (IsGood procedures) rows
good_sorted procedures es rows all moved = All-permutation (IsGood procedures) (map row_of es) rows moved (All-from_recursion (IsGood procedures) (map row_of es) (good_rows procedures es all))

pub adds_up : (procedures : Bool) (es : List (Label × ℕ)) (rows : List Row) (total : ℕ) → total ≡ held_in_all es → AreSums procedures es → IsPermutation (map row_of es) rows → AddsUp (record { total = total; rows = rows }) × AreListed procedures rows
adds_up procedures es rows total is all moved =
    let good = good_sorted procedures es rows all moved in
    (record { total = is ∙ total_held es rows moved; some = λ k d within. (good k d within).0 }, λ k d within. (good k d within).1)

pub in_order : (es : List (Label × ℕ)) (rows : List Row) → IsStrictlySortedBy label_cmp (keys_of es) → IsPermutation (map row_of es) rows → IsSorted row_cmp rows → StandsInOrder rows
in_order es rows keys moved sorted =
    let apart = apart_sorted es rows keys moved in
    record { order = strictly_sorted rows sorted apart; apart = apart }

pub values_held : (es : List (Label × ℕ)) → sum (values_of es) ≡ held_in_all es
values_held [] = refl
values_held (e ∷ es) = let rest = values_held es in omega (arith, rest, sum_by-cons (λ (n : ℕ). n) e.1 (values_of es), sum_by-cons (λ (f : Label × ℕ). f.1) e es)
