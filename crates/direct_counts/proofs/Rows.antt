-- Rows that rise: what they list, and that the samples fix them.
use Rattle.std.proofs.Common.{◌≡◌, ℕ, ◌+◌, ◌<◌, Bool, true, false, cond, if◌then◌else◌, List, [], ◌∷◌, ◌++◌, map, refl, ap, sym, ◌∙◌, arith, ⊎_elim}
use Rattle.std.specs.declared.cmp.Ordering.TheVariants.{Less, Equal, Greater}
use Rattle.std.specs.List.{count_by, sum_by}
use Rattle.std.proofs.lemmas.Bool.{cases_Bool, cond-false}
use Rattle.std.proofs.lemmas.List.{append-nil}
use Rattle.std.proofs.lemmas.List.Sums.{sum_by_push, sum_by-cons}
use Rattle.trace_model.specs.declared.count_lists.KnownCount.{KnownCount}
use Rattle.trace_model.specs.declared.count_lists.UnknownCount.{UnknownCount}
use Rattle.trace_model.specs.Counting.{Spot, Row, Rises, AreCountsOf, spot_cmp, same_spot, listed_at, known_row, unknown_row, rows_in_order}
use Rattle.trace_model.specs.Counting as counting
use Rattle.direct_counts.specs.Lists.{if_known, if_unknown, knowns, unknowns, rows_with}
use Rattle.direct_counts.specs.Sites.{counted_at, total_at}
use Rattle.direct_counts.proofs.Order.{kind_of, flipped, chained, same_less, same_itself, same_equal, equal_spots, kind_rises, by_ordering}

abbrev pub row_of : Spot → ℕ → Row
row_of spot count = record { spot = spot; count = count }

-- the first of these rows, if there is one, stands behind the spot
abbrev pub Leads : Spot → List Row → Type 0
Leads spot [] = Unit {0}
Leads spot (row ∷ rows) = spot_cmp spot row.spot ≡ Less

pub rises_from : (row : Row) (rows : List Row) → 0 < row.count → Leads row.spot rows → Rises rows → Rises (row ∷ rows)
rises_from row [] p h r = p
rises_from row (next ∷ rows) p h r = (p, h, r)

pub rises_first : (row : Row) (rows : List Row) → Rises (row ∷ rows) → 0 < row.count
rises_first row [] r = r
rises_first row (next ∷ rows) r = r.0

pub rises_leads : (row : Row) (rows : List Row) → Rises (row ∷ rows) → Leads row.spot rows
rises_leads row [] r = tt
rises_leads row (next ∷ rows) r = r.1

pub rises_rest : (row : Row) (rows : List Row) → Rises (row ∷ rows) → Rises rows
rises_rest row [] r = tt
rises_rest row (next ∷ rows) r = r.2

pub count_push : {X : Type 0} (p : X → Bool) (xs : List X) (y : X) → count_by p (xs ++ y ∷ []) ≡ count_by p xs + cond (p y) 1 0
count_push p xs y = sum_by_push (λ x. cond (p x) 1 0) xs y

leads_on : (s t : Spot) (rows : List Row) → spot_cmp s t ≡ Less → Leads t rows → Leads s rows
leads_on s t [] h l = tt
leads_on s t (row ∷ rows) h l = chained s t row.spot h l

-- nothing is listed before the first row
not_listed : (s : Spot) (rows : List Row) → Leads s rows → Rises rows → listed_at s rows ≡ 0
not_listed s [] h r = refl
not_listed s (row ∷ rows) h r = cond-false (same_spot s row.spot) row.count (listed_at s rows) (same_less s row.spot h) ∙ not_listed s rows (leads_on s row.spot rows h (rises_leads row rows r)) (rises_rest row rows r)

listed_first : (row : Row) (rows : List Row) → listed_at row.spot (row ∷ rows) ≡ row.count
listed_first row rows = rw (same_itself row.spot) refl

row_parts : {s t : Spot} {m n : ℕ} → s ≡ t → m ≡ n → row_of s m ≡ row_of t n
row_parts p q = rw (p, q) refl

row_same : (a b : Row) → a.spot ≡ b.spot → a.count ≡ b.count → a ≡ b
row_same a b p q = row_parts p q

cons_same : {a b : Row} {r q : List Row} → a ≡ b → r ≡ q → a ∷ r ≡ b ∷ q
cons_same p q = cc

rest_listed : (a b : Row) (r q : List Row) → Rises (a ∷ r) → Rises (b ∷ q) → a.spot ≡ b.spot → (s : Spot) → listed_at s (a ∷ r) ≡ listed_at s (b ∷ q) → listed_at s r ≡ listed_at s q
rest_listed a b r q ra rb e s h = ⊎_elim
    (λ t. let is = same_equal s a.spot t in
    (ap (λ (x : Spot). listed_at x r) is ∙ not_listed a.spot r (rises_leads a r ra) (rises_rest a r ra))
    ∙ sym (ap (λ (x : Spot). listed_at x q) (is ∙ e) ∙ not_listed b.spot q (rises_leads b q rb) (rises_rest b q rb)))
    (λ f. (sym (cond-false (same_spot s a.spot) a.count (listed_at s r) f) ∙ h)
    ∙ cond-false (same_spot s b.spot) b.count (listed_at s q) (ap (λ (x : Spot). same_spot s x) (sym e) ∙ f))
    (cases_Bool (same_spot s a.spot))

nothing : (n : ℕ) → 0 < n → n ≡ 0 → ⊥
nothing n p h = omega arith

-- rows that rise and list the same are the same
pub same_rows : (r q : List Row) → Rises r → Rises q → ((s : Spot) → listed_at s r ≡ listed_at s q) → r ≡ q
same_rows [] [] ra rb h = refl
same_rows [] (b ∷ q) ra rb h = absurd (nothing b.count (rises_first b q rb) (sym (listed_first b q) ∙ sym (h b.spot)))
same_rows (a ∷ r) [] ra rb h = absurd (nothing a.count (rises_first a r ra) (sym (listed_first a r) ∙ h a.spot))
same_rows (a ∷ r) (b ∷ q) ra rb h = by_ordering (spot_cmp a.spot b.spot)
    (λ k. absurd (nothing a.count (rises_first a r ra) (sym (listed_first a r) ∙ (h a.spot ∙ not_listed a.spot (b ∷ q) k rb))))
    (λ k. let e = equal_spots a.spot b.spot k in cons_same
    (row_same a b e (sym (listed_first a r) ∙ (h a.spot ∙ (ap (λ (s : Spot). listed_at s (b ∷ q)) e ∙ listed_first b q))))
    (same_rows r q (rises_rest a r ra) (rises_rest b q rb) (λ s. rest_listed a b r q ra rb e s (h s))))
    (λ k. absurd (nothing b.count (rises_first b q rb) (sym (listed_first b q) ∙ (sym (h b.spot) ∙ not_listed b.spot (a ∷ r) (flipped a.spot b.spot k) ra))))

pub one_list : (first second : List Row) (spots : List Spot) → AreCountsOf first spots → AreCountsOf second spots → first ≡ second
one_list first second spots a b = same_rows first second a.rise b.rise (λ s. a.counts s ∙ sym (b.counts s))

skip_known : (s : Spot) (row : Row) (rows : List Row) → kind_of s ≡ 1 → if_known s row rows ≡ rows
skip_known (counting.Known e image v o) row rows h = absurd (omega arith)
skip_known (counting.Unknown e v o) row rows h = refl

no_knowns : (s : Spot) (rows : List Row) → kind_of s ≡ 1 → Leads s rows → Rises rows → knowns rows ≡ []
no_knowns s [] k h r = refl
no_knowns s (row ∷ rows) k h r =
    let u = kind_rises s row.spot h k in
    skip_known row.spot row (knowns rows) u ∙ no_knowns row.spot rows u (rises_leads row rows r) (rises_rest row rows r)

split_more : (s : Spot) (row : Row) (rows : List Row) → Leads s rows → Rises rows → knowns rows ++ unknowns rows ≡ rows → if_known s row (knowns rows) ++ if_unknown s row (unknowns rows) ≡ row ∷ rows
split_more (counting.Known e image v o) row rows l r h = ap (λ (m : List Row). row ∷ m) h
split_more (counting.Unknown e v o) row rows l r h =
    let none = no_knowns (counting.Unknown e v o) rows refl l r in
    rw none (ap (λ (m : List Row). row ∷ m) (rw none at h))

-- in rows that rise the known ones stand first
pub split_rows : (rows : List Row) → Rises rows → knowns rows ++ unknowns rows ≡ rows
split_rows [] r = refl
split_rows (row ∷ rows) r = split_more row.spot row rows (rises_leads row rows r) (rises_rest row rows r) (split_rows rows (rises_rest row rows r))

nil_both : (a b : List Row) → (a ++ []) ++ (b ++ []) ≡ a ++ b
nil_both a b = rw (append-nil a, append-nil b) refl

-- all rows are listed
pub all_listed : (known : List KnownCount) (unknown : List UnknownCount) (rows : List Row) → rows_with known unknown [] ≡ knowns rows ++ unknowns rows → Rises rows → rows_in_order known unknown ≡ rows
all_listed known unknown rows h r = sym (nil_both (map known_row known) (map unknown_row unknown)) ∙ (h ∙ split_rows rows r)

pub sum_first : {X : Type 0} (f : X → ℕ) (x : X) (xs : List X) → sum_by f (x ∷ xs) ≡ f x + sum_by f xs
sum_first f x xs = sum_by-cons f x xs

none_total : (s : Spot) (rows : List Row) → Leads s rows → Rises rows → total_at s rows ≡ 0
none_total s [] h r = refl
none_total s (row ∷ rows) h r =
    let rest = none_total s rows (leads_on s row.spot rows h (rises_leads row rows r)) (rises_rest row rows r) in
    let here : counted_at s row ≡ 0 = cond-false (same_spot s row.spot) row.count 0 (same_less s row.spot h) in
    omega (arith, sum_first (counted_at s) row rows)

total_or : (b : Bool) (n t l m : ℕ) → t ≡ cond b n 0 + l → (b ≡ true → l ≡ 0) → (b ≡ false → l ≡ m) → t ≡ cond b n m
total_or true n t l m h f g = let none = f refl in omega arith
total_or false n t l m h f g = let rest = g refl in omega arith

-- in rows that rise each spot has one row
pub total_listed : (s : Spot) (rows : List Row) → Rises rows → total_at s rows ≡ listed_at s rows
total_listed s [] r = refl
total_listed s (row ∷ rows) r = total_or (same_spot s row.spot) row.count (total_at s (row ∷ rows)) (total_at s rows) (listed_at s rows) (sum_first (counted_at s) row rows)
    (λ t. ap (λ (q : Spot). total_at q rows) (same_equal s row.spot t) ∙ none_total row.spot rows (rises_leads row rows r) (rises_rest row rows r))
    (λ f. total_listed s rows (rises_rest row rows r))
