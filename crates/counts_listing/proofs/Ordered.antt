-- Sections in their order: no two have one place, and so their counts rise.
use Rattle.std.proofs.Common.{arith, ◌≡◌, ℕ, suc, ◌+◌, ◌≤◌, ◌&&◌, ◌||◌, Bool, true, false, cond, eqb, List, [], ◌∷◌, map, length, get_or, refl, sym, ap, ◌∙◌}
use Rattle.std.specs.Prelude.{nat_lt}
use Rattle.std.specs.declared.cmp.Ordering.{Ordering}
use Rattle.std.specs.declared.cmp.Ordering.TheVariants.{Less, Equal, Greater}
use Rattle.std.specs.Ordering.{is_eq, is_lt, nat_cmp, ordering_then, ordering_reverse, eq_by_cmp}
use Rattle.std.specs.Cmp.{IsTotalOrder, tied_then}
use Rattle.std.specs.Cmp.Lexicographic.{slice_cmp}
use Rattle.std.specs.Str.{bytes_eq}
use Rattle.std.specs.List.{AllByRecursion, IsDistinct, flat_map}
use Rattle.std.specs.List.Sorted.{IsPermutation, IsSorted, IsSortedBy, IsStrictlySortedBy}
use Rattle.std.proofs.lemmas.Bool.Decides.{nat_tests}
use Rattle.std.proofs.lemmas.Cmp.{eq_by_cmp_equiv, nat_cmp_total, nat_list_cmp_total, on_total, then_total}
use Rattle.std.proofs.lemmas.List.{get_or-map}
use Rattle.std.proofs.lemmas.Map.Keys.{IsDistinct-IsPermutation, apart_from_distinct, sorted_from_all_adjacent}
use Rattle.std.proofs.lemmas.Map.Text.{is_eq-slice_cmp}
use Rattle.sample_key.specs.Events.{code_of}
use Rattle.trace_model.specs.Counting.{Known, Unknown, Rises, spot_cmp}
use Rattle.database_model.specs.declared.profiles.ProfileRow.{ProfileRow}
use Rattle.database_model.specs.Ranges.{AreRows}
use Rattle.database_state.specs.declared.rows.KnownRow.{KnownRow}
use Rattle.database_state.specs.declared.rows.UnknownRow.{UnknownRow}
use Rattle.database_state.specs.Rows.{known_before, unknown_before, is_before_first, is_rising}
use Rattle.database_state.specs.Orders.{IsOrder}
use Rattle.epoch_store.proofs.Order.{and_first, and_second}
use Rattle.database_state.proofs.RowOrders.{known_order, unknown_order}
use Rattle.direct_counts.proofs.Order.{both_same}
use Rattle.direct_counts.proofs.Rows.{Leads}
use Rattle.counts_listing.specs.Sections.{Section, section_at, sections_at, section_cmp, section_rows, event_at, unknown_listed}
use Rattle.counts_listing.proofs.Blocks.{known_climbs, unknown_climbs, block_rises, block_led}
use Rattle.counts_listing.proofs.Heads.{IsKnownWithin, coded, names_same}

-- ---- rows of a head

-- a row comes before all that stand behind it
pub all_behind : {R : Type 0} {before same : R → R → Bool} → IsOrder before same → (x : R) (rows : List R) → is_before_first before x rows ≡ true → is_rising before rows ≡ true → AllByRecursion (λ y. before x y ≡ true) rows
all_behind order x [] first rising = tt
all_behind {R} {before} {same} order x (y ∷ rows) first rising =
    (first, all_behind order x rows (further rows (and_first (is_before_first before y rows) (is_rising before rows) rising)) (and_second (is_before_first before y rows) (is_rising before rows) rising))
  where
    further : (rest : List R) → is_before_first before y rest ≡ true → is_before_first before x rest ≡ true
    further [] next = refl
    further (z ∷ rest) next = order.beyond x y z first next

-- ---- sections are apart

pub section_total : IsTotalOrder section_cmp
section_total = then_total (on_total (λ (p : Section). p.epoch) nat_cmp_total) (then_total (on_total (λ (p : Section). p.image) nat_list_cmp_total) (on_total (λ (p : Section). code_of p.event) nat_cmp_total))

equal_numbers : (x y : ℕ) → is_eq (nat_cmp x y) ≡ eqb x y
equal_numbers x y = grind (arith, nat_tests)

three_and : (a b c : Bool) → (a && (b && c)) ≡ ((a && b) && c)
three_and false b c = refl
three_and true b c = refl

-- two sections have one place where their three fields are the same
pub same_place : (a b : Section) → eq_by_cmp section_cmp a b ≡ (eqb a.epoch b.epoch && (bytes_eq a.image b.image && eqb (code_of a.event) (code_of b.event)))
same_place a b =
    sym (tied_then (nat_cmp a.epoch b.epoch) (ordering_then (slice_cmp nat_cmp a.image b.image) (nat_cmp (code_of a.event) (code_of b.event))))
    ∙ both_same (equal_numbers a.epoch b.epoch)
    (sym (tied_then (slice_cmp nat_cmp a.image b.image) (nat_cmp (code_of a.event) (code_of b.event)))
    ∙ both_same (is_eq-slice_cmp a.image b.image) (equal_numbers (code_of a.event) (code_of b.event)))

one_apart : (names : List (List ℕ)) (row later : KnownRow) (rows others : List ProfileRow) → IsDistinct bytes_eq names → IsKnownWithin (length names) row → IsKnownWithin (length names) later → known_before row later ≡ true → eq_by_cmp section_cmp (section_at names row rows) (section_at names later others) ≡ false
one_apart names row later rows others apart within here before =
    same_place (section_at names row rows) (section_at names later others)
    ∙ both_same {a = eqb row.epoch later.epoch} refl (both_same (names_same names row.image later.image apart within.0 here.0) (codes within.1 here.1))
    ∙ three_and (eqb row.epoch later.epoch) (eqb row.image later.image) (eqb row.event later.event)
    ∙ known_order.apart row later before
  where
    codes : row.event ≤ 3 → later.event ≤ 3 → eqb (code_of (event_at row.event)) (code_of (event_at later.event)) ≡ eqb row.event later.event
    codes first second = rw (coded row.event first, coded later.event second) refl

all_apart : (names : List (List ℕ)) (row : KnownRow) (mine : List ProfileRow) (rows : List KnownRow) (profiles : List (List ProfileRow)) → IsDistinct bytes_eq names → IsKnownWithin (length names) row → AllByRecursion (IsKnownWithin (length names)) rows → AllByRecursion (λ later. known_before row later ≡ true) rows
    → AllByRecursion (λ section. eq_by_cmp section_cmp (section_at names row mine) section ≡ false) (sections_at names rows profiles)
all_apart names row mine [] profiles apart within all behind = tt
all_apart names row mine (later ∷ rows) [] apart within all behind = tt
all_apart names row mine (later ∷ rows) (profile ∷ profiles) apart within all behind =
    (one_apart names row later mine profile apart within all.0 behind.0, all_apart names row mine rows profiles apart within all.1 behind.1)

pub sections_apart : (names : List (List ℕ)) (rows : List KnownRow) (profiles : List (List ProfileRow)) → IsDistinct bytes_eq names → AllByRecursion (IsKnownWithin (length names)) rows → is_rising known_before rows ≡ true → IsDistinct (eq_by_cmp section_cmp) (sections_at names rows profiles)
unfolding IsDistinct
sections_apart names [] profiles apart within rising = tt
sections_apart names (row ∷ rows) [] apart within rising = tt
sections_apart names (row ∷ rows) (profile ∷ profiles) apart within rising =
    let first = and_first (is_before_first known_before row rows) (is_rising known_before rows) rising in
    let others = and_second (is_before_first known_before row rows) (is_rising known_before rows) rising in
    (all_apart names row profile rows profiles apart within.0 within.1 (all_behind known_order row rows first others), sections_apart names rows profiles apart within.1 others)

-- ---- sorted sections

pub sorted_map : {X Y : Type 0} (f : X → Y) (lt : Y → Y → Bool) (xs : List X) → IsSortedBy (λ a b. lt (f a) (f b)) xs → IsSortedBy lt (map f xs)
sorted_map f lt [] sorted k d low high = absurd (omega arith)
sorted_map {X} f lt (x ∷ xs) sorted k d low high =
    let many : length (map f (x ∷ xs)) ≡ length (x ∷ xs) = size (x ∷ xs) in
    rw (get_or-map f (x ∷ xs) (k + 1) x d (omega (arith, many)), get_or-map f (x ∷ xs) k x d (omega (arith, many)))
    (sorted k x low (omega (arith, many)))
  where
    size : (l : List X) → length (map f l) ≡ length l
    size [] = refl
    size (y ∷ l) = ap suc (size l)

wrong : {P : Type 0} → true ≡ false → P
wrong h = cc

strict : (r : Ordering) (a b : Section) → section_cmp a b ≡ r → is_lt (section_cmp b a) ≡ false → eq_by_cmp section_cmp a b ≡ false → section_cmp a b ≡ Less
strict Less a b is sorted apart = is
strict Equal a b is sorted apart = wrong (sym (ap is_eq is) ∙ apart)
strict Greater a b is sorted apart = wrong (sym (ap is_lt (section_total.antisymm b a ∙ ap ordering_reverse is)) ∙ sorted)

pub strictly_sorted : (sections : List Section) → IsSorted section_cmp sections → IsDistinct (eq_by_cmp section_cmp) sections → IsStrictlySortedBy section_cmp sections
unfolding IsStrictlySortedBy
strictly_sorted [] sorted apart = tt
strictly_sorted (section ∷ sections) sorted apart =
    sorted_from_all_adjacent section_total (section ∷ sections) section (λ k within. strict (section_cmp (get_or (section ∷ sections) k section) (get_or (section ∷ sections) (k + 1) section)) (get_or (section ∷ sections) k section) (get_or (section ∷ sections) (k + 1) section) refl (sorted k section (omega arith) within)
    (apart_from_distinct (eq_by_cmp section_cmp) (section ∷ sections) k (k + 1) section apart (omega arith) within))

pub moved_apart : (sections sorted : List Section) → IsPermutation sections sorted → IsDistinct (eq_by_cmp section_cmp) sections → IsDistinct (eq_by_cmp section_cmp) sorted
moved_apart sections sorted moved apart = IsDistinct-IsPermutation (eq_by_cmp section_cmp) (eq_by_cmp_equiv section_total).symm sections sorted moved apart

-- ---- their counts rise

then_less : (a b c d : Ordering) → ordering_then a (ordering_then b c) ≡ Less → ordering_then a (ordering_then b (ordering_then c d)) ≡ Less
then_less Less b c d h = refl
then_less Equal Less c d h = refl
then_less Equal Equal Less d h = refl
then_less Equal Equal Equal d h = cc
then_less Equal Equal Greater d h = cc
then_less Equal Greater c d h = cc
then_less Greater b c d h = cc

section_before : (a b : Section) (o p : ℕ) → section_cmp a b ≡ Less → spot_cmp (Known a.epoch a.image a.event o) (Known b.epoch b.image b.event p) ≡ Less
section_before a b o p before = then_less (nat_cmp a.epoch b.epoch) (slice_cmp nat_cmp a.image b.image) (nat_cmp (code_of a.event) (code_of b.event)) (nat_cmp o p) before

leads_sections : (section : Section) (o : ℕ) (sections : List Section) → AllByRecursion (λ other. section_cmp section other ≡ Less) sections → Leads (Known section.epoch section.image section.event o) (flat_map section_rows sections)
leads_sections section o [] all = tt
leads_sections section o (other ∷ sections) all =
    block_led (Known section.epoch section.image section.event o) (λ p. Known other.epoch other.image other.event p) other.rows (flat_map section_rows sections) (λ p. section_before section other o p all.0) (leads_sections section o sections all.1)

pub sections_rise : (sections : List Section) → IsStrictlySortedBy section_cmp sections → AllByRecursion (λ section. AreRows section.rows) sections → Rises (flat_map section_rows sections)
unfolding IsStrictlySortedBy
sections_rise [] sorted all = tt
sections_rise (section ∷ sections) sorted all =
    block_rises (λ o. Known section.epoch section.image section.event o) (known_climbs section.epoch section.image section.event) 0 section.rows all.0 (flat_map section_rows sections) (sections_rise sections sorted.1 all.1) (λ o. leads_sections section o sections sorted.0)

-- ---- unknown counts rise

less_by_tests : (lt eq lt_next eq_next : Bool) (x : Ordering) → (lt || (eq && lt_next)) ≡ true → ordering_then (cond lt Less (cond eq Equal Greater)) (ordering_then (cond lt_next Less (cond eq_next Equal Greater)) x) ≡ Less
less_by_tests true eq lt_next eq_next x h = refl
less_by_tests false true true eq_next x h = refl
less_by_tests false true false eq_next x h = cc
less_by_tests false false lt_next eq_next x h = cc

unknown_less : (row later : UnknownRow) (o p : ℕ) → row.event ≤ 3 → later.event ≤ 3 → unknown_before row later ≡ true → spot_cmp (Unknown row.epoch (event_at row.event) o) (Unknown later.epoch (event_at later.event) p) ≡ Less
unknown_less row later o p first second before =
    rw (coded row.event first, coded later.event second)
    (less_by_tests (nat_lt row.epoch later.epoch) (eqb row.epoch later.epoch) (nat_lt row.event later.event) (eqb row.event later.event) (nat_cmp o p) before)

leads_unknown : (row : UnknownRow) (o : ℕ) (rows : List UnknownRow) (profiles : List (List ProfileRow)) → row.event ≤ 3 → AllByRecursion (λ (later : UnknownRow). later.event ≤ 3) rows → AllByRecursion (λ later. unknown_before row later ≡ true) rows → Leads (Unknown row.epoch (event_at row.event) o) (unknown_listed rows profiles)
leads_unknown row o [] profiles small all behind = tt
leads_unknown row o (later ∷ rows) [] small all behind = tt
leads_unknown row o (later ∷ rows) (profile ∷ profiles) small all behind =
    block_led (Unknown row.epoch (event_at row.event) o) (λ p. Unknown later.epoch (event_at later.event) p) profile (unknown_listed rows profiles) (λ p. unknown_less row later o p small all.0 behind.0) (leads_unknown row o rows profiles small all.1 behind.1)

pub unknown_rise : (rows : List UnknownRow) (profiles : List (List ProfileRow)) → is_rising unknown_before rows ≡ true → AllByRecursion (λ (row : UnknownRow). row.event ≤ 3) rows → AllByRecursion AreRows profiles → Rises (unknown_listed rows profiles)
unknown_rise [] profiles rising all good = tt
unknown_rise (row ∷ rows) [] rising all good = tt
unknown_rise (row ∷ rows) (profile ∷ profiles) rising all good =
    let first = and_first (is_before_first unknown_before row rows) (is_rising unknown_before rows) rising in
    let others = and_second (is_before_first unknown_before row rows) (is_rising unknown_before rows) rising in
    block_rises (λ p. Unknown row.epoch (event_at row.event) p) (unknown_climbs row.epoch (event_at row.event)) 0 profile good.0 (unknown_listed rows profiles) (unknown_rise rows profiles others all.1 good.1)
    (λ o. leads_unknown row o rows profiles all.0 all.1 (all_behind unknown_order row rows first others))
