-- What the number of rows before a place says of the rows.
use Rattle.std.proofs.Common.{arith, ◌≡◌, ℕ, zero, suc, ◌+◌, ◌<◌, ◌≤◌, Bool, true, false, List, [], ◌∷◌, None, Some, length, drop, get_or, refl, sym, ap, ◌∙◌, subst}
use Rattle.std.specs.Prelude.{find}
use Rattle.std.specs.List.{AllWithin}
use Rattle.std.specs.List.Sorted.{IsPartitionedBy}
use Rattle.database_state.specs.Rows.{is_before_first, is_rising}
use Rattle.database_state.specs.Orders.{IsOrder}
use Rattle.database_state.proofs.RowOrders.{none_before}
use Rattle.epoch_store.proofs.Order.{and_first, and_second}
use Rattle.epoch_store.proofs.Inserting.{rest_at, found_here, found_later, found_nowhere}

clash : (b : Bool) → b ≡ true → b ≡ false → ⊥
clash b holds fails = let e : true ≡ false = sym holds ∙ fails in cc

false_from : (b : Bool) → (b ≡ true → ⊥) → b ≡ false
false_from true never = absurd (never refl)
false_from false never = refl

get_or_default : {R : Type 0} (rows : List R) (i : ℕ) (d e : R) → i < length rows → get_or rows i d ≡ get_or rows i e
get_or_default [] i d e within = absurd (omega arith)
get_or_default (x ∷ rows) zero d e within = refl
get_or_default (x ∷ rows) (suc i) d e within = get_or_default rows i d e (omega arith)

-- the first row comes before each later one
first_before : {R : Type 0} {before same : R → R → Bool} → IsOrder before same → (x : R) (rows : List R) (j : ℕ) (d : R) → is_before_first before x rows ≡ true → is_rising before rows ≡ true → j < length rows → before x (get_or rows j d) ≡ true
first_before order x [] j d first rising within = absurd (omega arith)
first_before order x (y ∷ rows) zero d first rising within = first
first_before {R} {before} {same} order x (y ∷ rows) (suc j) d first rising within =
    let next = and_first (is_before_first before y rows) (is_rising before rows) rising in
    let others = and_second (is_before_first before y rows) (is_rising before rows) rising in
    order.beyond x y (get_or rows j d) first (first_before order y rows j d next others (omega arith))

-- rows before a place come first
front_half : {R : Type 0} {before same : R → R → Bool} → IsOrder before same → (p x : R) (rows : List R) → is_before_first before x rows ≡ true → is_rising before rows ≡ true → IsPartitionedBy (λ y. before y p) rows → (i j : ℕ) (d : R) → i ≤ j → j < length (x ∷ rows) → before (get_or (x ∷ rows) j d) p ≡ true → before (get_or (x ∷ rows) i d) p ≡ true
front_half order p x rows first others parted zero zero d le within holds = holds
front_half order p x rows first others parted zero (suc j) d le within holds = order.beyond x (get_or rows j d) p (first_before order x rows j d first others (omega arith)) holds
front_half order p x rows first others parted (suc i) zero d le within holds = absurd (omega arith)
front_half order p x rows first others parted (suc i) (suc j) d le within holds = parted i j d (omega arith) (omega arith) holds

pub halves : {R : Type 0} {before same : R → R → Bool} → IsOrder before same → (p : R) (rows : List R) → is_rising before rows ≡ true → IsPartitionedBy (λ y. before y p) rows
halves order p [] rising = λ i j d le within holds. absurd (omega arith)
halves {R} {before} {same} order p (x ∷ rows) rising =
    let first = and_first (is_before_first before x rows) (is_rising before rows) rising in
    let others = and_second (is_before_first before x rows) (is_rising before rows) rising in
    front_half order p x rows first others (halves order p rows others)

-- a row before a place is not of it, and the place is not before the row
pub not_of : {R : Type 0} {before same : R → R → Bool} → IsOrder before same → (x p : R) → before x p ≡ true → (before p x ≡ false) × (same p x ≡ false)
not_of {R} {before} {same} order x p holds =
    (false_from (before p x) (λ back. clash (same x x) (order.own x) (order.apart x x (order.beyond x p x holds back))), order.symm p x ∙ order.apart x p holds)

below : {R : Type 0} (P : R → Type 0) (rows : List R) (i : ℕ) → AllWithin P rows 0 (suc i) → AllWithin P rows 0 i
below P rows i all = λ k d low high. all k d low (omega arith)

one_up : (n : ℕ) → n + 1 ≡ suc n
one_up n = omega arith

-- the row of a place is none of the rows before it
pub sought : {R : Type 0} {before same : R → R → Bool} → IsOrder before same → (rows : List R) (p : R) (i : ℕ) → i ≤ length rows → AllWithin (λ y. before y p ≡ true) rows 0 i → find (same p) rows ≡ find (same p) (drop i rows)
sought order rows p zero within all = refl
sought {R} {before} {same} order rows p (suc i) within all =
    let x = get_or rows i p in
    let is : x ≡ get_or rows i x = get_or_default rows i p x (omega arith) in
    let not = not_of order x p (all i p (omega arith) (omega arith)) in
    subst (λ n. find (same p) rows ≡ find (same p) (drop n rows)) (one_up i)
    (found_later (same p) rows i x (omega arith) is (sought order rows p i (omega arith) (below (λ y. before y p ≡ true) rows i all)) not.1)

rising_drop : {R : Type 0} (before : R → R → Bool) (rows : List R) (i : ℕ) → is_rising before rows ≡ true → is_rising before (drop i rows) ≡ true
rising_drop before rows zero rising = rising
rising_drop before [] (suc i) rising = refl
rising_drop before (x ∷ rows) (suc i) rising = rising_drop before rows i (and_second (is_before_first before x rows) (is_rising before rows) rising)

-- ---- what stands at the place

-- no row is of it
pub sought_in_vain : {R : Type 0} {before same : R → R → Bool} → IsOrder before same → (rows : List R) (p x : R) (i : ℕ) → is_rising before rows ≡ true → AllWithin (λ y. before y p ≡ true) rows 0 i → AllWithin (λ y. before y p ≡ false) rows i (length rows) → i < length rows → x ≡ get_or rows i x → same p x ≡ false → find (same p) rows ≡ None
sought_in_vain {R} {before} {same} order rows p x i rising all none within is apart =
    let behind : before x p ≡ false = subst (λ y. before y p ≡ false) (sym is) (none i x (omega arith) within) in
    let ahead : before p x ≡ true = order.other x p behind (order.symm x p ∙ apart) in
    let rest : drop i rows ≡ x ∷ drop (i + 1) rows = rest_at rows i x within is in
    let rises : is_rising before (x ∷ drop (i + 1) rows) ≡ true = subst (λ l. is_rising before l ≡ true) rest (rising_drop before rows i rising) in
    sought order rows p i (omega arith) all ∙ ap (find (same p)) rest ∙ none_before order p (x ∷ drop (i + 1) rows) ahead rises

pub found : {R : Type 0} {before same : R → R → Bool} → IsOrder before same → (rows : List R) (p x : R) (i : ℕ) → AllWithin (λ y. before y p ≡ true) rows 0 i → i < length rows → x ≡ get_or rows i x → same p x ≡ true → find (same p) rows ≡ Some x
found {R} {before} {same} order rows p x i all within is holds = found_here (same p) rows i x within is (sought order rows p i (omega arith) all) holds

pub past_all : {R : Type 0} {before same : R → R → Bool} → IsOrder before same → (rows : List R) (p : R) (i : ℕ) → AllWithin (λ y. before y p ≡ true) rows 0 i → i ≤ length rows → length rows ≤ i → find (same p) rows ≡ None
past_all {R} {before} {same} order rows p i all within past = found_nowhere (same p) rows i past (sought order rows p i within all)
