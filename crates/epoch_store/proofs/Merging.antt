-- Rows in their order with others in their order: each step of the merge keeps what both make together.
use Rattle.std.proofs.Common.{◌≡◌, ℕ, zero, suc, ◌+◌, ◌<◌, ◌≤◌, Bool, true, false, List, [], ◌∷◌, ◌++◌, length, map, drop, get_or, refl, sym, ap, ◌∙◌, append_assoc, drop_of_length-le}
use Rattle.std.specs.List.{AllByRecursion}
use Rattle.database_state.specs.Rows.{is_before_first, is_rising, with_row}
use Rattle.database_state.specs.Orders.{IsOrder}
use Rattle.epoch_store.specs.Orders.{with_rows}
use Rattle.epoch_store.proofs.Order.{and_first, and_second, with_each}
use Rattle.epoch_store.proofs.Halving.{not_of}
use Rattle.epoch_store.proofs.Inserting.{rest_at}

-- a row comes before all of these
abbrev BeforeAll : {R : Type 0} → (R → R → Bool) → R → List R → Type 0
BeforeAll before x rows = AllByRecursion (λ r. before x r ≡ true) rows

-- what comes before the first of rising rows comes before all of them
before_all : {R : Type 0} {before same : R → R → Bool} → IsOrder before same → (x r : R) (rows : List R) → before x r ≡ true → is_rising before (r ∷ rows) ≡ true → BeforeAll before x (r ∷ rows)
before_all order x r [] first rising = (first, tt)
before_all {before = before} order x r (y ∷ rows) first rising =
    let next = and_first (before r y) (is_rising before (y ∷ rows)) rising in
    let others = and_second (before r y) (is_rising before (y ∷ rows)) rising in
    (first, before_all order x y rows (order.beyond x r y first next) others)

-- the first of rising rows comes before the others
first_before_all : {R : Type 0} {before same : R → R → Bool} → IsOrder before same → (r : R) (rows : List R) → is_rising before (r ∷ rows) ≡ true → BeforeAll before r rows
first_before_all order r [] rising = tt
first_before_all {before = before} order r (y ∷ rows) rising =
    let next = and_first (before r y) (is_rising before (y ∷ rows)) rising in
    let others = and_second (before r y) (is_rising before (y ∷ rows)) rising in
    before_all order r y rows next others

-- a row before all that are put stays in front
behind : {R : Type 0} {before same : R → R → Bool} → IsOrder before same → (x : R) (rows changed : List R) → BeforeAll before x changed → with_rows before same (x ∷ rows) changed ≡ x ∷ with_rows before same rows changed
behind order x rows [] all = refl
behind {R} {before} {same} order x rows (r ∷ changed) all =
    let not = not_of order x r all.0 in
    let here : with_row before same (x ∷ rows) r ≡ x ∷ with_row before same rows r = rw (not.0, not.1) refl in
    ap (λ held. with_rows before same held changed) here ∙ behind order x (with_row before same rows r) changed all.1

clash : (b : Bool) → b ≡ true → b ≡ false → true ≡ false
clash b holds fails = sym holds ∙ fails

false_from : (b : Bool) → (b ≡ true → true ≡ false) → b ≡ false
false_from true never = never refl
false_from false never = refl

-- the row goes behind all
at_end : {R : Type 0} {before same : R → R → Bool} → IsOrder before same → (r : R) (more : List R) → is_rising before (r ∷ more) ≡ true → with_rows before same [] (r ∷ more) ≡ r ∷ with_rows before same [] more
at_end order r more rising = behind order r [] more (first_before_all order r more rising)

-- the row takes the place of the first
at_same : {R : Type 0} {before same : R → R → Bool} → IsOrder before same → (r x : R) (rows more : List R) → same r x ≡ true → is_rising before (r ∷ more) ≡ true → with_rows before same (x ∷ rows) (r ∷ more) ≡ r ∷ with_rows before same rows more
at_same {R} {before} {same} order r x rows more is rising =
    let fails : before r x ≡ false = false_from (before r x) (λ ahead. clash (same r x) is (order.apart r x ahead)) in
    let here : with_row before same (x ∷ rows) r ≡ r ∷ rows = rw (fails, is) refl in
    ap (λ held. with_rows before same held more) here ∙ behind order r rows more (first_before_all order r more rising)

-- the row goes before the first
at_before : {R : Type 0} {before same : R → R → Bool} → IsOrder before same → (r x : R) (rows more : List R) → before x r ≡ false → same r x ≡ false → is_rising before (r ∷ more) ≡ true → with_rows before same (x ∷ rows) (r ∷ more) ≡ r ∷ with_rows before same (x ∷ rows) more
at_before {R} {before} {same} order r x rows more fails apart rising =
    let ahead : before r x ≡ true = order.other x r fails (order.symm x r ∙ apart) in
    let here : with_row before same (x ∷ rows) r ≡ r ∷ x ∷ rows = rw ahead refl in
    ap (λ held. with_rows before same held more) here ∙ behind order r (x ∷ rows) more (first_before_all order r more rising)

-- ---- the steps of the merge, seen from an index

-- a row that comes before is put
pub goes_past : {R : Type 0} {before same : R → R → Bool} → IsOrder before same → (rows : List R) (at : ℕ) (x r : R) (out all : List R) (more : List R) → at < length rows → x ≡ get_or rows at x → before x r ≡ true → is_rising before (r ∷ more) ≡ true
    → out ++ with_rows before same (drop at rows) (r ∷ more) ≡ all → (out ++ x ∷ []) ++ with_rows before same (drop (at + 1) rows) (r ∷ more) ≡ all
goes_past {R} {before} {same} order rows at x r out all more within is first rising so_far =
    let rest = rest_at rows at x within is in
    let step : with_rows before same (drop at rows) (r ∷ more) ≡ x ∷ with_rows before same (drop (at + 1) rows) (r ∷ more) =
    ap (λ held. with_rows before same held (r ∷ more)) rest ∙ behind order x (drop (at + 1) rows) (r ∷ more) (before_all order x r more first rising) in
    append_assoc out (x ∷ []) (with_rows before same (drop (at + 1) rows) (r ∷ more)) ∙ ap (λ l. out ++ l) (sym step) ∙ so_far

-- the row is put in the place of this one
pub goes_for : {R : Type 0} {before same : R → R → Bool} → IsOrder before same → (rows : List R) (at : ℕ) (x r : R) (out all : List R) (more : List R) → at < length rows → x ≡ get_or rows at x → same r x ≡ true → is_rising before (r ∷ more) ≡ true
    → out ++ with_rows before same (drop at rows) (r ∷ more) ≡ all → (out ++ r ∷ []) ++ with_rows before same (drop (at + 1) rows) more ≡ all
goes_for {R} {before} {same} order rows at x r out all more within is holds rising so_far =
    let step : with_rows before same (drop at rows) (r ∷ more) ≡ r ∷ with_rows before same (drop (at + 1) rows) more =
    ap (λ held. with_rows before same held (r ∷ more)) (rest_at rows at x within is) ∙ at_same order r x (drop (at + 1) rows) more holds rising in
    append_assoc out (r ∷ []) (with_rows before same (drop (at + 1) rows) more) ∙ ap (λ l. out ++ l) (sym step) ∙ so_far

-- the row is put before this one
pub goes_ahead : {R : Type 0} {before same : R → R → Bool} → IsOrder before same → (rows : List R) (at : ℕ) (x r : R) (out all : List R) (more : List R) → at < length rows → x ≡ get_or rows at x → before x r ≡ false → same r x ≡ false → is_rising before (r ∷ more) ≡ true
    → out ++ with_rows before same (drop at rows) (r ∷ more) ≡ all → (out ++ r ∷ []) ++ with_rows before same (drop at rows) more ≡ all
goes_ahead {R} {before} {same} order rows at x r out all more within is fails apart rising so_far =
    let rest = rest_at rows at x within is in
    let step : with_rows before same (drop at rows) (r ∷ more) ≡ r ∷ with_rows before same (drop at rows) more =
    ap (λ held. with_rows before same held (r ∷ more)) rest ∙ at_before order r x (drop (at + 1) rows) more fails apart rising ∙ ap (λ held. r ∷ with_rows before same held more) (sym rest) in
    append_assoc out (r ∷ []) (with_rows before same (drop at rows) more) ∙ ap (λ l. out ++ l) (sym step) ∙ so_far

-- the row is put behind all
pub goes_last : {R : Type 0} {before same : R → R → Bool} → IsOrder before same → (rows : List R) (at : ℕ) (r : R) (out all : List R) (more : List R) → length rows ≤ at → is_rising before (r ∷ more) ≡ true
    → out ++ with_rows before same (drop at rows) (r ∷ more) ≡ all → (out ++ r ∷ []) ++ with_rows before same (drop at rows) more ≡ all
goes_last {R} {before} {same} order rows at r out all more past rising so_far =
    let none : drop at rows ≡ [] = drop_of_length-le rows past in
    let step : with_rows before same (drop at rows) (r ∷ more) ≡ r ∷ with_rows before same (drop at rows) more =
    ap (λ held. with_rows before same held (r ∷ more)) none ∙ at_end order r more rising ∙ ap (λ held. r ∷ with_rows before same held more) (sym none) in
    append_assoc out (r ∷ []) (with_rows before same (drop at rows) more) ∙ ap (λ l. out ++ l) (sym step) ∙ so_far

-- rising rows from an index rise
pub rises_from : {R : Type 0} (before : R → R → Bool) (rows : List R) (i : ℕ) → is_rising before rows ≡ true → is_rising before (drop i rows) ≡ true
rises_from before rows zero rising = rising
rises_from before [] (suc i) rising = refl
rises_from before (x ∷ rows) (suc i) rising = rises_from before rows i (and_second (is_before_first before x rows) (is_rising before rows) rising)

-- the changed rows one after the other, or all at once
pub each_row : {R U : Type 0} (before same : R → R → Bool) (row : U → R) (rows : List R) (us : List U) → with_rows before same rows (map row us) ≡ with_each before same row rows us
each_row before same row rows [] = refl
each_row before same row rows (u ∷ us) = each_row before same row (with_row before same rows (row u)) us
