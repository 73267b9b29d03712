-- Rows in their order, and what rows more change.
use Rattle.std.proofs.Common.{arith, ◌≡◌, ℕ, suc, ◌+◌, ◌⊎◌, inl, inr, Bool, true, false, cond, ◌&&◌, List, [], ◌∷◌, None, Some, Option, length, map, refl, sym, ap, ◌∙◌}
use Rattle.std.specs.Prelude.{not, is_some, find, fold, count_by}
use Rattle.std.specs.List.{list_all}
use Rattle.std.proofs.lemmas.List.Sums.{sum_by-cons}
pub use Rattle.head_file.proofs.Front.{and_first, and_second, both}
use Rattle.database_state.specs.Orders.{IsOrder}
use Rattle.database_state.proofs.RowOrders.{none_before}
use Rattle.database_state.specs.Rows.{is_before_first, is_rising, with_row}

pub cases : (b : Bool) → (b ≡ true) ⊎ (b ≡ false)
cases true = inl refl
cases false = inr refl

-- ---- one row more

first_with : {R : Type 0} (before same : R → R → Bool) (x : R) (rows : List R) (r : R) → is_before_first before x rows ≡ true → before x r ≡ true → is_before_first before x (with_row before same rows r) ≡ true
first_with before same x [] r first below = below
first_with before same x (y ∷ rows) r first below = elim (cases (before r y)) [
  | inl holds ↦ rw holds below
  | inr fails ↦ elim (cases (same r y)) [ inl holds ↦ rw (fails, holds) below | inr apart ↦ rw (fails, apart) first ]
]

first_as : {R : Type 0} {before same : R → R → Bool} → IsOrder before same → (r x : R) (rows : List R) → same r x ≡ true → is_before_first before x rows ≡ true → is_before_first before r rows ≡ true
first_as order r x [] is first = refl
first_as order r x (y ∷ rows) is first = order.as_left r x y is first

pub rises_with : {R : Type 0} {before same : R → R → Bool} → IsOrder before same → (rows : List R) (r : R) → is_rising before rows ≡ true → is_rising before (with_row before same rows r) ≡ true
rises_with order [] r rising = refl
rises_with {before} {same} order (x ∷ rows) r rising =
    let first = and_first (is_before_first before x rows) (is_rising before rows) rising in
    let others = and_second (is_before_first before x rows) (is_rising before rows) rising in
    elim (cases (before r x)) [
      | inl holds ↦ rw holds (both _ _ holds rising)
      | inr fails ↦ elim (cases (same r x)) [
        | inl holds ↦ rw (fails, holds) (both _ _ (first_as order r x rows holds first) others)
        | inr apart ↦ rw (fails, apart) (both _ _ (first_with before same x rows r first (order.other r x fails apart)) (rises_with order rows r others))
      ]
    ]

-- the row of a place, where another row was put
pub find_with : {R : Type 0} {before same : R → R → Bool} → IsOrder before same → (p : R) (rows : List R) (r : R) → find (same p) (with_row before same rows r) ≡ cond (same p r) (Some r) (find (same p) rows)
find_with order p [] r = refl
find_with {R} {before} {same} order p (x ∷ rows) r = elim (cases (before r x)) [
  | inl holds ↦ rw holds refl
  | inr fails ↦ elim (cases (same r x)) [
    | inl holds ↦ rw (fails, holds) (taken (cases (same p r)) holds)
    | inr apart ↦ rw (fails, apart) (kept (find_with order p rows r) (cases (same p x)) apart)
  ]
]
  where
    taken : (same p r ≡ true) ⊎ (same p r ≡ false) → same r x ≡ true → cond (same p r) (Some r) (find (same p) rows) ≡ cond (same p r) (Some r) (cond (same p x) (Some x) (find (same p) rows))
    taken (inl holds) is = rw holds refl
    taken (inr fails) is =
        let other : same p x ≡ false = order.symm p x ∙ sym (order.joins r x p is) ∙ order.symm r p ∙ fails in
        rw (fails, other) refl

    kept : find (same p) (with_row before same rows r) ≡ cond (same p r) (Some r) (find (same p) rows) → (same p x ≡ true) ⊎ (same p x ≡ false) → same r x ≡ false → cond (same p x) (Some x) (find (same p) (with_row before same rows r)) ≡ cond (same p r) (Some r) (cond (same p x) (Some x) (find (same p) rows))
    kept others (inl holds) apart =
        let other : same p r ≡ false = order.joins p x r holds ∙ order.symm x r ∙ apart in
        rw (holds, other) refl
    kept others (inr fails) apart = rw fails others

-- how many rows there are then
abbrev pub one_or_none : {R : Type 0} → Option R → ℕ
one_or_none o = cond (not (is_some o)) 1 0

pub length_with : {R : Type 0} {before same : R → R → Bool} → IsOrder before same → (rows : List R) (r : R) → is_rising before rows ≡ true → length (with_row before same rows r) ≡ length rows + one_or_none (find (same r) rows)
length_with order [] r rising = omega arith
length_with {R} {before} {same} order (x ∷ rows) r rising =
    let first = and_first (is_before_first before x rows) (is_rising before rows) rising in
    let others = and_second (is_before_first before x rows) (is_rising before rows) rising in
    elim (cases (before r x)) [
      | inl holds ↦
          let none : one_or_none (find (same r) (x ∷ rows)) ≡ 1 = ap one_or_none (none_before order r (x ∷ rows) holds rising) in
          let size : length (with_row before same (x ∷ rows) r) ≡ 1 + length (x ∷ rows) = rw holds (counted (length (x ∷ rows))) in
          omega arith
      | inr fails ↦ elim (cases (same r x)) [
        | inl holds ↦
            let some : one_or_none (find (same r) (x ∷ rows)) ≡ 0 = rw holds refl in
            let size : length (with_row before same (x ∷ rows) r) ≡ length (x ∷ rows) = rw (fails, holds) refl in
            omega arith
        | inr apart ↦
            let same_rows : one_or_none (find (same r) (x ∷ rows)) ≡ one_or_none (find (same r) rows) = rw apart refl in
            let size : length (with_row before same (x ∷ rows) r) ≡ 1 + length (with_row before same rows r) = rw (fails, apart) (counted (length (with_row before same rows r))) in
            let more : length (x ∷ rows) ≡ 1 + length rows = counted (length rows) in
            let induction = length_with order rows r others in
            omega arith
      ]
    ]
  where
    counted : (n : ℕ) → suc n ≡ 1 + n
    counted n = omega arith

-- a test that all rows pass
pub passes_with : {R : Type 0} (before same : R → R → Bool) (test : R → Bool) (rows : List R) (r : R) → list_all test rows ≡ true → test r ≡ true → list_all test (with_row before same rows r) ≡ true
passes_with before same test [] r all passes = both (test r) true passes refl
passes_with before same test (x ∷ rows) r all passes =
    let first = and_first (test x) (list_all test rows) all in
    let others = and_second (test x) (list_all test rows) all in
    elim (cases (before r x)) [
      | inl holds ↦ rw holds (both (test r) (list_all test (x ∷ rows)) passes all)
      | inr fails ↦ elim (cases (same r x)) [
        | inl holds ↦ rw (fails, holds) (both (test r) (list_all test rows) passes others)
        | inr apart ↦ rw (fails, apart) (both (test x) (list_all test (with_row before same rows r)) first (passes_with before same test rows r others passes))
      ]
    ]

-- ---- one row for each of a list

-- the rows with one more for each
abbrev pub with_each : {R U : Type 0} → (R → R → Bool) → (R → R → Bool) → (U → R) → List R → List U → List R
with_each before same row rows us = fold (λ held u. with_row before same held (row u)) rows us

pub rises_each : {R U : Type 0} {before same : R → R → Bool} → IsOrder before same → (row : U → R) (rows : List R) (us : List U) → is_rising before rows ≡ true → is_rising before (with_each before same row rows us) ≡ true
rises_each order row rows [] rising = rising
rises_each {before = before} {same = same} order row rows (u ∷ us) rising = rises_each order row (with_row before same rows (row u)) us (rises_with order rows (row u) rising)

pub passes_each : {R U : Type 0} (before same : R → R → Bool) (test : R → Bool) (row : U → R) (rows : List R) (us : List U) → list_all test rows ≡ true → list_all (λ u. test (row u)) us ≡ true → list_all test (with_each before same row rows us) ≡ true
passes_each before same test row rows [] all each = all
passes_each before same test row rows (u ∷ us) all each =
    passes_each before same test row (with_row before same rows (row u)) us
    (passes_with before same test rows (row u) all (and_first (test (row u)) (list_all (λ v. test (row v)) us) each))
    (and_second (test (row u)) (list_all (λ v. test (row v)) us) each)

-- none of those behind is of the place of the first
abbrev pub Follow : {R U : Type 0} → (R → R → Bool) → (U → R) → R → List U → Type 0
Follow before row r us = (is_before_first before r (map row us) ≡ true) × (is_rising before (map row us) ≡ true)

pub follow_next : {R U : Type 0} {before same : R → R → Bool} → IsOrder before same → (row : U → R) (r : R) (u : U) (us : List U) → Follow before row r (u ∷ us) → (before r (row u) ≡ true) × Follow before row r us
follow_next {before = before} order row r u [] follow = (follow.0, (refl, refl))
follow_next {before = before} order row r u (v ∷ us) follow =
    let rising = and_second (before (row u) (row v)) (is_rising before (map row (v ∷ us))) follow.1 in
    let next = and_first (before (row u) (row v)) (is_rising before (map row (v ∷ us))) follow.1 in
    (follow.0, (order.beyond r (row u) (row v) follow.0 next, rising))

none_of_place : {R U : Type 0} {before same : R → R → Bool} → IsOrder before same → (row : U → R) (p r : R) (us : List U) → same p r ≡ true → Follow before row r us → find (λ v. same p (row v)) us ≡ None
none_of_place order row p r [] is follow = refl
none_of_place {before = before} {same = same} order row p r (u ∷ us) is follow =
    let parts = follow_next order row r u us follow in
    let other : same p (row u) ≡ false = order.joins p r (row u) is ∙ order.apart r (row u) parts.0 in
    rw other (none_of_place order row p r us is parts.1)

-- what was put for a place, or else what stood there
abbrev pub or_else : {R U : Type 0} → (U → R) → Option U → Option R → Option R
or_else row None o = o
or_else row (Some u) o = Some (row u)

pub find_each : {R U : Type 0} {before same : R → R → Bool} → IsOrder before same → (row : U → R) (p : R) (rows : List R) (us : List U) → is_rising before (map row us) ≡ true → find (same p) (with_each before same row rows us) ≡ or_else row (find (λ u. same p (row u)) us) (find (same p) rows)
find_each order row p rows [] rising = refl
find_each {R} {U} {before} {same} order row p rows (u ∷ us) rising =
    let first = and_first (is_before_first before (row u) (map row us)) (is_rising before (map row us)) rising in
    let others = and_second (is_before_first before (row u) (map row us)) (is_rising before (map row us)) rising in
    find_each order row p (with_row before same rows (row u)) us others
    ∙ ap (or_else row (find (λ v. same p (row v)) us)) (find_with order p rows (row u))
    ∙ joined (cases (same p (row u))) (first, others)
  where
    joined : (same p (row u) ≡ true) ⊎ (same p (row u) ≡ false) → Follow before row (row u) us → or_else row (find (λ v. same p (row v)) us) (cond (same p (row u)) (Some (row u)) (find (same p) rows)) ≡ or_else row (cond (same p (row u)) (Some u) (find (λ v. same p (row v)) us)) (find (same p) rows)
    joined (inl holds) follow = rw (holds, none_of_place order row p (row u) us holds follow) refl
    joined (inr fails) follow = rw fails refl

-- places that had no row
abbrev pub is_new : {R U : Type 0} → (R → R → Bool) → (U → R) → List R → U → Bool
is_new same row rows u = not (is_some (find (same (row u)) rows))

same_new : {R U : Type 0} {before same : R → R → Bool} → IsOrder before same → (row : U → R) (rows : List R) (r : R) (us : List U) → Follow before row r us → count_by (is_new same row (with_row before same rows r)) us ≡ count_by (is_new same row rows) us
same_new order row rows r [] follow = refl
same_new {R} {U} {before} {same} order row rows r (u ∷ us) follow =
    let parts = follow_next order row r u us follow in
    let other : same (row u) r ≡ false = order.symm (row u) r ∙ order.apart r (row u) parts.0 in
    let found : find (same (row u)) (with_row before same rows r) ≡ find (same (row u)) rows = find_with order (row u) rows r ∙ rw other refl in
    let one : is_new same row (with_row before same rows r) u ≡ is_new same row rows u = ap (λ o. not (is_some o)) found in
    let after = with_row before same rows r in
    sum_by-cons (λ v. cond (is_new same row after v) 1 0) u us
    ∙ ap (λ b. cond b 1 0 + count_by (is_new same row after) us) one
    ∙ ap (λ n. cond (is_new same row rows u) 1 0 + n) (same_new order row rows r us parts.1)
    ∙ sym (sum_by-cons (λ v. cond (is_new same row rows v) 1 0) u us)

pub length_each : {R U : Type 0} {before same : R → R → Bool} → IsOrder before same → (row : U → R) (rows : List R) (us : List U) → is_rising before rows ≡ true → is_rising before (map row us) ≡ true → length (with_each before same row rows us) ≡ length rows + count_by (is_new same row rows) us
length_each order row rows [] rising each = omega arith
length_each {R} {U} {before} {same} order row rows (u ∷ us) rising each =
    let first = and_first (is_before_first before (row u) (map row us)) (is_rising before (map row us)) each in
    let others = and_second (is_before_first before (row u) (map row us)) (is_rising before (map row us)) each in
    let after = with_row before same rows (row u) in
    let induction = length_each order row after us (rises_with order rows (row u) rising) others in
    let size = length_with order rows (row u) rising in
    let count = same_new order row rows (row u) us (first, others) in
    let split : count_by (is_new same row rows) (u ∷ us) ≡ one_or_none (find (same (row u)) rows) + count_by (is_new same row rows) us = sum_by-cons (λ v. cond (is_new same row rows v) 1 0) u us in
    omega arith

-- the same order, whatever the generation
pub same_rising : {R U : Type 0} (before : R → R → Bool) (a b : U → R) → ((u v : U) → before (a u) (a v) ≡ before (b u) (b v)) → (us : List U) → is_rising before (map a us) ≡ is_rising before (map b us)
same_rising before a b same [] = refl
same_rising before a b same (u ∷ []) = refl
same_rising before a b same (u ∷ v ∷ us) = ap (λ t. t && is_rising before (map a (v ∷ us))) (same u v) ∙ ap (λ t. before (b u) (b v) && t) (same_rising before a b same (v ∷ us))
