-- A part takes no row from the head, and adds the one of its segment: so along a run the rows of the head never fall.
use Rattle.std.proofs.Common.{◌≡◌, ◌≤◌, ◌<◌, inl, inr, ℕ, zero, suc, true, false, Bool, List, [], ◌∷◌, length, refl, sym, subst, arith, ◌∙◌}
use Rattle.std.proofs.Math.Nat.{eq-or-lt_of_le}
use Rattle.std.specs.Prelude.{find}
use Rattle.std.specs.declared.option.Option.{Option}
use Rattle.std.specs.declared.option.Option.TheVariants.{Some, None}
use Rattle.trace_model.specs.declared.notices.Record.{Record}
use Rattle.database_model.specs.Runs.{Segment, Recorded}
use Rattle.database_state.specs.Heads.{Head, row_count}
use Rattle.database_state.specs.Rows.{known_before, unknown_before, is_before_first, is_rising}
use Rattle.database_state.specs.Orders.{IsOrder}
use Rattle.database_state.proofs.RowOrders.{known_order, none_before, unknown_order}
use Rattle.epoch_store.proofs.Order.{and_first, and_second, cases}
use Rattle.growth_model.specs.Additions.{Additions}
use Rattle.growth_model.specs.Fitting.{HeadGrows, HeadGrowsTo, RowGrows}

-- ---- rows with a place for each of others

-- the place of the first row is found
found_first : {R : Type 0} {before same : R → R → Bool} → IsOrder before same → (r : R) (rows : List R) → find (same r) (r ∷ rows) ≡ None → ⊥
found_first {R} {before} {same} order r rows none =
    let found : find (same r) (r ∷ rows) ≡ Some r = rw (order.own r) refl in
    let both : Some r ≡ None = sym found ∙ none in
    absurd (cc)

-- behind a row its place is not found again
none_behind : {R : Type 0} {before same : R → R → Bool} → IsOrder before same → (p r : R) (rows : List R) → same p r ≡ true
    → is_rising before (r ∷ rows) ≡ true → find (same p) rows ≡ None
none_behind {R} {before} {same} order p r rows is rise =
    let alike : find (same p) rows ≡ find (same r) rows = λ i. find (λ c. order.joins p r c is i) rows in
    alike ∙ none_before order r rows (and_first (is_before_first before r rows) (is_rising before rows) rise) (and_second (is_before_first before r rows) (is_rising before rows) rise)

-- nor before the first one
none_ahead : {R : Type 0} {before same : R → R → Bool} → IsOrder before same → (p o r : R) (rows : List R) → same p o ≡ true
    → before o r ≡ true → is_rising before (r ∷ rows) ≡ true → find (same p) (r ∷ rows) ≡ None
none_ahead {R} {before} {same} order p o r rows is first rise =
    let alike : find (same p) (r ∷ rows) ≡ find (same o) (r ∷ rows) = λ i. find (λ c. order.joins p o c is i) (r ∷ rows) in
    alike ∙ none_before order o (r ∷ rows) first rise

-- what is found behind both rows of one place
both_behind : {R : Type 0} {before same : R → R → Bool} → IsOrder before same → (r o : R) (rows others : List R) → is_rising before (r ∷ rows) ≡ true
    → same r o ≡ true → ((p : R) → find (same p) (o ∷ others) ≡ None → find (same p) (r ∷ rows) ≡ None)
    → (p : R) → find (same p) others ≡ None → find (same p) rows ≡ None
both_behind {R} {before} {same} order r o rows others rise is held p none = elim (cases (same p r)) [
  | inl here ↦ none_behind order p r rows here rise
  | inr apart ↦
      let other : same p o ≡ false = order.symm p o ∙ sym (order.joins r o p is) ∙ order.symm r p ∙ apart in
      let gone : find (same p) (o ∷ others) ≡ None = rw other none in
      rw apart at (held p gone)
]

-- what is found behind a row of another place
one_behind : {R : Type 0} {before same : R → R → Bool} → IsOrder before same → (r o : R) (rows others : List R) → is_rising before (r ∷ rows) ≡ true
    → before o r ≡ true → ((p : R) → find (same p) (o ∷ others) ≡ None → find (same p) (r ∷ rows) ≡ None)
    → (p : R) → find (same p) others ≡ None → find (same p) (r ∷ rows) ≡ None
one_behind {R} {before} {same} order r o rows others rise first held p none = elim (cases (same p o)) [
  | inl here ↦ none_ahead order p o r rows here first rise
  | inr apart ↦ held p (rw apart none)
]

-- where each place has a row, there are as many rows
as_many : {R : Type 0} {before same : R → R → Bool} → IsOrder before same → (rows others : List R)
    → is_rising before rows ≡ true → is_rising before others ≡ true
    → ((p : R) → find (same p) others ≡ None → find (same p) rows ≡ None) → length rows ≤ length others
as_many order [] others rise rises held = omega arith
as_many order (r ∷ rows) [] rise rises held = absurd (found_first order r rows (held r refl))
as_many {R} {before} {same} order (r ∷ rows) (o ∷ others) rise rises held =
    let rest = and_second (is_before_first before r rows) (is_rising before rows) rise in
    let rests = and_second (is_before_first before o others) (is_rising before others) rises in
    elim (cases (before r o)) [
      | inl earlier ↦ absurd (found_first order r rows (held r (none_before order r (o ∷ others) earlier rises)))
      | inr later ↦ elim (cases (same r o)) [
        | inl is ↦
            let fewer : length rows ≤ length others = as_many order rows others rest rests (both_behind order r o rows others rise is held) in
            omega (arith, fewer)
        | inr apart ↦
            let fewer : length (r ∷ rows) ≤ length others = as_many order (r ∷ rows) others rise rests
            (one_behind order r o rows others rise (order.other r o later apart) held) in
            omega (arith, fewer)
      ]
    ]

-- ---- the rows of a head

-- a place that has no row had none
had_none : {R : Type 0} (IsAddedTo : Type 0) (written : R) (before after : Option R) → RowGrows IsAddedTo written before after → after ≡ None → before ≡ None
had_none IsAddedTo written before after (inl anew) none = let both : Some written ≡ None = sym anew.1 ∙ none in absurd (cc)
had_none IsAddedTo written before after (inr as_it_was) none = sym as_it_was.1 ∙ none

-- the rows stand in their order
pub record AreInOrder (head : Head) : Type 0 where
  pub known : is_rising known_before head.known ≡ true
  pub unknown : is_rising unknown_before head.unknown ≡ true

-- a part adds rows
more_rows : (images : List (List ℕ)) (added : Additions) (epoch : ℕ) (segment : Segment) (head new : Head) → AreInOrder head
    → HeadGrows images added epoch segment head new → row_count head < row_count new
more_rows images added epoch segment head new order grows =
    let known : length head.known ≤ length new.known = as_many known_order head.known new.known order.known grows.known_order
    (λ p. had_none _ _ _ _ (grows.known p.epoch p.image p.event)) in
    let unknown : length head.unknown ≤ length new.unknown = as_many unknown_order head.unknown new.unknown order.unknown grows.unknown_order
    (λ p. had_none _ _ _ _ (grows.unknown p.epoch p.event)) in
    omega (arith, known, unknown, grows.generation)

-- after the first parts the rows stand in their order still
still_in_order : (images : List (List ℕ)) (records : List Record) (kept : Recorded) (parts : ℕ) (begin new : Head) → AreInOrder begin
    → HeadGrowsTo images records kept parts begin new → AreInOrder new
still_in_order images records kept zero begin new order steps = subst AreInOrder (sym steps) order
still_in_order images records kept (suc part) begin new order (before, steps, grows) = record { known = grows.known_order; unknown = grows.unknown_order }

-- The head after the first parts, on the way to one after more: it has no more rows.
pub head_before : (images : List (List ℕ)) (records : List Record) (kept : Recorded) (m n : ℕ) (begin new : Head) → AreInOrder begin → m ≤ n
    → HeadGrowsTo images records kept n begin new → (middle : Head) × HeadGrowsTo images records kept m begin middle × (row_count middle ≤ row_count new)
head_before images records kept m zero begin new order few steps =
    (new, subst (λ k. HeadGrowsTo images records kept k begin new) (none few) steps, omega arith)
  where
    none : m ≤ 0 → 0 ≡ m
    none few = omega arith
head_before images records kept m (suc n) begin new order few (before, steps, grows) = elim (eq-or-lt_of_le few) [
  | inl same ↦ (new, subst (λ k. HeadGrowsTo images records kept k begin new) (sym same) (before, steps, grows), omega arith)
  | inr below ↦ further (head_before images records kept m n begin before order (omega (arith, below)) steps)
      (more_rows _ _ _ _ before new (still_in_order images records kept n begin before order steps) grows)
]
  where
    further : (middle : Head) × HeadGrowsTo images records kept m begin middle × (row_count middle ≤ row_count before) → row_count before < row_count new
        → (middle : Head) × HeadGrowsTo images records kept m begin middle × (row_count middle ≤ row_count new)
    further (middle, first, less) more = (middle, first, omega (arith, less, more))
