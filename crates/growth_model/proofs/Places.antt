-- Rising rows are fixed by what is found at each place.
use Rattle.std.proofs.Common.{arith, ◌≡◌, ◌⊎◌, inl, inr, Bool, true, false, List, [], ◌∷◌, None, Some, refl, sym, ap, ◌∙◌}
use Rattle.std.specs.Prelude.{find}
use Rattle.store_io.proofs.History.{and_first, and_second}
use Rattle.database_state.specs.Orders.{IsOrder}
use Rattle.database_state.proofs.RowOrders.{none_before}
use Rattle.database_state.specs.Rows.{is_before_first, is_rising}

cases : (b : Bool) → (b ≡ true) ⊎ (b ≡ false)
cases true = inl refl
cases false = inr refl

-- rows that rise from a place on do not have an earlier one
missing : {R : Type 0} (before same : R → R → Bool) → IsOrder before same → (r o : R) (rows others : List R)
    → before r o ≡ true → is_rising before (o ∷ others) ≡ true → find (same r) (r ∷ rows) ≡ find (same r) (o ∷ others) → ⊥
missing {R} before same order r o rows others earlier rising finds =
    let found : find (same r) (r ∷ rows) ≡ Some r = rw (order.own r) refl in
    let none : find (same r) (o ∷ others) ≡ None = none_before order r (o ∷ others) earlier rising in
    let both : Some r ≡ None = sym found ∙ finds ∙ none in
    absurd (cc)

-- what is found at a place is found at every row of it
found_alike : {R : Type 0} (before same : R → R → Bool) → IsOrder before same → (p r : R) (rows : List R) → same p r ≡ true
    → find (same p) rows ≡ find (same r) rows
found_alike before same order p r rows is = λ i. find (λ c. order.joins p r c is i) rows

tail_finds : {R : Type 0} (before same : R → R → Bool) → IsOrder before same → (r o : R) (rows others : List R) → r ≡ o
    → is_rising before (r ∷ rows) ≡ true → is_rising before (o ∷ others) ≡ true → (p : R)
    → find (same p) (r ∷ rows) ≡ find (same p) (o ∷ others) → (same p r ≡ true) ⊎ (same p r ≡ false)
    → find (same p) rows ≡ find (same p) others
tail_finds before same order r o rows others at rise rises p finds (inl is) =
    let is_other : same p o ≡ true = sym (ap (same p) at) ∙ is in
    found_alike before same order p r rows is
    ∙ none_before order r rows (and_first (is_before_first before r rows) (is_rising before rows) rise)
    (and_second (is_before_first before r rows) (is_rising before rows) rise)
    ∙ sym (none_before order o others (and_first (is_before_first before o others) (is_rising before others) rises)
    (and_second (is_before_first before o others) (is_rising before others) rises))
    ∙ sym (found_alike before same order p o others is_other)
tail_finds before same order r o rows others at rise rises p finds (inr apart) =
    let apart_other : same p o ≡ false = sym (ap (same p) at) ∙ apart in
    rw (apart, apart_other) at finds

joined : {R : Type 0} (before same : R → R → Bool) → IsOrder before same → (r o : R) (rows others : List R)
    → is_rising before (r ∷ rows) ≡ true → is_rising before (o ∷ others) ≡ true → same r o ≡ true
    → ((p : R) → find (same p) (r ∷ rows) ≡ find (same p) (o ∷ others))
    → (((p : R) → find (same p) rows ≡ find (same p) others) → rows ≡ others) → r ∷ rows ≡ o ∷ others
joined {R} before same order r o rows others rise rises is finds rest =
    let found : find (same r) (r ∷ rows) ≡ Some r = rw (order.own r) refl in
    let there : find (same r) (o ∷ others) ≡ Some o = rw is refl in
    let both : Some r ≡ Some o = sym found ∙ finds r ∙ there in
    let at : r ≡ o = cc in
    let tails : rows ≡ others = rest (λ p. tail_finds before same order r o rows others at rise rises p (finds p) (cases (same p r))) in
    λ i. at i ∷ tails i

pub rows_are_found : {R : Type 0} (before same : R → R → Bool) → IsOrder before same → (rows others : List R)
    → is_rising before rows ≡ true → is_rising before others ≡ true
    → ((p : R) → find (same p) rows ≡ find (same p) others) → rows ≡ others
rows_are_found before same order [] [] rise rises finds = refl
rows_are_found {R} before same order [] (o ∷ others) rise rises finds =
    let found : find (same o) (o ∷ others) ≡ Some o = rw (order.own o) refl in
    let both : None ≡ Some o = finds o ∙ found in
    absurd (cc)
rows_are_found {R} before same order (r ∷ rows) [] rise rises finds =
    let found : find (same r) (r ∷ rows) ≡ Some r = rw (order.own r) refl in
    let both : Some r ≡ None = sym found ∙ finds r in
    absurd (cc)
rows_are_found {R} before same order (r ∷ rows) (o ∷ others) rise rises finds =
    elim (cases (before r o)) [
      | inl earlier ↦ absurd (missing before same order r o rows others earlier rises (finds r))
      | inr later ↦ elim (cases (same r o)) [
        | inl is ↦ joined before same order r o rows others rise rises is finds (λ found. rows_are_found before same order rows others
            (and_second (is_before_first before r rows) (is_rising before rows) rise)
            (and_second (is_before_first before o others) (is_rising before others) rises) found)
        | inr apart ↦ absurd (missing before same order o r others rows (order.other r o later apart) rise (sym (finds o)))
      ]
    ]
