-- Rising rows are fixed by what they count at each offset.
use Rattle.std.proofs.Common.{◌≡◌, ◌⊎◌, ◌≢◌, ℕ, ◌+◌, ◌<◌, ◌≤◌, List, [], ◌∷◌, refl, sym, ◌∙◌, arith, true, false, eqb, inl, inr}
use Rattle.std.proofs.lemmas.Bool.{cond-true, cond-false}
use Rattle.std.proofs.lemmas.Bool.Decides.{eqb_tells}
use Rattle.database_model.specs.declared.profiles.ProfileRow.{ProfileRow}
use Rattle.database_model.specs.Ranges.{RowsRiseFrom, AreRows}
use Rattle.growth_model.specs.Growth.{count_at}

here_by : (row : ProfileRow) (rows : List ProfileRow) (offset : ℕ) → row.offset ≡ offset
    → ((eqb row.offset offset ≡ true) × (row.offset ≡ offset)) ⊎ ((eqb row.offset offset ≡ false) × (row.offset ≢ offset))
    → count_at (row ∷ rows) offset ≡ row.count
here_by row rows offset at (inl is) = cond-true (eqb row.offset offset) row.count (count_at rows offset) is.0
here_by row rows offset at (inr not) = absurd (not.1 at)

here : (row : ProfileRow) (rows : List ProfileRow) (offset : ℕ) → row.offset ≡ offset → count_at (row ∷ rows) offset ≡ row.count
here row rows offset at = here_by row rows offset at (eqb_tells row.offset offset)

there_by : (row : ProfileRow) (rows : List ProfileRow) (offset : ℕ) → row.offset ≢ offset
    → ((eqb row.offset offset ≡ true) × (row.offset ≡ offset)) ⊎ ((eqb row.offset offset ≡ false) × (row.offset ≢ offset))
    → count_at (row ∷ rows) offset ≡ count_at rows offset
there_by row rows offset apart (inl is) = absurd (apart is.1)
there_by row rows offset apart (inr not) = cond-false (eqb row.offset offset) row.count (count_at rows offset) not.0

there : (row : ProfileRow) (rows : List ProfileRow) (offset : ℕ) → row.offset ≢ offset → count_at (row ∷ rows) offset ≡ count_at rows offset
there row rows offset apart = there_by row rows offset apart (eqb_tells row.offset offset)

-- nothing is counted below the first of rising rows
none_below : (least : ℕ) (rows : List ProfileRow) (offset : ℕ) → RowsRiseFrom least rows → offset < least → count_at rows offset ≡ 0
none_below least [] offset rise below = refl
none_below least (row ∷ rows) offset rise below =
    let first : least ≤ row.offset = rise.0 in
    let apart : row.offset ≢ offset = λ is. omega arith in
    there row rows offset apart ∙ none_below (row.offset + 4) rows offset rise.3 (omega arith)

-- the first of rising rows is not before the first of others that count the same
not_before : (row other : ProfileRow) (rows others : List ProfileRow) (least : ℕ)
    → 1 ≤ row.count → RowsRiseFrom least (other ∷ others)
    → count_at (row ∷ rows) row.offset ≡ count_at (other ∷ others) row.offset → row.offset < other.offset → ⊥
not_before row other rows others least some rises same before =
    let counted : count_at (row ∷ rows) row.offset ≡ row.count = here row rows row.offset refl in
    let nothing : count_at (other ∷ others) row.offset ≡ 0 =
    none_below other.offset (other ∷ others) row.offset (omega arith, rises.1, rises.2, rises.3) before in
    let none : row.count ≡ 0 = sym counted ∙ same ∙ nothing in
    omega arith

tail_same : (row other : ProfileRow) (rows others : List ProfileRow) → RowsRiseFrom (row.offset + 4) rows
    → RowsRiseFrom (other.offset + 4) others → row.offset ≡ other.offset
    → ((offset : ℕ) → count_at (row ∷ rows) offset ≡ count_at (other ∷ others) offset)
    → (offset : ℕ) → ((eqb row.offset offset ≡ true) × (row.offset ≡ offset)) ⊎ ((eqb row.offset offset ≡ false) × (row.offset ≢ offset))
    → count_at rows offset ≡ count_at others offset
tail_same row other rows others rise rises at same offset (inl is) =
    let is_at : row.offset ≡ offset = is.1 in
    none_below (row.offset + 4) rows offset rise (omega arith)
    ∙ sym (none_below (other.offset + 4) others offset rises (omega arith))
tail_same row other rows others rise rises at same offset (inr not) =
    let apart : other.offset ≢ offset = λ is. not.1 (at ∙ is) in
    sym (there row rows offset not.1) ∙ same offset ∙ there other others offset apart

same_rows : (least low : ℕ) (rows others : List ProfileRow) → RowsRiseFrom least rows → RowsRiseFrom low others
    → ((offset : ℕ) → count_at rows offset ≡ count_at others offset) → rows ≡ others
same_rows least low [] [] rise rises same = refl
same_rows least low [] (other ∷ others) rise rises same =
    let none : 0 ≡ other.count = same other.offset ∙ here other others other.offset refl in
    let some : 1 ≤ other.count = rises.2.some in
    absurd (omega arith)
same_rows least low (row ∷ rows) [] rise rises same =
    let none : row.count ≡ 0 = sym (here row rows row.offset refl) ∙ same row.offset in
    let some : 1 ≤ row.count = rise.2.some in
    absurd (omega arith)
same_rows least low (row ∷ rows) (other ∷ others) rise rises same =
    let above : row.offset < other.offset → ⊥ = not_before row other rows others low rise.2.some rises (same row.offset) in
    let below : other.offset < row.offset → ⊥ = not_before other row others rows least rises.2.some rise (sym (same other.offset)) in
    let at : row.offset ≡ other.offset = omega arith in
    let count : row.count ≡ other.count =
    sym (here row rows row.offset refl) ∙ same row.offset ∙ here other others row.offset (sym at) in
    let tails : rows ≡ others = same_rows (row.offset + 4) (other.offset + 4) rows others rise.3 rises.3
    (λ offset. tail_same row other rows others rise.3 rises.3 at same offset (eqb_tells row.offset offset)) in
    λ i. record { offset = at i; count = count i } ∷ tails i

pub rows_are_one : (rows others : List ProfileRow) → AreRows rows → AreRows others
    → ((offset : ℕ) → count_at rows offset ≡ count_at others offset) → rows ≡ others
rows_are_one rows others rise rises same = same_rows 0 0 rows others rise rises same
