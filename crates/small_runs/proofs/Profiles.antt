-- A profile of given counts: a row for each address with a count.
use Rattle.std.proofs.Common.{◌≡◌, ℕ, zero, suc, ◌+◌, ◌*◌, ◌%◌, ◌^◌, ◌<◌, ◌≤◌, Bool, true, false, List, [], ◌∷◌, refl, sym, ◌∙◌, ap, arith, eqb, ltb, if◌then◌else◌}
use Rattle.std.proofs.lemmas.Bool.{cond_both, cond-true, cond-false, eqb-true, eqb-false, ltb-true, ltb-false}
use Rattle.database_model.specs.declared.profiles.ProfileRow.{ProfileRow}
use Rattle.database_model.specs.Ranges.{AreRows, RowsRiseFrom}
use Rattle.growth_model.specs.Growth.{count_at, IsCounted}

-- counts at multiples of 4 below 2 ^ 64, each of at most 2 ^ 48
pub record AreCounts (counts : ℕ → ℕ) : Type 0 where
  pub most : (offset : ℕ) → counts offset ≤ 2 ^ 48
  pub at : (offset : ℕ) → 0 < counts offset → (offset % 4 ≡ 0) × (offset < 2 ^ 64)

module _ (counts : ℕ → ℕ) where
  row : ℕ → ProfileRow
  row n = record { offset = 4 * n; count = counts (4 * n) }

  -- the rows of so many addresses from one on
  rows_from : ℕ → ℕ → List ProfileRow
  unfolding row
  rows_from from zero = []
  rows_from from (suc count) = if ltb 0 (counts (4 * from)) then row from ∷ rows_from (from + 1) count else rows_from (from + 1) count

  pub profile : List ProfileRow
  profile = rows_from 0 (2 ^ 62)

  rise : AreCounts counts → (from count least : ℕ) → from + count ≤ 2 ^ 62 → least ≤ 4 * from → RowsRiseFrom least (rows_from from count)
  unfolding rows_from row
  rise are from zero least within low = tt
  rise are from (suc count) least within low =
      cond_both (ltb 0 (counts (4 * from))) (row from ∷ rows_from (from + 1) count) (rows_from (from + 1) count) (λ (l : List ProfileRow). RowsRiseFrom least l)
      (λ e. (low, omega arith, record { aligned = omega arith; some = some e; most = are.most (4 * from) }, rise are (from + 1) count (4 * from + 4) (omega arith) (omega arith)))
      (λ e. rise are (from + 1) count least (omega arith) (omega arith))
    where
      some : ltb 0 (counts (4 * from)) ≡ true → 1 ≤ counts (4 * from)
      some e = omega (arith, ltb-true 0 (counts (4 * from)) e)

  none_below : (from count offset : ℕ) → offset < 4 * from → count_at (rows_from from count) offset ≡ 0
  unfolding rows_from row
  none_below from zero offset low = refl
  none_below from (suc count) offset low =
      let rest = none_below (from + 1) count offset (omega arith) in
      cond_both (ltb 0 (counts (4 * from))) (row from ∷ rows_from (from + 1) count) (rows_from (from + 1) count) (λ (l : List ProfileRow). count_at l offset ≡ 0)
      (λ e. cond_both (eqb (4 * from) offset) (counts (4 * from)) (count_at (rows_from (from + 1) count) offset) (λ (n : ℕ). n ≡ 0)
      (λ s. absurd (off s)) (λ s. rest))
      (λ e. rest)
    where
      off : eqb (4 * from) offset ≡ true → ⊥
      off s = let same : 4 * from ≡ offset = eqb-true (4 * from) offset s in omega arith

  none_where : (from count offset : ℕ) → counts offset ≡ 0 → count_at (rows_from from count) offset ≡ 0
  unfolding rows_from row
  none_where from zero offset none = refl
  none_where from (suc count) offset none =
      let rest = none_where (from + 1) count offset none in
      cond_both (ltb 0 (counts (4 * from))) (row from ∷ rows_from (from + 1) count) (rows_from (from + 1) count) (λ (l : List ProfileRow). count_at l offset ≡ 0)
      (λ e. cond_both (eqb (4 * from) offset) (counts (4 * from)) (count_at (rows_from (from + 1) count) offset) (λ (n : ℕ). n ≡ 0)
      (λ s. ap counts (eqb-true (4 * from) offset s) ∙ none) (λ s. rest))
      (λ e. rest)

  count_there : (from count offset : ℕ) → offset % 4 ≡ 0 → 4 * from ≤ offset → offset < 4 * (from + count) → count_at (rows_from from count) offset ≡ counts offset
  unfolding rows_from row
  count_there from zero offset aligned low high = absurd (omega arith)
  count_there from (suc count) offset aligned low high = by (eqb (4 * from) offset) refl (λ low high. count_there (from + 1) count offset aligned low high)
    where
      by : (t : Bool) → eqb (4 * from) offset ≡ t → (4 * (from + 1) ≤ offset → offset < 4 * ((from + 1) + count) → count_at (rows_from (from + 1) count) offset ≡ counts offset)
          → count_at (if ltb 0 (counts (4 * from)) then row from ∷ rows_from (from + 1) count else rows_from (from + 1) count) offset ≡ counts offset
      by true t rest =
          let same : 4 * from ≡ offset = eqb-true (4 * from) offset t in
          let equal : counts (4 * from) ≡ counts offset = ap counts same in
          cond_both (ltb 0 (counts (4 * from))) (row from ∷ rows_from (from + 1) count) (rows_from (from + 1) count) (λ (l : List ProfileRow). count_at l offset ≡ counts offset)
          (λ e. cond-true (eqb (4 * from) offset) (counts (4 * from)) (count_at (rows_from (from + 1) count) offset) t ∙ equal)
          (λ e. none_below (from + 1) count offset (omega arith) ∙ zero_is (ltb-false 0 (counts (4 * from)) e) equal)
        where
          zero_is : counts (4 * from) ≤ 0 → counts (4 * from) ≡ counts offset → 0 ≡ counts offset
          zero_is l e = omega arith
      by false t rest =
          let after : 4 * (from + 1) ≤ offset = later (eqb-false (4 * from) offset t) in
          cond_both (ltb 0 (counts (4 * from))) (row from ∷ rows_from (from + 1) count) (rows_from (from + 1) count) (λ (l : List ProfileRow). count_at l offset ≡ counts offset)
          (λ e. cond-false (eqb (4 * from) offset) (counts (4 * from)) (count_at (rows_from (from + 1) count) offset) t ∙ rest after (omega arith))
          (λ e. rest after (omega arith))
        where
          later : (4 * from ≡ offset → ⊥) → 4 * (from + 1) ≤ offset
          later other = omega arith

  pub are_rows : AreCounts counts → AreRows profile
  unfolding profile
  are_rows are = rise are 0 (2 ^ 62) 0 (omega arith) (omega arith)

  pub counts_are : AreCounts counts → (offset : ℕ) → count_at profile offset ≡ counts offset
  unfolding profile
  counts_are are offset = by (ltb 0 (counts offset)) refl
    where
      by : (t : Bool) → ltb 0 (counts offset) ≡ t → count_at (rows_from 0 (2 ^ 62)) offset ≡ counts offset
      by true t = let at = are.at offset (ltb-true 0 (counts offset) t) in count_there 0 (2 ^ 62) offset at.0 (omega arith) (omega (arith, at.1))
      by false t = let none : counts offset ≡ 0 = omega (arith, ltb-false 0 (counts offset) t) in none_where 0 (2 ^ 62) offset none ∙ sym none

  -- whether there is any count
  has_rows : List ProfileRow → Bool
  has_rows [] = false
  has_rows (r ∷ rows) = true

  pub is_counted : Bool
  is_counted = has_rows profile

  counted_from : (from count : ℕ) → has_rows (rows_from from count) ≡ true → IsCounted counts
  unfolding rows_from row has_rows
  counted_from from zero some = absurd cc
  counted_from from (suc count) some = by (ltb 0 (counts (4 * from))) refl some (counted_from (from + 1) count)
    where
      by : (t : Bool) → ltb 0 (counts (4 * from)) ≡ t → has_rows (if t then row from ∷ rows_from (from + 1) count else rows_from (from + 1) count) ≡ true
          → (has_rows (rows_from (from + 1) count) ≡ true → IsCounted counts) → IsCounted counts
      by true t some rest = record { offset = 4 * from; some = ltb-true 0 (counts (4 * from)) t }
      by false t some rest = rest some

  pub counted : is_counted ≡ true → IsCounted counts
  unfolding is_counted profile
  counted some = counted_from 0 (2 ^ 62) some

  no_rows : (rows : List ProfileRow) (offset : ℕ) → has_rows rows ≡ false → count_at rows offset ≡ 0
  unfolding has_rows
  no_rows [] offset none = refl
  no_rows (r ∷ rows) offset none = absurd cc

  pub not_counted : AreCounts counts → is_counted ≡ false → IsCounted counts → ⊥
  unfolding is_counted
  not_counted are none is = let z : counts is.offset ≡ 0 = sym (counts_are are is.offset) ∙ no_rows profile is.offset none in let s : 0 < counts is.offset = is.some in omega arith
