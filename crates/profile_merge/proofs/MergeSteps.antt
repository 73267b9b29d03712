-- Sums merged into rows so far.
use Rattle.std.proofs.Common.{arith, ◌≡◌, ℕ, ◌+◌, ◌^◌, ◌<◌, ◌≤◌, Bool, true, false, eqb, List, [], ◌∷◌, ◌++◌, length, drop, refl, sym, ap, ◌∙◌, subst, append_assoc}
use Rattle.std.specs.Prelude.{◌==◌, if◌then◌else◌, All, slice_index_or}
use Rattle.std.proofs.lemmas.Bool.{eqb-true, eq-eqb}
use Rattle.std.proofs.lemmas.Bool.Decides.{nat_tests}
use Rattle.std.proofs.lemmas.List.{append-nil, drop_more, drop-drop}
use Rattle.database_model.specs.declared.profiles.ProfileRow.{ProfileRow}
use Rattle.database_model.specs.Ranges.{IsRow, AreRows}
use Rattle.database_state.specs.declared.faults.DbFault.{DbFault}
use Rattle.database_state.specs.declared.faults.DbFault.TheVariants.{StoreFault, Bad, Full, Memory}
use Rattle.profile_merge.specs.declared.owners.Owner.{Owner}
use Rattle.growth_model.specs.Growth.{count_at, AreGrown}
use Rattle.profile_merge.specs.Sums.{Counts, sum_at, CountsRiseFrom, AreCounts}
use Rattle.profile_merge.specs.Faults.{IsOver}
use Rattle.profile_merge.specs.Merging.{AllBelow, BeginsFrom, first_count, row_at, taken, IsFull, IsFullAt}
use Rattle.profile_merge.proofs.Rows.{pushable, rows_behind, rows_before, all_lower, below_push, rows_around, none_above, count_append, first_there, taken_rise, taken_counts, count_most, SumsBelow, no_sum_above, no_sum_under, sum_append, sums_below_push}

-- The first sums are merged: the rows that are out and those that are left count them, and the others rise from a bound on.
pub record MergedSoFar (rows : List ProfileRow) (sums : Counts) (out rest : List ProfileRow) (left : Counts) : Type 0 where
  pub bound : ℕ
  pub done : Counts
  pub whole : sums ≡ done ++ left
  pub left_rise : CountsRiseFrom bound left
  pub done_below : SumsBelow bound done
  pub out_below : AllBelow bound out
  pub are_rows : AreRows (out ++ rest)
  pub counts : (o : ℕ) → count_at (out ++ rest) o ≡ count_at rows o + sum_at done o

counts_rise : (sums : Counts) → AreCounts sums → CountsRiseFrom 0 sums
counts_rise [] are = tt
counts_rise (s ∷ sums) are = are

no_more : (n : ℕ) → n ≡ n + 0
no_more n = omega arith

-- the rows from an index on are left
abbrev pub MergedTo : List ProfileRow → Counts → List ProfileRow → ℕ → Counts → Type 0
MergedTo rows sums out at left = (at ≤ length rows) × MergedSoFar rows sums out (drop at rows) left

pub none_merged : (rows : List ProfileRow) (sums : Counts) → AreRows rows → AreCounts sums → MergedSoFar rows sums [] rows sums
none_merged rows sums rise are = record {
  bound = 0;
  done = [];
  whole = refl;
  left_rise = counts_rise sums are;
  done_below = tt;
  out_below = tt;
  are_rows = rise;
  counts = λ o. no_more (count_at rows o);
}

-- ---- the rows below an offset were copied, and those from it on are left
pub record CopiedTo (offset : ℕ) (out rest out1 rest1 : List ProfileRow) : Type 0 where
  pub whole : out1 ++ rest1 ≡ out ++ rest
  pub below : AllBelow offset out → AllBelow offset out1
  pub from : BeginsFrom offset rest1

counted_here : (offset count : ℕ) (rest : List ProfileRow) (o : ℕ) (b : Bool) → eqb offset o ≡ b → AreRows rest → BeginsFrom offset rest
    → (if b then first_count offset rest + count else count_at (taken offset rest) o) ≡ count_at rest o + (if b then count else 0)
counted_here offset count rest o true here rise from =
    let at : offset ≡ o = eqb-true offset o here in
    let first = first_there offset rest rise from in
    let there : count_at rest o ≡ count_at rest offset = ap (count_at rest) (sym at) in
    omega (arith, first, there)
counted_here offset count rest o false other rise from =
    let same = taken_counts offset rest o other in
    omega (arith, same)

module _ (rows : List ProfileRow) (sums : Counts) (out rest out1 rest1 : List ProfileRow) (offset count : ℕ) (left : Counts) (so : MergedSoFar rows sums out rest ((offset, count) ∷ left)) (copied : CopiedTo offset out rest out1 rest1) where
  low : so.bound ≤ offset
  low = so.left_rise.0

  pub are1 : AreRows (out1 ++ rest1)
  are1 = subst AreRows (sym copied.whole) so.are_rows

  rest_rows : AreRows rest1
  rest_rows = rows_behind out1 rest1 are1

  pub below1 : AllBelow offset out1
  below1 = copied.below (all_lower so.bound offset out low so.out_below)

  counts1 : (o : ℕ) → count_at (out1 ++ rest1) o ≡ count_at rows o + sum_at so.done o
  counts1 o = ap (λ (v : List ProfileRow). count_at v o) copied.whole ∙ so.counts o

  parts1 : (o : ℕ) → count_at (out1 ++ rest1) o ≡ count_at out1 o + count_at rest1 o
  parts1 o = count_append 0 out1 rest1 o are1

  pub one_merged : first_count offset rest1 + count ≤ 2 ^ 48 → MergedSoFar rows sums (out1 ++ row_at offset (first_count offset rest1 + count) ∷ []) (taken offset rest1) left
  one_merged room =
      let row = row_at offset (first_count offset rest1 + count) in
      let back = taken offset rest1 in
      let some : 1 ≤ count = so.left_rise.3 in
      let is : IsRow row = record { aligned = so.left_rise.2; some = omega (arith, some); most = room } in
      let around : AreRows (out1 ++ row ∷ back) = rows_around out1 row back (rows_before out1 rest1 are1) below1 so.left_rise.1 is (taken_rise offset rest1 rest_rows copied.from so.left_rise.2) in
      let list : (out1 ++ row ∷ []) ++ back ≡ out1 ++ row ∷ back = append_assoc out1 (row ∷ []) back in
      record {
        bound = offset + 1;
        done = so.done ++ (offset, count) ∷ [];
        whole = so.whole ∙ sym (append_assoc so.done ((offset, count) ∷ []) left);
        left_rise = so.left_rise.4;
        done_below = sums_below_push so.bound (offset + 1) so.done (offset, count) (omega (arith, low)) so.done_below (omega arith);
        out_below = below_push (offset + 1) out1 row (all_lower offset (offset + 1) out1 (omega arith) below1) (omega arith);
        are_rows = subst AreRows (sym list) around;
        counts = λ o.
            let whole : count_at ((out1 ++ row ∷ []) ++ back) o ≡ count_at out1 o + count_at (row ∷ back) o = ap (λ (v : List ProfileRow). count_at v o) list ∙ count_append 0 out1 (row ∷ back) o around in
            let here : count_at (row ∷ back) o ≡ count_at rest1 o + sum_at ((offset, count) ∷ []) o = counted_here offset count rest1 o (eqb offset o) refl rest_rows copied.from in
            let sum : sum_at (so.done ++ (offset, count) ∷ []) o ≡ sum_at so.done o + sum_at ((offset, count) ∷ []) o = sum_append so.bound so.done ((offset, count) ∷ []) o so.done_below (so.left_rise.0, so.left_rise.1, so.left_rise.2, so.left_rise.3, tt) in
            let before = counts1 o in
            let parts = parts1 o in
            omega (arith, whole, here, sum, before, parts);
      }

  own_sum : sum_at ((offset, count) ∷ left) offset ≡ count
  own_sum = ap (λ (b : Bool). if b then count else sum_at left offset) (eq-eqb offset offset refl)

  from_here : CountsRiseFrom offset ((offset, count) ∷ left)
  from_here = (omega arith, so.left_rise.1, so.left_rise.2, so.left_rise.3, so.left_rise.4)

  sums_are : (o : ℕ) → sum_at sums o ≡ sum_at so.done o + sum_at ((offset, count) ∷ left) o
  sums_are o = ap (λ (v : Counts). sum_at v o) so.whole ∙ sum_append so.bound so.done ((offset, count) ∷ left) o so.done_below so.left_rise

  pub is_over : 2 ^ 48 < first_count offset rest1 + count → IsOver (sum_at sums) rows offset (first_count offset rest1) count
  is_over over =
      let no_done : sum_at so.done offset ≡ 0 = no_sum_above so.bound so.done offset so.done_below low in
      let no_out : count_at out1 offset ≡ 0 = none_above offset out1 offset below1 (omega arith) in
      let first = first_there offset rest1 rest_rows copied.from in
      let counts = counts1 offset in
      let parts = parts1 offset in
      let all = sums_are offset in
      let own = own_sum in
      record {
        is_held = omega (arith, no_done, no_out, first, counts, parts);
        is_added = omega (arith, no_done, all, own);
        over = over;
        first = λ before below.
            let none : sum_at ((offset, count) ∷ left) before ≡ 0 = no_sum_under offset ((offset, count) ∷ left) before from_here below in
            let sum = sums_are before in
            let most = count_most (out1 ++ rest1) before are1 in
            let is = counts1 before in
            omega (arith, none, sum, most, is);
      }

-- ---- the end

pub all_merged : (rows : List ProfileRow) (sums : Counts) (out rest : List ProfileRow) → MergedSoFar rows sums out rest [] → AreGrown (sum_at sums) rows (out ++ rest)
all_merged rows sums out rest so =
    let all : sums ≡ so.done = so.whole ∙ append-nil so.done in
    record {
      are_rows = so.are_rows;
      counts = λ o. so.counts o ∙ ap (λ (v : Counts). count_at rows o + sum_at v o) (sym all);
    }

-- ---- copying

-- the rows from one index on to another were copied, and lie below an offset
pub record CopiedSoFar (offset : ℕ) (rows : List ProfileRow) (at i : ℕ) (out0 out : List ProfileRow) : Type 0 where
  pub whole : out ++ drop i rows ≡ out0 ++ drop at rows
  pub below : AllBelow offset out0 → AllBelow offset out

pub next_pushable : (rows : List ProfileRow) (i : ℕ) (out : List ProfileRow) (d : ProfileRow) → i < length rows → AreRows (out ++ drop i rows)
    → IsRow (slice_index_or rows i d) × All (λ held. held.offset < (slice_index_or rows i d).offset) out
next_pushable rows i out d within rise = pushable out (slice_index_or rows i d) (drop (i + 1) rows) (subst AreRows (ap (λ (l : List ProfileRow). out ++ l) (drop_more rows i d within)) rise)

-- ---- the row of an offset is behind

dropped_by : (b : Bool) (offset at : ℕ) (rows : List ProfileRow) (row : ProfileRow) (rest : List ProfileRow) → (row.offset == offset) ≡ b → 1 ≤ row.count → drop at rows ≡ row ∷ rest → drop (at + 1) rows ≡ rest
    → drop (if (if b then row.count else 0) == 0 then at else at + 1) rows ≡ (if b then rest else row ∷ rest)
dropped_by true offset at rows row rest here some list more =
    let no : (row.count == 0) ≡ false = positive row.count some in
    ap (λ (t : Bool). drop (if t then at else at + 1) rows) no ∙ more
  where
    positive : (n : ℕ) → 1 ≤ n → (n == 0) ≡ false
    positive n some = grind (arith, nat_tests)
dropped_by false offset at rows row rest past some list more = list

rest_of : (rows : List ProfileRow) (at : ℕ) (row : ProfileRow) (rest : List ProfileRow) → drop at rows ≡ row ∷ rest → drop (at + 1) rows ≡ rest
rest_of rows at row rest list = sym (drop-drop 1 at rows) ∙ ap (drop 1) list

taken_at : (offset at : ℕ) (rows l : List ProfileRow) → drop at rows ≡ l → AreRows l → drop (if first_count offset l == 0 then at else at + 1) rows ≡ taken offset l
taken_at offset at rows [] list rise = list
taken_at offset at rows (row ∷ rest) list rise = dropped_by (row.offset == offset) offset at rows row rest refl rise.2.some list (rest_of rows at row rest list)

pub past_taken : (offset at held next : ℕ) (rows : List ProfileRow) → AreRows (drop at rows) → held ≡ first_count offset (drop at rows) → next ≡ (if held == 0 then at else at + 1) → drop next rows ≡ taken offset (drop at rows)
past_taken offset at held next rows rise is next_is = ap (λ (n : ℕ). drop n rows) (next_is ∙ ap (λ (h : ℕ). if h == 0 then at else at + 1) is) ∙ taken_at offset at rows (drop at rows) refl rise

-- a place that has no room is the first one
pub full_place : (owner : Owner) (offset held count : ℕ) (sums : Counts) (rows : List ProfileRow) (fault : DbFault) → IsFull owner offset held count fault
    → (2 ^ 48 < held + count → IsOver (sum_at sums) rows offset held count) → IsFullAt owner sums rows fault
full_place owner offset held count sums rows StoreFault full over = absurd full
full_place owner offset held count sums rows (Bad file) full over = absurd full
full_place owner offset held count sums rows (Full what is_held is_added) full over =
    let is = over full.3 in
    (offset, full.0, record { is_held = full.1 ∙ is.is_held; is_added = full.2 ∙ is.is_added; over = omega (arith, is.over, full.1, full.2); first = is.first })
full_place owner offset held count sums rows Memory full over = tt
