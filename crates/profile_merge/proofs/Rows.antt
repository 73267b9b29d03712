-- Rows in their order: what they count, in front of others and behind them.
use Rattle.std.proofs.Common.{arith, ◌≡◌, ◌≢◌, ℕ, ◌+◌, ◌%◌, ◌^◌, ◌<◌, ◌≤◌, Bool, true, false, eqb, List, [], ◌∷◌, ◌++◌, refl, sym, ap, ◌∙◌, subst}
use Rattle.std.specs.Prelude.{◌==◌, if◌then◌else◌, All}
use Rattle.std.specs.List.{AllByRecursion}
use Rattle.std.proofs.lemmas.Bool.{eqb-true, eq-eqb}
use Rattle.std.proofs.lemmas.Bool.Decides.{nat_tests}
use Rattle.std.proofs.lemmas.List.Elements.{All-from_recursion}
use Rattle.database_model.specs.declared.profiles.ProfileRow.{ProfileRow}
use Rattle.database_model.specs.Ranges.{IsRow, RowsRiseFrom, AreRows}
use Rattle.profile_file.proofs.Rows.{rows_push}
use Rattle.growth_model.specs.Growth.{count_at}
use Rattle.profile_merge.specs.Sums.{Counts, sum_at, CountsRiseFrom}
use Rattle.profile_merge.specs.Merging.{AllBelow, BeginsFrom, first_count, taken}

apart : (a b : ℕ) → a < b → eqb a b ≡ false
apart a b below = grind (arith, nat_tests)

apart_above : (a b : ℕ) → b < a → eqb a b ≡ false
apart_above a b above = grind (arith, nat_tests)

-- ---- order

pub less_low : (low least : ℕ) (rows : List ProfileRow) → low ≤ least → RowsRiseFrom least rows → RowsRiseFrom low rows
less_low low least [] below rise = tt
less_low low least (row ∷ rows) below rise = (omega (arith, below, rise.0), rise.1, rise.2, rise.3)

-- the rows behind others rise too
behind : (least : ℕ) (front back : List ProfileRow) → RowsRiseFrom least (front ++ back) → RowsRiseFrom least back
behind least [] back rise = rise
behind least (row ∷ front) back rise = less_low least (row.offset + 4) back (omega (arith, rise.0)) (behind (row.offset + 4) front back rise.3)

pub rows_behind : (front back : List ProfileRow) → AreRows (front ++ back) → AreRows back
rows_behind front back rise = behind 0 front back rise

in_front : (least : ℕ) (front back : List ProfileRow) → RowsRiseFrom least (front ++ back) → RowsRiseFrom least front
in_front least [] back rise = tt
in_front least (row ∷ front) back rise = (rise.0, rise.1, rise.2, in_front (row.offset + 4) front back rise.3)

pub rows_before : (front back : List ProfileRow) → AreRows (front ++ back) → AreRows front
rows_before front back rise = in_front 0 front back rise

-- the rows before one lie below it
below_from : (least : ℕ) (front : List ProfileRow) (row : ProfileRow) (back : List ProfileRow) → RowsRiseFrom least (front ++ row ∷ back) → AllBelow row.offset front × (least ≤ row.offset)
below_from least [] row back rise = (tt, rise.0)
below_from least (first ∷ front) row back rise =
    let more = below_from (first.offset + 4) front row back rise.3 in
    ((omega (arith, more.1), more.0), omega (arith, more.1, rise.0))

pub rows_below : (front : List ProfileRow) (row : ProfileRow) (back : List ProfileRow) → AreRows (front ++ row ∷ back) → AllBelow row.offset front
rows_below front row back rise = (below_from 0 front row back rise).0

pub all_lower : (low high : ℕ) (rows : List ProfileRow) → low ≤ high → AllBelow low rows → AllBelow high rows
all_lower low high [] le all = tt
all_lower low high (row ∷ rows) le all = (omega (arith, le, all.0), all_lower low high rows le all.1)

pub below_push : (offset : ℕ) (rows : List ProfileRow) (row : ProfileRow) → AllBelow offset rows → row.offset < offset → AllBelow offset (rows ++ row ∷ [])
below_push offset [] row all below = (below, tt)
below_push offset (first ∷ rows) row all below = (all.0, below_push offset rows row all.1 below)

-- the first row of some is one that may be pushed behind the others
pub pushable : (front : List ProfileRow) (row : ProfileRow) (back : List ProfileRow) → AreRows (front ++ row ∷ back) → IsRow row × All (λ held. held.offset < row.offset) front
pushable front row back rise = ((rows_behind front (row ∷ back) rise).2, All-from_recursion (λ (held : ProfileRow). held.offset < row.offset) front (rows_below front row back rise))

-- rows, a row above them, and others above that
joined : (least : ℕ) (front : List ProfileRow) (row : ProfileRow) (back : List ProfileRow) → RowsRiseFrom least (front ++ row ∷ []) → RowsRiseFrom (row.offset + 4) back → RowsRiseFrom least (front ++ row ∷ back)
joined least [] row back rise more = (rise.0, rise.1, rise.2, more)
joined least (first ∷ front) row back rise more = (rise.0, rise.1, rise.2, joined (first.offset + 4) front row back rise.3 more)

pub rows_around : (front : List ProfileRow) (row : ProfileRow) (back : List ProfileRow) → AreRows front → AllBelow row.offset front → row.offset < 2 ^ 64 → IsRow row → RowsRiseFrom (row.offset + 4) back → AreRows (front ++ row ∷ back)
rows_around front row back rise below fits is more = joined 0 front row back (rows_push front row rise fits is (All-from_recursion (λ (held : ProfileRow). held.offset < row.offset) front below)) more

-- ---- counts

pub count_apart : (row : ProfileRow) (rows : List ProfileRow) (o : ℕ) → eqb row.offset o ≡ false → count_at (row ∷ rows) o ≡ count_at rows o
count_apart row rows o other = ap (λ (b : Bool). if b then row.count else count_at rows o) other

-- rows that lie below an offset count nothing from it on
pub none_above : (offset : ℕ) (rows : List ProfileRow) (o : ℕ) → AllBelow offset rows → offset ≤ o → count_at rows o ≡ 0
none_above offset [] o all above = refl
none_above offset (row ∷ rows) o all above = count_apart row rows o (apart row.offset o (omega (arith, all.0, above))) ∙ none_above offset rows o all.1 above

-- rows from an offset on count nothing below it
pub none_under : (least : ℕ) (rows : List ProfileRow) (o : ℕ) → RowsRiseFrom least rows → o < least → count_at rows o ≡ 0
none_under least [] o rise below = refl
none_under least (row ∷ rows) o rise below = count_apart row rows o (apart_above row.offset o (omega (arith, rise.0, below))) ∙ none_under (row.offset + 4) rows o rise.3 (omega (arith, rise.0, below))

front_by : (b : Bool) (n a c s : ℕ) → s ≡ a + c → (b ≡ true → c ≡ 0) → (if b then n else s) ≡ (if b then n else a) + c
front_by true n a c s sum none = let zero = none refl in omega (arith, zero)
front_by false n a c s sum none = sum

-- rows in front of others count both
pub count_append : (least : ℕ) (front back : List ProfileRow) (o : ℕ) → RowsRiseFrom least (front ++ back) → count_at (front ++ back) o ≡ count_at front o + count_at back o
count_append least [] back o rise = omega arith
count_append least (row ∷ front) back o rise =
    front_by (row.offset == o) row.count (count_at front o) (count_at back o) (count_at (front ++ back) o) (count_append (row.offset + 4) front back o rise.3)
    (λ here. none_under (row.offset + 4) back o (behind (row.offset + 4) front back rise.3) (let at : row.offset ≡ o = eqb-true row.offset o here in omega (arith, at)))

-- what rows count that begin from an offset, at the offset
pub first_there : (offset : ℕ) (rest : List ProfileRow) → AreRows rest → BeginsFrom offset rest → count_at rest offset ≡ first_count offset rest
first_there offset [] rise from = refl
first_there offset (row ∷ rest) rise from = by (row.offset == offset) refl
  where
    by : (b : Bool) → (row.offset == offset) ≡ b → (if b then row.count else count_at rest offset) ≡ (if b then row.count else 0)
    by true here = refl
    by false other =
        let past : row.offset ≢ offset = λ same. let is : (row.offset == offset) ≡ true = eq-eqb row.offset offset same in let wrong : true ≡ false = sym is ∙ other in absurd cc in
        none_under (row.offset + 4) rest offset rise.3 (omega (arith, from, past))

-- and behind it
taken_by : (b : Bool) (offset : ℕ) (row : ProfileRow) (rest : List ProfileRow) → (row.offset == offset) ≡ b → AreRows (row ∷ rest) → BeginsFrom offset (row ∷ rest) → row.offset % 4 ≡ 0 → offset % 4 ≡ 0 → RowsRiseFrom (offset + 4) (if b then rest else row ∷ rest)
taken_by true offset row rest here rise from aligned even = let at : row.offset ≡ offset = eqb-true row.offset offset here in subst (λ (o : ℕ). RowsRiseFrom (o + 4) rest) at rise.3
taken_by false offset row rest other rise from aligned even =
    let past : row.offset ≢ offset = λ same. let is : (row.offset == offset) ≡ true = eq-eqb row.offset offset same in let wrong : true ≡ false = sym is ∙ other in absurd cc in
    (omega (arith, from, past, aligned, even), rise.1, rise.2, rise.3)

pub taken_rise : (offset : ℕ) (rest : List ProfileRow) → AreRows rest → BeginsFrom offset rest → offset % 4 ≡ 0 → RowsRiseFrom (offset + 4) (taken offset rest)
taken_rise offset [] rise from even = tt
taken_rise offset (row ∷ rest) rise from even = taken_by (row.offset == offset) offset row rest refl rise from rise.2.aligned even

-- the counts at another offset stay
pub taken_counts : (offset : ℕ) (rest : List ProfileRow) (o : ℕ) → eqb offset o ≡ false → count_at (taken offset rest) o ≡ count_at rest o
taken_counts offset [] o other = refl
taken_counts offset (row ∷ rest) o other = by (row.offset == offset) refl
  where
    by : (b : Bool) → (row.offset == offset) ≡ b → count_at (if b then rest else row ∷ rest) o ≡ count_at (row ∷ rest) o
    by true here = let at : row.offset ≡ offset = eqb-true row.offset offset here in sym (count_apart row rest o (ap (λ (x : ℕ). eqb x o) at ∙ other))
    by false past = refl

-- no row counts more than 2 ^ 48
most_by : (b : Bool) (n s : ℕ) → n ≤ 2 ^ 48 → s ≤ 2 ^ 48 → (if b then n else s) ≤ 2 ^ 48
most_by true n s one more = one
most_by false n s one more = more

count_most_from : (least : ℕ) (rows : List ProfileRow) (o : ℕ) → RowsRiseFrom least rows → count_at rows o ≤ 2 ^ 48
count_most_from least [] o rise = omega arith
count_most_from least (row ∷ rows) o rise = most_by (row.offset == o) row.count (count_at rows o) rise.2.most (count_most_from (row.offset + 4) rows o rise.3)

pub count_most : (rows : List ProfileRow) (o : ℕ) → AreRows rows → count_at rows o ≤ 2 ^ 48
count_most rows o rise = count_most_from 0 rows o rise

-- ---- sums

pub sum_apart : (s : ℕ × ℕ) (sums : Counts) (o : ℕ) → eqb s.0 o ≡ false → sum_at (s ∷ sums) o ≡ sum_at sums o
sum_apart s sums o other = ap (λ (b : Bool). if b then s.1 else sum_at sums o) other

abbrev pub SumsBelow : ℕ → Counts → Type 0
SumsBelow offset sums = AllByRecursion (λ s. s.0 < offset) sums

pub no_sum_above : (offset : ℕ) (sums : Counts) (o : ℕ) → SumsBelow offset sums → offset ≤ o → sum_at sums o ≡ 0
no_sum_above offset [] o all above = refl
no_sum_above offset (s ∷ sums) o all above = sum_apart s sums o (apart s.0 o (omega (arith, all.0, above))) ∙ no_sum_above offset sums o all.1 above

pub no_sum_under : (least : ℕ) (sums : Counts) (o : ℕ) → CountsRiseFrom least sums → o < least → sum_at sums o ≡ 0
no_sum_under least [] o rise below = refl
no_sum_under least (s ∷ sums) o rise below = sum_apart s sums o (apart_above s.0 o (omega (arith, rise.0, below))) ∙ no_sum_under (s.0 + 1) sums o rise.4 (omega (arith, rise.0, below))

sums_by : (b : Bool) (n a c s : ℕ) → s ≡ a + c → (b ≡ true → c ≡ 0) → (if b then n else s) ≡ (if b then n else a) + c
sums_by true n a c s sum none = let zero = none refl in omega (arith, zero)
sums_by false n a c s sum none = sum

-- sums below an offset, and others from it on
pub sum_append : (offset : ℕ) (done left : Counts) (o : ℕ) → SumsBelow offset done → CountsRiseFrom offset left → sum_at (done ++ left) o ≡ sum_at done o + sum_at left o
sum_append offset [] left o below rise = omega arith
sum_append offset (s ∷ done) left o below rise =
    sums_by (s.0 == o) s.1 (sum_at done o) (sum_at left o) (sum_at (done ++ left) o) (sum_append offset done left o below.1 rise)
    (λ here. no_sum_under offset left o rise (let at : s.0 ≡ o = eqb-true s.0 o here in omega (arith, at, below.0)))

pub sums_below_push : (low high : ℕ) (sums : Counts) (s : ℕ × ℕ) → low ≤ high → SumsBelow low sums → s.0 < high → SumsBelow high (sums ++ s ∷ [])
sums_below_push low high [] s le all below = (below, tt)
sums_below_push low high (first ∷ sums) s le all below = (omega (arith, le, all.0), sums_below_push low high sums s le all.1 below)

pub sums_lower : (low high : ℕ) (sums : Counts) → low ≤ high → SumsBelow low sums → SumsBelow high sums
sums_lower low high [] le all = tt
sums_lower low high (s ∷ sums) le all = (omega (arith, le, all.0), sums_lower low high sums le all.1)
