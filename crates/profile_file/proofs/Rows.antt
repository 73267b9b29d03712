-- Rows whose offsets rise.
use Rattle.std.proofs.Common.{◌≡◌, ℕ, zero, suc, ◌+◌, ◌*◌, ◌-◌, ◌%◌, ◌^◌, ◌<◌, ◌≤◌, Bool, true, false, List, [], ◌∷◌, ◌++◌, length, get_or, take, refl, arith}
use Rattle.std.specs.Prelude.{All, if◌then◌else◌}
use Rattle.std.specs.List.{fold}
use Rattle.database_model.specs.declared.profiles.ProfileRow.{ProfileRow}
use Rattle.database_model.specs.Ranges.{IsRow, RowsRiseFrom, AreRows}
use Rattle.database_model.specs.ProfileForm.{position_of, last_position, least_distance}
use Rattle.profile_file.specs.Places.{IsRowAt}

-- the position of the last of these rows, behind a row at a position
abbrev last_from : ℕ → List ProfileRow → ℕ
last_from start rows = fold (λ before row. position_of row) start rows

last_rises : (start least : ℕ) (rows : List ProfileRow) → 4 * start ≤ least → RowsRiseFrom least rows → start ≤ last_from start rows
last_rises start least [] low rise = omega arith
last_rises start least (row ∷ rows) low rise =
    let aligned : row.offset % 4 ≡ 0 = rise.2.aligned in
    let above : least ≤ row.offset = rise.0 in
    let later = last_rises (position_of row) (row.offset + 4) rows (omega arith) rise.3 in
    omega (arith, later)

last_small_from : (start least : ℕ) (rows : List ProfileRow) → start ≤ 2 ^ 62 - 1 → RowsRiseFrom least rows → last_from start rows ≤ 2 ^ 62 - 1
last_small_from start least [] small rise = small
last_small_from start least (row ∷ rows) small rise =
    let wide : row.offset < 2 ^ 64 = rise.1 in
    last_small_from (position_of row) (row.offset + 4) rows (omega arith) rise.3

pub last_small : (rows : List ProfileRow) → AreRows rows → last_position rows ≤ 2 ^ 62 - 1
last_small rows rise = last_small_from 0 0 rows (omega arith) rise

-- no row is behind the last
at_most_last : (start least : ℕ) (rows : List ProfileRow) (k : ℕ) (d : ProfileRow) → RowsRiseFrom least rows → k < length rows → (get_or rows k d).offset ≤ 4 * last_from start rows
at_most_last start least [] k d rise lt = absurd (omega arith)
at_most_last start least (row ∷ rows) zero d rise lt =
    let aligned : row.offset % 4 ≡ 0 = rise.2.aligned in
    let later = last_rises (position_of row) (row.offset + 4) rows (omega arith) rise.3 in
    omega (arith, later)
at_most_last start least (row ∷ rows) (suc k) d rise lt = at_most_last (position_of row) (row.offset + 4) rows k d rise.3 (omega arith)

-- each row is behind those before it
before_place : (start least : ℕ) (rows : List ProfileRow) (i : ℕ) (d : ProfileRow) → 4 * start ≤ least → RowsRiseFrom least rows → i < length rows → last_from start (take i rows) ≤ position_of (get_or rows i d)
before_place start least [] i d low rise lt = absurd (omega arith)
before_place start least (row ∷ rows) zero d low rise lt =
    let above : least ≤ row.offset = rise.0 in
    omega arith
before_place start least (row ∷ rows) (suc i) d low rise lt = before_place (position_of row) (row.offset + 4) rows i d (omega arith) rise.3 (omega arith)

pub last_before : (rows : List ProfileRow) (i : ℕ) (d : ProfileRow) → AreRows rows → i < length rows → last_position (take i rows) ≤ position_of (get_or rows i d)
last_before rows i d rise lt = before_place 0 0 rows i d (omega arith) rise lt

-- rows with one more behind them
rise_push : (least : ℕ) (rows : List ProfileRow) (row : ProfileRow) → RowsRiseFrom least rows → least ≤ row.offset → row.offset < 2 ^ 64 → IsRow row → All (λ held. held.offset < row.offset) rows → RowsRiseFrom least (rows ++ row ∷ [])
rise_push least [] row rise low wide is above = (low, wide, is, tt)
rise_push least (first ∷ rows) row rise low wide is above =
    let here : first.offset < row.offset = above 0 first (omega arith) in
    let aligned-first : first.offset % 4 ≡ 0 = rise.2.aligned in
    let aligned-row : row.offset % 4 ≡ 0 = is.aligned in
    (rise.0, rise.1, rise.2, rise_push (first.offset + 4) rows row rise.3 (omega arith) wide is (λ k d lt. above (suc k) d (omega arith)))

pub rows_push : (rows : List ProfileRow) (row : ProfileRow) → AreRows rows → row.offset < 2 ^ 64 → IsRow row → All (λ held. held.offset < row.offset) rows → AreRows (rows ++ row ∷ [])
rows_push rows row rise wide is above = rise_push 0 rows row rise (omega arith) wide is above

pub rows_pushed : (pushed : Bool) (rows after : List ProfileRow) (row : ProfileRow) → AreRows rows → row.offset < 2 ^ 64 → IsRow row → All (λ held. held.offset < row.offset) rows → after ≡ (if pushed then rows ++ row ∷ [] else rows) → AreRows after
rows_pushed true rows after row rise wide is above e = rw e (rows_push rows row rise wide is above)
rows_pushed false rows after row rise wide is above e = rw e rise

-- a row that was read is behind those before it
pub row_above : (rows : List ProfileRow) (row : ProfileRow) → AreRows rows → IsRowAt (least_distance rows) (last_position rows) row → All (λ held. held.offset < row.offset) rows
row_above [] row rise is k d lt = absurd (omega arith)
row_above (first ∷ rows) row rise is k d lt =
    let held = at_most_last 0 0 (first ∷ rows) k d rise lt in
    let far : 1 ≤ is.distance = is.far in
    let offset = is.offset in
    omega (arith, held, offset)

pub row_is : (least last : ℕ) (row : ProfileRow) → IsRowAt least last row → IsRow row
row_is least last row is =
    let offset : row.offset ≡ 4 * (last + is.distance) = is.offset in
    record { aligned = omega arith; some = is.some; most = is.most }

last_from-push : (start : ℕ) (rows : List ProfileRow) (row : ProfileRow) → last_from start (rows ++ row ∷ []) ≡ position_of row
last_from-push start [] row = refl
last_from-push start (first ∷ rows) row = last_from-push (position_of first) rows row

-- the position and the least distance behind one more row
pub last_position-push : (rows : List ProfileRow) (row : ProfileRow) → last_position (rows ++ row ∷ []) ≡ position_of row
last_position-push rows row = last_from-push 0 rows row

pub least_distance-push : (rows : List ProfileRow) (row : ProfileRow) → least_distance (rows ++ row ∷ []) ≡ 1
least_distance-push [] row = refl
least_distance-push (first ∷ rows) row = refl
