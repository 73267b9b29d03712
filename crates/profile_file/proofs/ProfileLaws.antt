-- Profiles: what readers answer, what writers write, and one spelling.
use Rattle.std.proofs.Common.{◌≡◌, ℕ, zero, suc, ◌+◌, ◌*◌, ◌-◌, ◌/◌, ◌%◌, ◌^◌, ◌<◌, ◌≤◌, List, [], ◌∷◌, ◌++◌, length, get_or, take, Ok, refl, sym, ap, subst, ◌∙◌, append_assoc, arith}
use Rattle.std.proofs.lemmas.List.{append-nil, take_more}
use Rattle.std.proofs.lemmas.List.Concat.{flat_map-append}
use Rattle.var_bytes.specs.Numbers.{number_bytes, spell}
use Rattle.var_bytes.specs.Forms.{Spells, Follows, fields_after, repeat}
use Rattle.var_bytes.specs.Reading.{read_form}
use Rattle.var_bytes.proofs.FieldLaws.{between_is, is_between}
use Rattle.var_bytes.proofs.FormLaws.{reads_follow}
use Rattle.var_bytes.proofs.Writing.{parts_of, fields_after-push, EachFollows, follows_repeat, HasFields, repeat_has_fields, one_spelling, spells_fields, takes_spelled}
use Rattle.database_model.specs.declared.profiles.ProfileRow.{ProfileRow}
use Rattle.database_model.specs.Ranges.{RowsRiseFrom, AreRows}
use Rattle.database_model.specs.ProfileForm.{position_of, last_position, least_distance, row_form, next_row, format1, row_fields}
use Rattle.profile_file.specs.Places.{IsRowAt}
use Rattle.profile_file.proofs.Rows.{last_position-push, least_distance-push, last_small, rows_push, row_above, row_is}

-- a row with its type written out
abbrev row_at : ℕ → ℕ → ProfileRow
row_at offset count = record { offset = offset; count = count }

-- ---- writing

-- one more row behind those that are written
pub put_more : (rows : List ProfileRow) (i : ℕ) (d : ProfileRow) (out old : List ℕ) (last : ℕ) → i < length rows → last ≡ last_position (take i rows) → out ≡ old ++ spell (fields_after row_fields [] (take i rows))
    → out ++ spell ((position_of (get_or rows i d) - last) ∷ (get_or rows i d).count ∷ []) ≡ old ++ spell (fields_after row_fields [] (take (i + 1) rows))
put_more rows i d out old last lt last-is so_far =
    let row = get_or rows i d in
    let before = take i rows in
    let fields : fields_after row_fields [] (take (i + 1) rows) ≡ fields_after row_fields [] before ++ row_fields before row =
    ap (λ (rs : List ProfileRow). fields_after row_fields [] rs) (take_more rows i d lt) ∙ fields_after-push row_fields [] before row in
    let text : spell (fields_after row_fields [] (take (i + 1) rows)) ≡ spell (fields_after row_fields [] before) ++ spell (row_fields before row) =
    ap spell fields ∙ flat_map-append number_bytes (fields_after row_fields [] before) (row_fields before row) in
    ap (λ (t : List ℕ). t ++ spell ((position_of row - last) ∷ row.count ∷ [])) so_far
    ∙ ap (λ (k : ℕ). (old ++ spell (fields_after row_fields [] before)) ++ spell ((position_of row - k) ∷ row.count ∷ [])) last-is
    ∙ append_assoc old (spell (fields_after row_fields [] before)) (spell (row_fields before row))
    ∙ ap (λ (t : List ℕ). old ++ t) (sym text)

-- the numbers of rows that rise follow their format
rows_follow : (front : List ProfileRow) (least : ℕ) (rows : List ProfileRow) → 4 * (last_position front + least_distance front) ≤ least → RowsRiseFrom least rows → EachFollows next_row row_fields front rows
unfolding row_form
rows_follow front least [] low rise = tt
rows_follow front least (row ∷ rows) low rise =
    let above : least ≤ row.offset = rise.0 in
    let wide : row.offset < 2 ^ 64 = rise.1 in
    let aligned : row.offset % 4 ≡ 0 = rise.2.aligned in
    let back : 4 * (last_position front + (position_of row - last_position front)) ≡ row.offset = omega arith in
    let distance = is_between (least_distance front) (2 ^ 62 - 1 - last_position front) (position_of row - last_position front) (omega arith) (omega arith) (omega arith) in
    let count = is_between 1 (2 ^ 48) row.count rise.2.some rise.2.most (omega arith) in
    let next : 4 * (last_position (front ++ row ∷ []) + least_distance (front ++ row ∷ [])) ≤ row.offset + 4 = rw (last_position-push front row, least_distance-push front row) (omega arith) in (
      λ rest. (distance, (count, (ap (λ (o : ℕ). row_at o row.count) back, refl))),
      rows_follow (front ++ row ∷ []) (row.offset + 4) rows next rise.3,
    )

-- there are not more rows than offsets
few_rows : (least : ℕ) (rows : List ProfileRow) → least < 2 ^ 64 + 4 → RowsRiseFrom least rows → least + 4 * length rows < 2 ^ 64 + 4
few_rows least [] low rise = omega arith
few_rows least (row ∷ rows) low rise =
    let above : least ≤ row.offset = rise.0 in
    let wide : row.offset < 2 ^ 64 = rise.1 in
    let later = few_rows (row.offset + 4) rows (omega arith) rise.3 in
    omega (arith, later)

-- the numbers of a profile
abbrev pub profile_fields : List ProfileRow → List ℕ
profile_fields rows = 1 ∷ length rows ∷ fields_after row_fields [] rows

pub profile_follows : (rows : List ProfileRow) → AreRows rows → Follows format1 (profile_fields rows) rows []
unfolding format1
profile_follows rows rise =
    let few = few_rows 0 rows (omega arith) rise in
    let each = follows_repeat next_row row_fields [] rows [] (rows_follow [] 0 rows (omega arith) rise) in
    let all : Follows (repeat next_row (length rows) []) (fields_after row_fields [] rows) rows [] =
    subst (λ (ns : List ℕ). Follows (repeat next_row (length rows) []) ns rows []) (append-nil (fields_after row_fields [] rows)) each in
    (is_between 1 1 1 (omega arith) (omega arith) (omega arith), (is_between 0 (2 ^ 64 - 1) (length rows) (omega arith) (omega (arith, few)) (omega arith), all))

pub profile_spelled : (rows : List ProfileRow) → AreRows rows → Spells format1 (spell (profile_fields rows)) rows
profile_spelled rows rise = spells_fields format1 (profile_fields rows) rows (profile_follows rows rise)

pub is_written : (text head : List ℕ) (rows : List ProfileRow) → AreRows rows → head ≡ spell (1 ∷ length rows ∷ []) → text ≡ head ++ spell (fields_after row_fields [] rows) → Spells format1 text rows
is_written text head rows rise p q =
    let whole : text ≡ spell (profile_fields rows) =
    q ∙ ap (λ (h : List ℕ). h ++ spell (fields_after row_fields [] rows)) p ∙ sym (flat_map-append number_bytes (1 ∷ length rows ∷ []) (fields_after row_fields [] rows)) in
    subst (λ (t : List ℕ). Spells format1 t rows) (sym whole) (profile_spelled rows rise)

-- ---- one spelling

row_has_fields : (before : List ProfileRow) → HasFields (row_fields before) (next_row before)
unfolding row_form
row_has_fields before [] row rest f = absurd f
row_has_fields before (distance ∷ []) row rest f = absurd f.1
row_has_fields before (distance ∷ count ∷ numbers) row rest f =
    let back : 4 * (last_position before + distance) / 4 - last_position before ≡ distance = omega arith in
    let made = row_at (4 * (last_position before + distance)) count in
    let here : distance ∷ count ∷ numbers ≡ row_fields before made ++ rest = ap (λ (n : ℕ). n ∷ count ∷ numbers) (sym back) ∙ ap (λ (ns : List ℕ). row_fields before made ++ ns) f.1.1.1 in
    subst (λ (r : ProfileRow). distance ∷ count ∷ numbers ≡ row_fields before r ++ rest) f.1.1.0 here

pub profile_has_fields : HasFields profile_fields format1
unfolding format1
profile_has_fields [] rows rest f = absurd f
profile_has_fields (format ∷ []) rows rest f = absurd f.1
profile_has_fields (format ∷ count ∷ numbers) rows rest f =
    let one = between_is 1 1 format f.0.meets in
    let items = repeat_has_fields next_row row_fields count [] numbers rows rest row_has_fields f.1.1 in
    let here : format ∷ count ∷ numbers ≡ profile_fields items.items ++ rest =
    ap (λ (n : ℕ). n ∷ count ∷ numbers) (let e : format ≡ 1 = omega (arith, one.0, one.1) in e)
    ∙ ap (λ (n : ℕ). 1 ∷ n ∷ numbers) (sym items.size)
    ∙ ap (λ (ns : List ℕ). 1 ∷ length items.items ∷ ns) items.text in
    subst (λ (rs : List ProfileRow). format ∷ count ∷ numbers ≡ profile_fields rs ++ rest) (sym items.whole) here

pub spelled_once : (a b : List ℕ) (rows : List ProfileRow) → Spells format1 a rows → Spells format1 b rows → a ≡ b
spelled_once a b rows s t = one_spelling profile_fields format1 a b rows profile_has_fields s t

-- ---- what is told are the rows of a profile

row_told : (front : List ProfileRow) (numbers : List ℕ) (row : ProfileRow) (rest : List ℕ) → last_position front ≤ 2 ^ 62 - 1 → Follows (next_row front) numbers row rest → IsRowAt (least_distance front) (last_position front) row
unfolding row_form
row_told front [] row rest small f = absurd f
row_told front (distance ∷ []) row rest small f = absurd f.1
row_told front (distance ∷ count ∷ numbers) row rest small f =
    let far = between_is (least_distance front) (2 ^ 62 - 1 - last_position front) distance f.0.meets in
    let range = between_is 1 (2 ^ 48) count f.1.0.meets in
    subst (λ (r : ProfileRow). IsRowAt (least_distance front) (last_position front) r) f.1.1.0 (record { distance = distance; far = far.0; near = omega (arith, far.1); offset = refl; some = range.0; most = range.1 })

rows_told : (count : ℕ) (front : List ProfileRow) (numbers : List ℕ) (rows : List ProfileRow) (rest : List ℕ) → AreRows front → Follows (repeat next_row count front) numbers rows rest → AreRows rows
rows_told zero front numbers rows rest rise f = subst AreRows f.0 rise
rows_told (suc count) front numbers rows rest rise f =
    let p = parts_of (next_row front) (λ y. repeat next_row count (front ++ y ∷ [])) numbers rows rest f in
    let is = row_told front numbers p.value p.rest (last_small front rise) p.first in
    let offset : p.value.offset ≡ 4 * (last_position front + is.distance) = is.offset in
    let near = is.near in
    rows_told count (front ++ p.value ∷ []) p.rest rows rest (rows_push front p.value rise (omega (arith, near)) (row_is (least_distance front) (last_position front) p.value is) (row_above front p.value rise is)) p.second

pub numbers_told : (numbers : List ℕ) (rows : List ProfileRow) → Follows format1 numbers rows [] → AreRows rows
unfolding format1
numbers_told [] rows f = absurd f
numbers_told (format ∷ []) rows f = absurd f.1
numbers_told (format ∷ count ∷ numbers) rows f = rows_told count [] numbers rows [] tt f.1.1

pub profile_told : (bytes : List ℕ) (rows : List ProfileRow) → Spells format1 bytes rows → AreRows rows
profile_told bytes rows s = let p = takes_spelled format1 bytes rows [] s in numbers_told p.numbers rows p.follows

-- whatever the bytes, what is read are the rows of a profile
pub read_told : (bytes : List ℕ) (rows : List ProfileRow) → read_form format1 bytes ≡ Ok rows → AreRows rows
read_told bytes rows e = let p = reads_follow format1 bytes rows e in numbers_told p.0 rows p.1
