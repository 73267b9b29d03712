-- One file more: what it says, and what it adds.
use Rattle.std.proofs.Common.{arith, ◌≡◌, ℕ, suc, zero, ◌+◌, ◌*◌, ◌^◌, ◌<◌, ◌≤◌, Bool, true, false, cond, List, [], ◌∷◌, ◌++◌, None, Some, Option, Ok, Err, length, map, drop, get_or, refl, sym, ap, ◌∙◌, subst}
use Rattle.std.specs.Prelude.{filter, find, is_none, sum_by, slice_get}
use Rattle.std.proofs.lemmas.List.Sums.{sum_by-cons}
use Rattle.std.proofs.lemmas.List.{at_drop_more, at_drop_all, get_or_default}
use Rattle.std.proofs.lemmas.List.Folds.{find-append}
use Rattle.std.specs.Option.{option_or}
use Rattle.std.proofs.lemmas.Option.{slice_get-get_or, get_or_from_slice_get}
use Rattle.store_io.specs.Files.{Files}
use Rattle.store_io.specs.FileNames.{file_name}
use Rattle.store_io.specs.declared.file_refs.FileRef.{FileRef}
use Rattle.image_catalog.specs.Images.{text_at}
use Rattle.database_model.specs.declared.profiles.ProfileRow.{ProfileRow}
use Rattle.database_model.specs.ProfileForm.{format1}
use Rattle.database_model.specs.Ranges.{AreRows, RowsRiseFrom}
use Rattle.database_state.specs.Standing.{value_in}
use Rattle.database_state.specs.declared.faults.DbFault.{DbFault}
use Rattle.database_state.specs.declared.faults.DbFault.TheVariants.{StoreFault, Bad, Full, Memory}
use Rattle.database_state.specs.Rows.{is_rising, is_before_first}
use Rattle.database_state.specs.Orders.{IsOrder}
use Rattle.epoch_store.proofs.Order.{and_first, and_second}
use Rattle.epoch_store.specs.Reading.{ReadsRow, IsUnread}
use Rattle.report_text.specs.declared.labels.Label.{Label}
use Rattle.report_text.specs.declared.labels.Label.TheVariants.{Unknown}
use Rattle.dcpiprof_report.specs.Counting.{counted_where, rows_or_none}
use Rattle.dcpiprof_report.specs.Reading.{is_bad, first_bad, IsStopped}
use Rattle.dcpiprof_report.specs.Sums.{KeepsTies, Grows, held, held_in_all, told_rows, bad_one, most_counted}

-- ---- what reading a file says

unread : (file : FileRef) (told : Option (List ProfileRow)) (fault : DbFault) → IsUnread file told fault → IsStopped (cond (is_none told) (Some file) None) fault
unread file told StoreFault h = tt
unread file told (Bad other) h = rw h.1 (ap Some (sym h.0))
unread file told (Full what held' added) h = absurd h
unread file told Memory h = tt

pub stopped : {R : Type 0} (ref : R → FileRef) (files : Files) (found : Option R) (row : R) (fault : DbFault) → found ≡ Some row → ReadsRow ref files found (Err fault) → IsStopped (bad_one files (ref row)) fault
stopped {R} ref files found row fault is read =
    let P : Option R → Type 0 = λ o. ReadsRow ref files o (Err fault) in
    unread (ref row) (value_in format1 (files (file_name (ref row)))) fault (subst P is read)

told_ok : (file : FileRef) (told : Option (List ProfileRow)) (rows : List ProfileRow) → told ≡ Some rows → (cond (is_none told) (Some file) None ≡ None) × (rows_or_none told ≡ rows)
told_ok file None rows h = cc
told_ok file (Some told) rows h = (refl, some_is h)
  where
    some_is : Some told ≡ Some rows → told ≡ rows
    some_is e = cc

pub read_ok : {R : Type 0} (ref : R → FileRef) (files : Files) (found : Option R) (row : R) (rows : List ProfileRow) → found ≡ Some row → ReadsRow ref files found (Ok rows) → (bad_one files (ref row) ≡ None) × (told_rows files (ref row) ≡ rows)
read_ok {R} ref files found row rows is read =
    let P : Option R → Type 0 = λ o. ReadsRow ref files o (Ok rows) in
    told_ok (ref row) (value_in format1 (files (file_name (ref row)))) rows (subst P is read)

-- ---- images

pub image_there : (names : List (List ℕ)) (i : ℕ) → i < length names → slice_get names i ≡ None → ⊥
image_there names i within none = some_none (sym (slice_get-get_or names i [] within) ∙ none)
  where
    some_none : {x : List ℕ} → Some x ≡ None → ⊥
    some_none h = cc

pub image_is : (names : List (List ℕ)) (i : ℕ) (name : List ℕ) → Some name ≡ slice_get names i → text_at names i ≡ name
image_is names i name h = get_or_from_slice_get names i name [] (sym h)

-- ---- how much a profile counts

abbrev pub sum_in : List ProfileRow → ℕ
sum_in rows = sum_by (λ (row : ProfileRow). row.count) rows

few_rows : (least : ℕ) (rows : List ProfileRow) → RowsRiseFrom least rows → least ≤ 2 ^ 64 + 4 → 4 * length rows + least ≤ 2 ^ 64 + 4
few_rows least [] rise small = omega arith
few_rows least (row ∷ rows) rise small = let rest = few_rows (row.offset + 4) rows rise.3 (omega (arith, rise.1)) in omega (arith, rise.0, rise.1, rest)

each_small : (least : ℕ) (rows : List ProfileRow) → RowsRiseFrom least rows → sum_in rows ≤ length rows * 2 ^ 48
each_small least [] rise = omega arith
each_small least (row ∷ rows) rise =
    let rest = each_small (row.offset + 4) rows rise.3 in
    let first = sum_by-cons (λ (r : ProfileRow). r.count) row rows in
    omega (arith, rest, first, rise.2.most)

pub sum_most : (rows : List ProfileRow) → AreRows rows → sum_in rows ≤ most_counted
unfolding most_counted
sum_most rows rise =
    let few = few_rows 0 rows rise (omega arith) in
    let small = each_small 0 rows rise in
    omega (arith, few, small)

all_of_one : (t : Bool) (n rest whole : ℕ) → whole ≡ n + rest → cond t whole 0 ≡ cond t n 0 + cond t rest 0
all_of_one true n rest whole is = is
all_of_one false n rest whole is = omega arith

pub all_unknown : (test : Label → Bool) (rows : List ProfileRow) → counted_where test (λ pc. Unknown) rows ≡ cond (test Unknown) (sum_in rows) 0
all_unknown test [] = sym (nothing (test Unknown) 0 refl)
  where
    nothing : (t : Bool) (n : ℕ) → n ≡ 0 → cond t n 0 ≡ 0
    nothing true n is = is
    nothing false n is = refl
all_unknown test (row ∷ rows) =
    let rest = all_unknown test rows in
    let first = sum_by-cons (λ (r : ProfileRow). cond (test Unknown) r.count 0) row rows in
    let all = all_of_one (test Unknown) row.count (sum_in rows) (sum_in (row ∷ rows)) (sum_by-cons (λ (r : ProfileRow). r.count) row rows) in
    omega (arith, rest, first, all)

pub room_left : (old new : List (Label × ℕ)) (more : (Label → Bool) → ℕ) (most : ℕ) → Grows old new more → more (λ _. true) ≤ most → held_in_all new ≤ held_in_all old + most
room_left old new more most grows small = let all = grows (λ _. true) (λ a b is. refl) in omega (arith, all, small)

-- ---- rows one after the other

-- the files of the rows that pass a test
abbrev pub files_of : {R : Type 0} → (R → FileRef) → (R → Bool) → List R → List FileRef
files_of ref test rows = map ref (filter test rows)

none_first : (a b c : Bool) (file : FileRef) (rest : Option FileRef) → cond a (cond b (Some file) None) None ≡ None → cond a (cond b (Some file) rest) rest ≡ rest
none_first true true c file rest h = cc
none_first true false c file rest h = refl
none_first false b c file rest h = refl

one_then : {R : Type 0} (files : Files) (ref : R → FileRef) (test : R → Bool) (row : R) (rows : List R) (t : Bool) → test row ≡ t → first_bad files (files_of ref test (row ∷ rows)) ≡ cond t (cond (is_bad files (ref row)) (Some (ref row)) (first_bad files (files_of ref test rows))) (first_bad files (files_of ref test rows))
one_then files ref test row rows true is = rw is refl
one_then files ref test row rows false is = rw is refl

pub good_then : {R : Type 0} (files : Files) (ref : R → FileRef) (test : R → Bool) (row : R) (rows : List R) → first_bad files (files_of ref test (row ∷ [])) ≡ None → first_bad files (files_of ref test (row ∷ rows)) ≡ first_bad files (files_of ref test rows)
good_then files ref test row rows none =
    one_then files ref test row rows (test row) refl ∙ none_first (test row) (is_bad files (ref row)) true (ref row) (first_bad files (files_of ref test rows)) (sym (one_then files ref test row [] (test row) refl) ∙ none)

some_first : (a b : Bool) (file other : FileRef) (rest : Option FileRef) → cond a (cond b (Some file) None) None ≡ Some other → cond a (cond b (Some file) rest) rest ≡ Some other
some_first true true file other rest h = h
some_first true false file other rest h = cc
some_first false b file other rest h = cc

pub bad_then : {R : Type 0} (files : Files) (ref : R → FileRef) (test : R → Bool) (row : R) (rows : List R) (other : FileRef) → first_bad files (files_of ref test (row ∷ [])) ≡ Some other → first_bad files (files_of ref test (row ∷ rows)) ≡ Some other
bad_then files ref test row rows other some =
    one_then files ref test row rows (test row) refl ∙ some_first (test row) (is_bad files (ref row)) (ref row) other (first_bad files (files_of ref test rows)) (sym (one_then files ref test row [] (test row) refl) ∙ some)

pub stopped_on : (a b : Option FileRef) (fault : DbFault) → ((file : FileRef) → a ≡ Some file → b ≡ Some file) → IsStopped a fault → IsStopped b fault
stopped_on a b StoreFault on h = tt
stopped_on a b (Bad file) on h = on file h
stopped_on a b (Full what held' added) on h = absurd h
stopped_on a b Memory on h = tt

-- what was told of the rows so far, where those from this place on are still to be read
pub record Told {R : Type 0} (files : Files) (ref : R → FileRef) (test : R → Bool) (count : (Label → Bool) → R → ℕ) (rows : List R) (i : ℕ) (start now : List (Label × ℕ)) : Type 0 where
  pub first : first_bad files (files_of ref test (drop i rows)) ≡ first_bad files (files_of ref test rows)
  pub sums : (t : Label → Bool) → KeepsTies t → held t now + sum_by (count t) (drop i rows) ≡ held t start + sum_by (count t) rows

pub none_read : {R : Type 0} (files : Files) (ref : R → FileRef) (test : R → Bool) (count : (Label → Bool) → R → ℕ) (rows : List R) (start : List (Label × ℕ)) → Told files ref test count rows 0 start start
none_read files ref test count rows start = record { first = refl; sums = λ t ties. refl }

pub next_row : {R Y : Type 0} (F : List R → Y) (rows : List R) (row : R) (i : ℕ) → i < length rows → row ≡ get_or rows i row → F (drop i rows) ≡ F (row ∷ drop (i + 1) rows)
next_row {R} F rows row i within here = at_drop_more F rows i row within ∙ ap (λ (x : R). F (x ∷ drop (i + 1) rows)) (sym here)

moved : (held_old held_new more rest left all : ℕ) → held_new ≡ held_old + more → left ≡ more + rest → held_old + left ≡ all → held_new + rest ≡ all
moved held_old held_new more rest left all p q r = omega arith

pub row_read : {R : Type 0} (files : Files) (ref : R → FileRef) (test : R → Bool) (count : (Label → Bool) → R → ℕ) (rows : List R) (row : R) (i : ℕ) (start old new : List (Label × ℕ)) → i < length rows → row ≡ get_or rows i row → Told files ref test count rows i start old
    → (first_bad files (files_of ref test (row ∷ [])) ≡ None) × Grows old new (λ t. count t row) → Told files ref test count rows (i + 1) start new
row_read files ref test count rows row i start old new within here before now = record {
  first = sym (next_row (λ l. first_bad files (files_of ref test l)) rows row i within here ∙ good_then files ref test row (drop (i + 1) rows) now.0) ∙ before.first;
  sums = λ t ties. moved (held t old) (held t new) (count t row) (sum_by (count t) (drop (i + 1) rows)) (sum_by (count t) (drop i rows)) (held t start + sum_by (count t) rows) (now.1 t ties)
      (next_row (sum_by (count t)) rows row i within here ∙ sum_by-cons (count t) row (drop (i + 1) rows)) (before.sums t ties);
}

pub row_stopped : {R : Type 0} (files : Files) (ref : R → FileRef) (test : R → Bool) (count : (Label → Bool) → R → ℕ) (rows : List R) (row : R) (i : ℕ) (start old : List (Label × ℕ)) (fault : DbFault) → i < length rows → row ≡ get_or rows i row → Told files ref test count rows i start old
    → IsStopped (first_bad files (files_of ref test (row ∷ []))) fault → IsStopped (first_bad files (files_of ref test rows)) fault
row_stopped files ref test count rows row i start old fault within here before stop =
    stopped_on (first_bad files (files_of ref test (row ∷ []))) (first_bad files (files_of ref test rows)) fault
    (λ file is. sym before.first ∙ next_row (λ l. first_bad files (files_of ref test l)) rows row i within here ∙ bad_then files ref test row (drop (i + 1) rows) file is) stop

pub all_read : {R : Type 0} (files : Files) (ref : R → FileRef) (test : R → Bool) (count : (Label → Bool) → R → ℕ) (rows : List R) (i : ℕ) (start now : List (Label × ℕ)) → length rows ≤ i → Told files ref test count rows i start now → (first_bad files (files_of ref test rows) ≡ None) × Grows start now (λ t. sum_by (count t) rows)
all_read files ref test count rows i start now past told' = (
  sym told'.first ∙ at_drop_all (λ l. first_bad files (files_of ref test l)) rows i past,
  λ t ties. let none = at_drop_all (sum_by (count t)) rows i past in let all = told'.sums t ties in omega (arith, none, all),
)

-- the row that stands at a place is found under its place
pub found_here : {R : Type 0} {before same : R → R → Bool} → IsOrder before same → (rows : List R) (row : R) (i : ℕ) → is_rising before rows ≡ true → i < length rows → row ≡ get_or rows i row → find (same row) rows ≡ Some row
found_here order [] row i rising within here = absurd (omega arith)
found_here {R} {before} {same} order (x ∷ rows) row zero rising within here = rw here (rw (order.own x) refl)
found_here {R} {before} {same} order (x ∷ rows) row (suc i) rising within here =
    let first = and_first (is_before_first before x rows) (is_rising before rows) rising in
    let others = and_second (is_before_first before x rows) (is_rising before rows) rising in
    let later : before x row ≡ true = behind order x rows row i first others (omega arith) here in
    let apart : same row x ≡ false = order.symm row x ∙ order.apart x row later in
    rw apart (found_here order rows row i others (omega arith) here)
  where
    behind : IsOrder before same → (x : R) (rows : List R) (row : R) (i : ℕ) → is_before_first before x rows ≡ true → is_rising before rows ≡ true → i < length rows → row ≡ get_or rows i row → before x row ≡ true
    behind order x [] row i first rising within here = absurd (omega arith)
    behind order x (y ∷ rows) row zero first rising within here = rw here first
    behind order x (y ∷ rows) row (suc i) first rising within here = behind order x rows row i (leads order x y rows first (and_first (is_before_first before y rows) (is_rising before rows) rising)) (and_second (is_before_first before y rows) (is_rising before rows) rising) (omega arith) here
      where
        leads : IsOrder before same → (x y : R) (rows : List R) → before x y ≡ true → is_before_first before y rows ≡ true → is_before_first before x rows ≡ true
        leads order x y [] first next = refl
        leads order x y (z ∷ rows) first next = order.beyond x y z first next

pub here_is : {R : Type 0} (rows : List R) (i : ℕ) (d : R) → i < length rows → get_or rows i d ≡ get_or rows i (get_or rows i d)
here_is rows i d within = get_or_default rows i d (get_or rows i d) within

-- ---- known rows, then unknown ones

pub first_of_both : (files : Files) (a b : List FileRef) (file : FileRef) → first_bad files a ≡ Some file → first_bad files (a ++ b) ≡ Some file
first_of_both files a b file is = find-append (is_bad files) a b ∙ ap (λ o. option_or o (first_bad files b)) is

pub good_of_both : (files : Files) (a b : List FileRef) → first_bad files a ≡ None → first_bad files (a ++ b) ≡ first_bad files b
good_of_both files a b is = find-append (is_bad files) a b ∙ ap (λ o. option_or o (first_bad files b)) is

pub both_counted : (none mid all known unknown : ℕ) → none ≡ 0 → mid ≡ none + known → all ≡ mid + unknown → all ≡ known + unknown
both_counted none mid all known unknown p q r = omega arith
