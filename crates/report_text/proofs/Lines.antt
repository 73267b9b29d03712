-- One row more of a listing.
use Rattle.std.proofs.Common.{arith, ◌≡◌, ℕ, ◌+◌, ◌<◌, ◌≤◌, List, [], ◌∷◌, ◌++◌, drop, length, get_or, Option, None, Some, refl, sym, ap, ◌∙◌, subst, append_assoc}
use Rattle.std.specs.Prelude.{sum_by, Bool, true, All}
use Rattle.std.proofs.lemmas.List.{at_drop_more, at_drop_all, append-nil}
use Rattle.std.proofs.lemmas.List.Sums.{sum_by-cons}
use Rattle.std.specs.Io.KnownBytes.{Appends}
use Rattle.report_text.specs.declared.rows.Row.{Row}
use Rattle.report_text.specs.Labels.{is_listed}
use Rattle.report_text.specs.Reports.{AreListed}
use Rattle.report_text.specs.Texts.{row_line, lines_after}
use Rattle.report_text.specs.Csvs.{row_record, records_after}

-- what rows count
abbrev pub sum_of : List Row → ℕ
sum_of rows = sum_by (λ (row : Row). row.count) rows

-- the row that stands next
pub next_row : {Y : Type 0} (F : List Row → Y) (rows : List Row) (row : Row) (i : ℕ) → i < length rows → row ≡ get_or rows i row → F (drop i rows) ≡ F (row ∷ drop (i + 1) rows)
next_row F rows row i within here = at_drop_more F rows i row within ∙ ap (λ (x : Row). F (x ∷ drop (i + 1) rows)) (sym here)

-- the rows up to it count this much, and those behind it the rest of the total
pub sum_taken : (rows : List Row) (row : Row) (i up_to total : ℕ) → i < length rows → row ≡ get_or rows i row → up_to + sum_of (drop i rows) ≡ total → up_to + row.count + sum_of (drop (i + 1) rows) ≡ total
sum_taken rows row i up_to total within here all =
    let next : sum_of (drop i rows) ≡ row.count + sum_of (drop (i + 1) rows) = next_row sum_of rows row i within here ∙ sum_by-cons (λ (r : Row). r.count) row (drop (i + 1) rows) in
    omega arith

pub line_taken : (rows : List Row) (row : Row) (i up_to total : ℕ) (out new whole : List ℕ) → i < length rows → row ≡ get_or rows i row → new ≡ out ++ row_line total (up_to + row.count) row → out ++ lines_after total up_to (drop i rows) ≡ whole → new ++ lines_after total (up_to + row.count) (drop (i + 1) rows) ≡ whole
line_taken rows row i up_to total out new whole within here is all =
    ap (λ (l : List ℕ). l ++ lines_after total (up_to + row.count) (drop (i + 1) rows)) is
    ∙ append_assoc out (row_line total (up_to + row.count) row) (lines_after total (up_to + row.count) (drop (i + 1) rows))
    ∙ ap (λ (l : List ℕ). out ++ l) (sym (next_row (lines_after total up_to) rows row i within here))
    ∙ all

pub no_line_left : (rows : List Row) (i up_to total : ℕ) (out whole : List ℕ) → length rows ≤ i → out ++ lines_after total up_to (drop i rows) ≡ whole → out ≡ whole
no_line_left rows i up_to total out whole past all = sym (ap (λ (l : List ℕ). out ++ l) (at_drop_all (lines_after total up_to) rows i past) ∙ append-nil out) ∙ all

-- ---- what a writer wrote

-- some bytes were written, which are the whole with what is still to come
pub record Written (initial now : Option (List ℕ)) (rest whole : List ℕ) : Type 0 where
  pub done : List ℕ
  pub appended : Appends initial now done
  pub all : done ++ rest ≡ whole

then_more : (a b c : Option (List ℕ)) (done more : List ℕ) → Appends a b done → Appends b c more → Appends a c (done ++ more)
then_more None b c done more first second = tt
then_more (Some x) None c done more first second = absurd first
then_more (Some x) (Some y) None done more first second = absurd second
then_more (Some x) (Some y) (Some z) done more first second = second ∙ ap (λ (l : List ℕ). l ++ more) first ∙ append_assoc x done more

pub nothing_written : (a : Option (List ℕ)) (whole : List ℕ) → Written a a whole whole
nothing_written None whole = record { done = []; appended = tt; all = refl }
nothing_written (Some x) whole = record { done = []; appended = sym (append-nil x); all = refl }

pub record_taken : (procedures : Bool) (rows : List Row) (row : Row) (i up_to total : ℕ) (a b c : Option (List ℕ)) (whole : List ℕ) → i < length rows → row ≡ get_or rows i row → Appends b c (row_record procedures total (up_to + row.count) row) → Written a b (records_after procedures total up_to (drop i rows)) whole → Written a c (records_after procedures total (up_to + row.count) (drop (i + 1) rows)) whole
record_taken procedures rows row i up_to total a b c whole within here now before = record {
  done = before.done ++ row_record procedures total (up_to + row.count) row;
  appended = then_more a b c before.done (row_record procedures total (up_to + row.count) row) before.appended now;
  all = append_assoc before.done (row_record procedures total (up_to + row.count) row) (records_after procedures total (up_to + row.count) (drop (i + 1) rows)) ∙ ap (λ (l : List ℕ). before.done ++ l) (sym (next_row (records_after procedures total up_to) rows row i within here)) ∙ before.all;
}

pub all_written : (procedures : Bool) (rows : List Row) (i up_to total : ℕ) (a b : Option (List ℕ)) (whole : List ℕ) → length rows ≤ i → Written a b (records_after procedures total up_to (drop i rows)) whole → Appends a b whole
all_written procedures rows i up_to total a b whole past written =
    let is : written.done ≡ whole = sym (ap (λ (l : List ℕ). written.done ++ l) (at_drop_all (records_after procedures total up_to) rows i past) ∙ append-nil written.done) ∙ written.all in
    subst (Appends a b) is written.appended

-- ---- one row

pub some_here : (rows : List Row) (row : Row) (i : ℕ) → All (λ (r : Row). 0 < r.count) rows → i < length rows → row ≡ get_or rows i row → 0 < row.count
some_here rows row i some within here = let Some_in : Row → Type 0 = λ r. 0 < r.count in subst Some_in (sym here) (some i row within)

pub listed_here : (procedures : Bool) (rows : List Row) (row : Row) (i : ℕ) → AreListed procedures rows → i < length rows → row ≡ get_or rows i row → is_listed procedures row.label ≡ true
listed_here procedures rows row i listed within here = let Listed_in : Row → Type 0 = λ r. is_listed procedures r.label ≡ true in subst Listed_in (sym here) (listed i row within)
