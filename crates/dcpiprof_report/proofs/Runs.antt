-- Rows of a profile that follow each other, added as one.
use Rattle.std.proofs.Common.{arith, ◌≡◌, ℕ, ◌+◌, ◌<◌, ◌≤◌, Bool, true, false, cond, List, ◌∷◌, drop, length, get_or, sym, ap, ◌∙◌}
use Rattle.std.proofs.lemmas.List.Sums.{sum_by-cons}
use Rattle.std.proofs.lemmas.List.{at_drop_more, at_drop_all}
use Rattle.database_model.specs.declared.profiles.ProfileRow.{ProfileRow}
use Rattle.report_text.specs.declared.labels.Label.{Label}
use Rattle.dcpiprof_report.specs.Counting.{counted_where}

-- what a row counts, if the label of its offset passes
abbrev pub row_count : (Label → Bool) → (ℕ → Label) → ProfileRow → ℕ
row_count test label_of row = cond (test (label_of row.offset)) row.count 0

one_more : (t u : Bool) (before count now old rest all whole run : ℕ) → t ≡ u → now + cond t before 0 ≡ old + run → all ≡ cond u count 0 + rest → old + run + all ≡ whole → now + cond t (before + count) 0 + rest ≡ whole
one_more true true before count now old rest all whole run e went split before_ = omega arith
one_more false false before count now old rest all whole run e went split before_ = omega arith
one_more true false before count now old rest all whole run e went split before_ = cc
one_more false true before count now old rest all whole run e went split before_ = cc

-- one row more: what is held, what the run counts so far and what the rows to come count stay the same together
pub row_taken : (test : Label → Bool) (label_of : ℕ → Label) (rows : List ProfileRow) (row : ProfileRow) (i : ℕ) (label : Label) (before now old run whole : ℕ) → i < length rows → row ≡ get_or rows i row → label ≡ label_of row.offset → now + cond (test label) before 0 ≡ old + run → old + run + counted_where test label_of (drop i rows) ≡ whole → now + cond (test label) (before + row.count) 0 + counted_where test label_of (drop (i + 1) rows) ≡ whole
row_taken test label_of rows row i label before now old run whole within here is went all =
    let next : counted_where test label_of (drop i rows) ≡ counted_where test label_of (row ∷ drop (i + 1) rows) = at_drop_more (counted_where test label_of) rows i row within ∙ ap (λ x. counted_where test label_of (x ∷ drop (i + 1) rows)) (sym here) in
    one_more (test label) (test (label_of row.offset)) before row.count now old (counted_where test label_of (drop (i + 1) rows)) (counted_where test label_of (drop i rows)) whole run (ap test is) went (next ∙ sum_by-cons (row_count test label_of) row (drop (i + 1) rows)) all

-- no row is left
pub no_row_left : (test : Label → Bool) (label_of : ℕ → Label) (rows : List ProfileRow) (i : ℕ) → length rows ≤ i → counted_where test label_of (drop i rows) ≡ 0
no_row_left test label_of rows i past = at_drop_all (counted_where test label_of) rows i past
