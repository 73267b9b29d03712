-- Listings at worked examples, by computation alone.
use Rattle.std.proofs.Common.{◌≡◌, ℕ, ◌-◌, ◌^◌, true, false, List, [], ◌∷◌, ◌++◌, refl}
use Rattle.std.specs.Prelude.{codes}
use Rattle.std.specs.Fmt.{digits}
use Rattle.std.specs.List.{flat_map}
use Rattle.std.specs.declared.cmp.Ordering.TheVariants.{Less}
use Rattle.csv.specs.Writing.{escaped, fields_text, is_blank}
use Rattle.sample_key.specs.declared.events.Event.TheVariants.{Cycles}
use Rattle.report_text.specs.declared.epochs.Epochs.TheVariants.{All, One}
use Rattle.report_text.specs.declared.labels.Label.{Label}
use Rattle.report_text.specs.declared.labels.Label.TheVariants.{Image, Procedure, NoSymbol, Unknown}
use Rattle.report_text.specs.declared.rows.Row.{Row}
use Rattle.report_text.specs.Labels.{label_cmp, row_cmp}
use Rattle.report_text.specs.Reports.{Report}
use Rattle.report_text.specs.Texts.{report_text, share_of}
use Rattle.report_text.specs.Csvs.{report_csv}

row : ℕ → Label → Row
row count label = record { count = count; label = label }

-- lines with their line feeds
lines : List (List ℕ) → List ℕ
lines texts = flat_map (λ line. line ++ 10 ∷ []) texts

images : Report
images = record {
  total = 39;
  rows = row 13 (Image (codes "/usr/bin/X")) ∷ row 12 (Image (codes "/usr/shlib/libc.so")) ∷ row 5 (Image (codes "/usr/bin/cc")) ∷ row 5 (Image (codes "/vmunix")) ∷ row 3 (Image (codes "/usr/bin/sh")) ∷ row 1 Unknown ∷ [];
}

by_image : report_text images All Cycles ≡ lines (
    codes "cycles epoch all total 39"
    ∷ codes "          13  33.33  33.33 /usr/bin/X"
    ∷ codes "          12  30.76  64.10 /usr/shlib/libc.so"
    ∷ codes "           5  12.82  76.92 /usr/bin/cc"
    ∷ codes "           5  12.82  89.74 /vmunix"
    ∷ codes "           3   7.69  97.43 /usr/bin/sh"
    ∷ codes "           1   2.56 100.00 (unknown profile)"
    ∷ [])
unfolding digits row lines images
by_image = refl

procedures : Report
procedures = record {
  total = 39;
  rows = row 12 (Procedure (codes "/usr/shlib/libc.so") (codes "strcmp")) ∷ row 10 (Procedure (codes "/usr/bin/X") (codes "dispatch")) ∷ row 5 (Procedure (codes "/usr/bin/cc") (codes "parse")) ∷ row 5 (Procedure (codes "/vmunix") (codes "idle"))
      ∷ row 3 (NoSymbol (codes "/usr/bin/X")) ∷ row 3 (Procedure (codes "/usr/bin/sh") (codes "main")) ∷ row 1 Unknown ∷ [];
}

by_procedure : report_text procedures All Cycles ≡ lines (
    codes "cycles epoch all total 39"
    ∷ codes "          12  30.76  30.76 strcmp /usr/shlib/libc.so"
    ∷ codes "          10  25.64  56.41 dispatch /usr/bin/X"
    ∷ codes "           5  12.82  69.23 parse /usr/bin/cc"
    ∷ codes "           5  12.82  82.05 idle /vmunix"
    ∷ codes "           3   7.69  89.74 (no symbol) /usr/bin/X"
    ∷ codes "           3   7.69  97.43 main /usr/bin/sh"
    ∷ codes "           1   2.56 100.00 (unknown profile)"
    ∷ [])
unfolding digits row lines procedures
by_procedure = refl

nothing : report_text (record { total = 0; rows = [] }) All Cycles ≡ lines (codes "cycles epoch all total 0" ∷ [])
unfolding digits lines
nothing = refl

one_epoch : report_text (record { total = 1; rows = row 1 (Image (codes "A")) ∷ [] }) (One 1) Cycles ≡ lines (codes "cycles epoch 1 total 1" ∷ codes "           1 100.00 100.00 A" ∷ [])
unfolding digits row lines
one_epoch = refl

-- ---- as CSV

no_rows : report_csv false (record { total = 0; rows = [] }) ≡ lines (codes "count,percent,cumulative,image" ∷ [])
unfolding escaped fields_text is_blank digits lines
no_rows = refl

no_symbol : report_csv true (record { total = 3; rows = row 3 (NoSymbol (codes "/bin/app")) ∷ [] }) ≡ lines (codes "count,percent,cumulative,procedure,image" ∷ codes "3,100.00,100.00,(no symbol),/bin/app" ∷ [])
unfolding escaped fields_text is_blank digits row lines
no_symbol = refl

a_comma : report_csv false (record { total = 1; rows = row 1 (Image (codes "a,b")) ∷ [] }) ≡ lines (codes "count,percent,cumulative,image" ∷ codes "1,100.00,100.00,\"a,b\"" ∷ [])
unfolding escaped fields_text is_blank digits row lines
a_comma = refl

unknown_samples : report_csv true (record { total = 2; rows = row 2 Unknown ∷ [] }) ≡ lines (codes "count,percent,cumulative,procedure,image" ∷ codes "2,100.00,100.00,(unknown profile)," ∷ [])
unfolding escaped fields_text is_blank digits row lines
unknown_samples = refl

-- ---- the order, and exact shares

ties : row_cmp (row 3 (NoSymbol (codes "/usr/bin/X"))) (row 3 (Procedure (codes "/usr/bin/sh") (codes "main"))) ≡ Less
unfolding row
ties = refl

within_an_image : label_cmp (NoSymbol (codes "b")) (Procedure (codes "b") (codes "a")) ≡ Less
within_an_image = refl

largest_first : row_cmp (row 4 Unknown) (row 3 (Image (codes "a"))) ≡ Less
unfolding row
largest_first = refl

unknown_last : label_cmp (Image (codes "z")) Unknown ≡ Less
unknown_last = refl

exact : share_of (2 ^ 127) (2 ^ 128 - 1) ≡ 5000
exact = refl
