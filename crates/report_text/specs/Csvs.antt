-- A listing as CSV.
use Rattle.std.specs.Prelude.{◌≡◌, ℕ, ◌+◌, Bool, true, false, List, [], ◌∷◌, ◌++◌, codes}
use Rattle.std.specs.Fmt.{decimal}
use Rattle.csv.specs.declared.writer.Writer.{Writer}
use Rattle.csv.specs.Writing.{default_writer, row_text, writer_setup, fields_written, has_written}
use Rattle.report_text.specs.declared.labels.Label.{Label}
use Rattle.report_text.specs.declared.labels.Label.TheVariants.{Image, Procedure, NoSymbol, Unknown}
use Rattle.report_text.specs.declared.rows.Row.{Row}
use Rattle.report_text.specs.Reports.{Report}
use Rattle.report_text.specs.Texts.{percent}

-- the last columns of the header: those of a listing by procedure, or of one by image
abbrev pub title_fields : Bool → List (List ℕ)
title_fields true = codes "procedure" ∷ codes "image" ∷ []
title_fields false = codes "image" ∷ []

-- the last columns of the row of what lies in no procedure of an image
abbrev pub no_symbol_fields : List ℕ → List (List ℕ)
no_symbol_fields image = codes "(no symbol)" ∷ image ∷ []

-- the last columns of the row of the unknown samples, which have no image
abbrev pub unknown_fields : Bool → List (List ℕ)
unknown_fields true = codes "(unknown profile)" ∷ [] ∷ []
unknown_fields false = codes "(unknown profile)" ∷ []

-- the last columns of a row
abbrev pub label_fields : Bool → Label → List (List ℕ)
label_fields procedures (Image image) = image ∷ []
label_fields procedures (Procedure image name) = name ∷ image ∷ []
label_fields procedures (NoSymbol image) = no_symbol_fields image
label_fields procedures Unknown = unknown_fields procedures

-- the header
abbrev pub header_record : Bool → List ℕ
header_record procedures = row_text default_writer (codes "count" ∷ codes "percent" ∷ codes "cumulative" ∷ title_fields procedures)

-- the record of a row, where the rows up to it count this much
abbrev pub row_record : Bool → ℕ → ℕ → Row → List ℕ
row_record procedures total up_to row =
    row_text default_writer (decimal row.count ∷ percent row.count total ∷ percent up_to total ∷ label_fields procedures row.label)

-- the records of rows, where those before them count this much
abbrev pub records_after : Bool → ℕ → ℕ → List Row → List ℕ
records_after procedures total before [] = []
records_after procedures total before (row ∷ rows) =
    row_record procedures total (before + row.count) row ++ records_after procedures total (before + row.count) rows

-- a listing as CSV
abbrev pub report_csv : Bool → Report → List ℕ
report_csv procedures report = header_record procedures ++ records_after procedures report.total 0 report.rows

-- a writer with the defaults, between two records
pub record IsReady {W : Type 0} (writer : Writer W) : Type 0 where
  pub setup : writer_setup writer ≡ default_writer
  pub fields : fields_written writer ≡ 0
  pub clean : has_written writer ≡ false
