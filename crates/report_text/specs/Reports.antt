-- What rows are a listing: largest first, each label once, each count above 0, and their total.
use Rattle.std.specs.Prelude.{◌≡◌, ℕ, ◌<◌, Bool, true, if◌then◌else◌, List, [], ◌∷◌, map, sum_by, All}
use Rattle.std.specs.List.{IsDistinct}
use Rattle.std.specs.List.Sorted.{IsStrictlySortedBy}
use Rattle.report_text.specs.declared.labels.Label.{Label}
use Rattle.report_text.specs.declared.rows.Row.{Row}
use Rattle.report_text.specs.Labels.{same_label, row_cmp, is_listed}

-- the rows of a listing, and the total that it states
pub record Report : Type 0 where
  pub total : ℕ
  pub rows : List Row

-- the total is the sum of the counts, of which none is 0
pub record AddsUp (report : Report) : Type 0 where
  pub total : report.total ≡ sum_by (λ row. row.count) report.rows
  pub some : All (λ row. 0 < row.count) report.rows

-- the rows stand in their order, and no label stands twice
pub record StandsInOrder (rows : List Row) : Type 0 where
  pub order : IsStrictlySortedBy row_cmp rows
  pub apart : IsDistinct same_label (map (λ row. row.label) rows)

-- each label is one of a listing by procedure, or of one by image
abbrev pub AreListed : Bool → List Row → Type 0
AreListed procedures rows = All (λ row. is_listed procedures row.label ≡ true) rows

-- what rows count under a label, 0 where they do not have it
abbrev pub listed_at : Label → List Row → ℕ
listed_at label [] = 0
listed_at label (row ∷ rows) = if same_label label row.label then row.count else listed_at label rows

-- a listing of these counts by label
pub record Lists (count : Label → ℕ) (rows : List Row) : Type 0 where
  pub order : StandsInOrder rows
  pub counts : (label : Label) → listed_at label rows ≡ count label
