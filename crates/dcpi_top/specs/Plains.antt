-- The text that `plain` owes.
use Rattle.std.specs.Prelude.{◌≡◌, ℕ, List, IfSome}
use Rattle.std.specs.declared.option.Option.{Option}
use Rattle.trace_model.specs.Recording.{Recording, Reads}
use Rattle.trace_model.specs.Counting.{Row, AreCountsOf, rows_text, spots_in}

-- the listing of the counts by place of the trace that these bytes are
pub record IsPlainText (bytes text : List ℕ) : Type 0 where
  pub recording : Recording
  pub rows : List Row
  pub reads : Reads bytes recording
  pub counts : AreCountsOf rows (spots_in recording 0)
  pub listed : text ≡ rows_text rows

-- the same of an input, where its bytes are told
abbrev pub IsPlainTextOf : Option (List ℕ) → List ℕ → Type 0
IsPlainTextOf input text = IfSome input (λ bytes. IsPlainText bytes text)
