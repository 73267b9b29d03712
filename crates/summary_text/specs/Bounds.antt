-- Counts that are small enough for their sums.
use Rattle.std.specs.Prelude.{ℕ, ◌^◌, ◌<◌, ◌≤◌, List, length, All}
use Rattle.sample_key.specs.Counted.{Counted}
use Rattle.database_model.specs.declared.tallies.TallyRow.{TallyRow}
use Rattle.database_model.specs.Runs.{Drained}
use Rattle.summary_text.specs.Summaries.{taken_in}

-- each entry stands for at most 65,535 samples
abbrev pub AreSmall : List Counted → Type 0
AreSmall entries = All (λ e. e.count ≤ 65535) entries

-- the same of all entries of drains
abbrev pub AllSmall : List Drained → Type 0
AllSmall drains = All (λ d. AreSmall d.batch.entries) drains

-- a row counts fewer than 2 ^ 120 samples
abbrev pub IsSmallRow : TallyRow → Type 0
IsSmallRow row = taken_in row < 2 ^ 120

-- the rows of a tally, small and few enough for their sums in 128 bits
pub record AreFew (rows : List TallyRow) : Type 0 where
  pub small : All IsSmallRow rows
  pub count : length rows ≤ 64
