-- The profile database as a value.
use Rattle.std.specs.Prelude.{ℕ, List, [], Some}
use Rattle.std.specs.declared.option.Option.{Option}
use Rattle.database_model.specs.declared.profiles.ProfileRow.{ProfileRow}
use Rattle.database_model.specs.Runs.{Segment}

-- A profile for each epoch, image name and event code, and an unknown profile for each epoch and event code: its rows, none of them where
-- there is no profile, or nothing where its file is bad. The segments of the runs, in order, each told or bad.
pub record Database : Type 0 where
  pub last_epoch : ℕ
  pub runs : ℕ
  pub names : List (List ℕ)
  pub known : ℕ → List ℕ → ℕ → Option (List ProfileRow)
  pub unknown : ℕ → ℕ → Option (List ProfileRow)
  pub segments : List (Option Segment)

-- nothing was committed
abbrev pub empty_database : Database
empty_database = record { last_epoch = 0; runs = 0; names = []; known = λ epoch name event. Some []; unknown = λ epoch event. Some []; segments = [] }
