-- What a database may hold. Rows are counted along its head, since a profile with no rows may have a row there.
use Rattle.std.specs.Prelude.{ℕ, ◌≤◌, List, length, None, Some}
use Rattle.std.specs.declared.option.Option.{Option}
use Rattle.database_model.specs.declared.profiles.ProfileRow.{ProfileRow}
use Rattle.database_model.specs.Ranges.{AreRows}
use Rattle.database_state.specs.Database.{Database}
use Rattle.database_state.specs.Heads.{Head, row_count}

-- the rows of a profile, or a bad one
abbrev pub IsProfile : Option (List ProfileRow) → Type 0
IsProfile None = Unit {0}
IsProfile (Some rows) = AreRows rows

-- A database under a head is within the limits: at most 4,096 images, at most 65,536 rows and segments, and counts up to 2 ^ 48.
pub record IsWithinLimits (h : Head) (db : Database) : Type 0 where
  pub images : length db.names ≤ 4096
  pub rows : row_count h ≤ 65536
  pub known : (epoch : ℕ) (name : List ℕ) (event : ℕ) → IsProfile (db.known epoch name event)
  pub unknown : (epoch event : ℕ) → IsProfile (db.unknown epoch event)
