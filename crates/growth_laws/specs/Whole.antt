-- What a whole run adds to a database.
use Rattle.std.specs.Prelude.{ℕ, List}
use Rattle.trace_model.specs.declared.notices.Record.{Record}
use Rattle.database_model.specs.Runs.{Recorded}
use Rattle.database_state.specs.Database.{Database}
use Rattle.database_state.specs.Limits.{IsProfile}
use Rattle.growth_model.specs.Additions.{Additions, additions_of}
use Rattle.growth_model.specs.Growth.{IsGrown}
use Rattle.growth_model.specs.Grown.{GrownWhole}

-- the profiles of a database are profiles, or bad
pub record HasProfiles (db : Database) : Type 0 where
  pub known : (epoch : ℕ) (name : List ℕ) (event : ℕ) → IsProfile (db.known epoch name event)
  pub unknown : (epoch event : ℕ) → IsProfile (db.unknown epoch event)

-- The profiles of the new database count what those of the other count, and what is added.
pub record CountsGrow (added : Additions) (db new : Database) : Type 0 where
  pub known : (epoch : ℕ) (name : List ℕ) (event : ℕ) →
      IsGrown (added.known epoch name event) (db.known epoch name event)
      (new.known epoch name event)
  pub unknown : (epoch event : ℕ) →
      IsGrown (added.unknown epoch event) (db.unknown epoch event) (new.unknown epoch event)

-- After a whole run the counts have grown by what all its drains add, part by part or together.
abbrev pub RunsAddAllDrains : Type 0
RunsAddAllDrains = (images : List (List ℕ)) (records : List Record) (kept : Recorded)
    (db new : Database) → HasProfiles db → GrownWhole images records kept db new
    → CountsGrow (additions_of images records kept.drains) db new
