-- Which runs fit a database: after each of their parts it is within its limits. A database does not tell how many rows its head
-- has, since the profile of a row may be empty, so the head is followed beside it.
use Rattle.std.specs.Prelude.{◌≡◌, ℕ, zero, suc, ◌+◌, ◌≤◌, ◌⊎◌, true, List, ◌++◌, Some}
use Rattle.std.specs.declared.option.Option.{Option}
use Rattle.image_catalog.specs.Images.{place_of}
use Rattle.trace_model.specs.declared.notices.Record.{Record}
use Rattle.database_model.specs.Runs.{Segment, Recorded}
use Rattle.run_model.specs.Shares.{segment_of}
use Rattle.database_state.specs.Database.{Database}
use Rattle.database_state.specs.Heads.{Head}
use Rattle.database_state.specs.Limits.{IsWithinLimits}
use Rattle.database_state.specs.declared.rows.KnownRow.{KnownRow}
use Rattle.database_state.specs.declared.rows.UnknownRow.{UnknownRow}
use Rattle.database_state.specs.Rows.{known_before, unknown_before, is_rising, known_row, unknown_row, known_place, unknown_place}
use Rattle.growth_model.specs.Additions.{Additions, additions_of}
use Rattle.growth_model.specs.Growth.{IsCounted, Selects, IsNewName}
use Rattle.growth_model.specs.Grown.{Grown, part_count, epoch_after_parts}

-- something is added to the profile of an image by its number among these names
pub record IsCountedAt (added : Additions) (names : List (List ℕ)) (epoch image event : ℕ)
    : Type 0 where
  pub name : List ℕ
  pub number : place_of name names ≡ Some image
  pub counted : IsCounted (added.known epoch name event)

-- The row of a place: where something is added to its profile it is written anew, else it stays as it was, if there was one.
abbrev pub RowGrows : {R : Type 0} → Type 0 → R → Option R → Option R → Type 0
RowGrows IsAddedTo written before after =
    (IsAddedTo × (after ≡ Some written)) ⊎ ((IsAddedTo → ⊥) × (after ≡ before))

-- the row of a profile that is written at a generation
abbrev pub known_written : ℕ → ℕ → ℕ → ℕ → KnownRow
known_written epoch image event generation =
    record (known_place epoch image event) { g = generation }

-- the row of an unknown profile that is written at a generation
abbrev pub unknown_written : ℕ → ℕ → ℕ → UnknownRow
unknown_written epoch event generation = record (unknown_place epoch event) { g = generation }

-- The head after one part: the next generation, the new names, and a row for each place that had one or has a count.
pub record HeadGrows (images : List (List ℕ)) (added : Additions) (epoch : ℕ) (segment : Segment)
    (head new : Head)
    : Type 0 where
  pub generation : new.generation ≡ head.generation + 1
  pub last_epoch : new.epoch ≡ epoch
  pub runs : new.runs ≡ segment.run
  pub more : List (List ℕ)
  pub names : new.names ≡ head.names ++ more
  pub chosen : Selects (IsNewName head.names added) images more
  pub known_order : is_rising known_before new.known ≡ true
  pub unknown_order : is_rising unknown_before new.unknown ≡ true
  pub known : (e image event : ℕ) →
      RowGrows (IsCountedAt added new.names e image event)
      (known_written e image event new.generation)
      (known_row head.known e image event) (known_row new.known e image event)
  pub unknown : (e event : ℕ) →
      RowGrows (IsCounted (added.unknown e event)) (unknown_written e event new.generation)
      (unknown_row head.unknown e event) (unknown_row new.unknown e event)

-- the head after the first parts, one after the other
abbrev pub HeadGrowsTo : List (List ℕ) → List Record → Recorded → ℕ → Head → Head → Type 0
HeadGrowsTo images records kept zero head new = new ≡ head
HeadGrowsTo images records kept (suc part) head new =
    (before : Head) × HeadGrowsTo images records kept part head before
    × HeadGrows images (additions_of images records (segment_of records kept part).drains)
    (epoch_after_parts kept.first_epoch records (suc part))
    (segment_of records kept part) before new

-- After the first parts there are a head and a database, and they are within the limits.
pub record FitsAfter (images : List (List ℕ)) (records : List Record) (kept : Recorded) (parts : ℕ)
    (head : Head) (db : Database)
    : Type 0 where
  pub head_after : Head
  pub after : Database
  pub heads : HeadGrowsTo images records kept parts head head_after
  pub grown : Grown images records kept parts db after
  pub within : IsWithinLimits head_after after

-- The run fits the database under this head: so it is at the start and after each part.
abbrev pub KeepsLimits : List (List ℕ) → List Record → Recorded → Head → Database → Type 0
KeepsLimits images records kept head db =
    (parts : ℕ) → parts ≤ part_count records → FitsAfter images records kept parts head db
