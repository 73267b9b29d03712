-- How a database grows by one part of a run.
use Rattle.std.specs.Prelude.{◌≡◌, ℕ, ◌+◌, ◌<◌, ◌==◌, Bool, true, false, if◌then◌else◌, List, [], ◌∷◌, ◌++◌, filter, None, Some}
use Rattle.std.specs.declared.option.Option.{Option}
use Rattle.image_catalog.specs.Images.{place_of}
use Rattle.trace_model.specs.declared.notices.Record.{Record}
use Rattle.database_model.specs.declared.profiles.ProfileRow.{ProfileRow}
use Rattle.database_model.specs.Ranges.{AreRows}
use Rattle.database_model.specs.Runs.{Segment}
use Rattle.database_state.specs.Database.{Database}
use Rattle.growth_model.specs.Additions.{Additions, additions_of}

-- what rows count at an offset, 0 where they have no row
abbrev pub count_at : List ProfileRow → ℕ → ℕ
count_at [] offset = 0
count_at (row ∷ rows) offset = if row.offset == offset then row.count else count_at rows offset

-- The rows of a profile, which count at each offset what these count and what is added there.
pub record AreGrown (added : ℕ → ℕ) (rows grown : List ProfileRow) : Type 0 where
  pub are_rows : AreRows grown
  pub counts : (offset : ℕ) → count_at grown offset ≡ count_at rows offset + added offset

-- A profile after additions. A bad one stays bad, and nothing is added to it.
abbrev pub IsGrown : (ℕ → ℕ) → Option (List ProfileRow) → Option (List ProfileRow) → Type 0
IsGrown added None after = ((offset : ℕ) → added offset ≡ 0) × (after ≡ None)
IsGrown added (Some rows) after =
    (grown : List ProfileRow) × (after ≡ Some grown) × AreGrown added rows grown

-- something is added to a profile
pub record IsCounted (added : ℕ → ℕ) : Type 0 where
  pub offset : ℕ
  pub some : 0 < added offset

-- The chosen ones are those of which P holds, in their order.
pub record Selects {X : Type 0} (P : X → Type 0) (all chosen : List X) : Type 0 where
  pub test : X → Bool
  pub holds : (x : X) → test x ≡ true → P x
  pub fails : (x : X) → test x ≡ false → P x → ⊥
  pub list : chosen ≡ filter test all

-- a name that is not held and has a count
pub record IsNewName (held : List (List ℕ)) (added : Additions) (name : List ℕ) : Type 0 where
  pub fresh : place_of name held ≡ None
  pub epoch : ℕ
  pub event : ℕ
  pub counted : IsCounted (added.known epoch name event)

-- One part: the counts are added, the images of the trace that are new and have a count are appended in the trace's order, and
-- so is the segment. Its run is the last one, and the last epoch is the one that is given.
pub record Grows (images : List (List ℕ)) (added : Additions) (epoch : ℕ) (segment : Segment)
    (db new : Database)
    : Type 0 where
  pub last_epoch : new.last_epoch ≡ epoch
  pub runs : new.runs ≡ segment.run
  pub more : List (List ℕ)
  pub names : new.names ≡ db.names ++ more
  pub chosen : Selects (IsNewName db.names added) images more
  pub known : (e : ℕ) (name : List ℕ) (event : ℕ) →
      IsGrown (added.known e name event) (db.known e name event) (new.known e name event)
  pub unknown : (e event : ℕ) →
      IsGrown (added.unknown e event) (db.unknown e event) (new.unknown e event)
  pub segments : new.segments ≡ db.segments ++ Some segment ∷ []

-- the database grows by what the drains of a segment add
abbrev pub GrowsByPart : List (List ℕ) → List Record → ℕ → Segment → Database → Database → Type 0
GrowsByPart images records epoch segment db new =
    Grows images (additions_of images records segment.drains) epoch segment db new
