-- What a commit adds to a database, and which updates fit.
use Rattle.std.specs.Prelude.{◌≡◌, ℕ, ◌+◌, ◌⊎◌, Bool, true, ◌&&◌, not, nat_le, nat_lt, is_some, List, [], ◌∷◌, ◌++◌, map, length, Some, None, find, fold, count_by}
use Rattle.std.specs.declared.option.Option.{Option}
use Rattle.std.specs.List.{list_all}
use Rattle.store_io.specs.declared.file_refs.FileRef.{FileRef}
use Rattle.image_catalog.specs.Images.{place_of, AreImages}
use Rattle.database_model.specs.declared.profiles.ProfileRow.{ProfileRow}
use Rattle.database_model.specs.Runs.{Segment}
use Rattle.database_model.specs.Ranges.{IsSegment}
use Rattle.database_state.specs.declared.rows.KnownRow.{KnownRow}
use Rattle.database_state.specs.declared.rows.UnknownRow.{UnknownRow}
use Rattle.database_state.specs.Rows.{known_before, known_same, unknown_before, unknown_same, is_rising, with_row, known_place, unknown_place, known_row, unknown_row, known_ref, unknown_ref}
use Rattle.database_state.specs.Database.{Database}
use Rattle.database_state.specs.Heads.{Head}

-- a changed profile, whole
pub record KnownUpdate : Type 0 where
  pub epoch : ℕ
  pub image : ℕ
  pub event : ℕ
  pub rows : List ProfileRow

-- a changed unknown profile, whole
pub record UnknownUpdate : Type 0 where
  pub epoch : ℕ
  pub event : ℕ
  pub rows : List ProfileRow

-- the last epoch afterwards, the new images, the changed profiles and the run's part
pub record Update : Type 0 where
  pub epoch : ℕ
  pub names : List (List ℕ)
  pub known : List KnownUpdate
  pub unknown : List UnknownUpdate
  pub segment : Segment

-- the row of a changed profile that is written at generation g
abbrev pub known_row_of : ℕ → KnownUpdate → KnownRow
known_row_of g u = record { epoch = u.epoch; image = u.image; event = u.event; g = g }

-- the row of a changed unknown profile that is written at generation g
abbrev pub unknown_row_of : ℕ → UnknownUpdate → UnknownRow
unknown_row_of g u = record { epoch = u.epoch; event = u.event; g = g }

-- the file of a changed profile that is written at generation g
abbrev pub known_ref_of : ℕ → KnownUpdate → FileRef
known_ref_of g u = known_ref (known_row_of g u)

-- the file of a changed unknown profile that is written at generation g
abbrev pub unknown_ref_of : ℕ → UnknownUpdate → FileRef
unknown_ref_of g u = unknown_ref (unknown_row_of g u)

-- the changed profile of a place
abbrev pub known_in : List KnownUpdate → ℕ → ℕ → ℕ → Option KnownUpdate
known_in updates epoch image event = find (λ u. known_same (known_place epoch image event) (known_row_of 0 u)) updates

-- the changed unknown profile of a place
abbrev pub unknown_in : List UnknownUpdate → ℕ → ℕ → Option UnknownUpdate
unknown_in updates epoch event = find (λ u. unknown_same (unknown_place epoch event) (unknown_row_of 0 u)) updates

-- the rows of a changed profile, or else those of before
abbrev pub known_or : Option KnownUpdate → Option (List ProfileRow) → Option (List ProfileRow)
known_or None before = before
known_or (Some u) before = Some u.rows

-- the rows of a changed unknown profile, or else those of before
abbrev pub unknown_or : Option UnknownUpdate → Option (List ProfileRow) → Option (List ProfileRow)
unknown_or None before = before
unknown_or (Some u) before = Some u.rows

-- what stands at an image's number, or no rows where the name is no image
abbrev pub at_image : Option ℕ → (ℕ → Option (List ProfileRow)) → Option (List ProfileRow)
at_image None rows = Some []
at_image (Some image) rows = rows image

-- the database after an update
abbrev pub updated : Update → Database → Database
updated u db = record {
  last_epoch = u.epoch;
  runs = u.segment.run;
  names = db.names ++ u.names;
  known = λ epoch name event. at_image (place_of name (db.names ++ u.names)) (λ image. known_or (known_in u.known epoch image event) (db.known epoch name event));
  unknown = λ epoch event. unknown_or (unknown_in u.unknown epoch event) (db.unknown epoch event);
  segments = db.segments ++ Some u.segment ∷ [];
}

-- a changed profile of an epoch and an image that there are
abbrev pub is_known_update : ℕ → ℕ → KnownUpdate → Bool
is_known_update epoch images u = nat_le u.epoch epoch && nat_lt u.image images && nat_le u.event 3

-- a changed unknown profile of an epoch that there is
abbrev pub is_unknown_update : ℕ → UnknownUpdate → Bool
is_unknown_update epoch u = nat_le u.epoch epoch && nat_le u.event 3

-- An update fits a database with this last epoch, these runs and these images: the epoch is the last one or the next, the new images are new,
-- each changed profile comes before the next, and the run is the last one or the next.
pub record Fits (last_epoch runs : ℕ) (images : List (List ℕ)) (u : Update) : Type 0 where
  pub epoch : (u.epoch ≡ last_epoch) ⊎ (u.epoch ≡ last_epoch + 1)
  pub names : AreImages (images ++ u.names)
  pub known : list_all (is_known_update u.epoch (length (images ++ u.names))) u.known ≡ true
  pub known_order : is_rising known_before (map (known_row_of 0) u.known) ≡ true
  pub unknown : list_all (is_unknown_update u.epoch) u.unknown ≡ true
  pub unknown_order : is_rising unknown_before (map (unknown_row_of 0) u.unknown) ≡ true
  pub segment : IsSegment u.segment
  pub run : (u.segment.run ≡ runs) ⊎ (u.segment.run ≡ runs + 1)

-- the rows after a commit of generation g
abbrev pub known_after : ℕ → List KnownRow → List KnownUpdate → List KnownRow
known_after g rows updates = fold (λ before u. with_row known_before known_same before (known_row_of g u)) rows updates

-- the unknown rows after a commit of generation g
abbrev pub unknown_after : ℕ → List UnknownRow → List UnknownUpdate → List UnknownRow
unknown_after g rows updates = fold (λ before u. with_row unknown_before unknown_same before (unknown_row_of g u)) rows updates

-- the head after an update
abbrev pub head_after : Update → Head → Head
head_after u h = record {
  generation = h.generation + 1;
  epoch = u.epoch;
  runs = u.segment.run;
  names = h.names ++ u.names;
  known = known_after (h.generation + 1) h.known u.known;
  unknown = unknown_after (h.generation + 1) h.unknown u.unknown;
}

-- how many rows an update adds: one for each place that had none, and one for the segment
abbrev pub rows_added : Update → Head → ℕ
rows_added u h =
    count_by (λ k. not (is_some (known_row h.known k.epoch k.image k.event))) u.known
    + count_by (λ k. not (is_some (unknown_row h.unknown k.epoch k.event))) u.unknown + 1
