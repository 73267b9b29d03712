-- Which files stand for which database.
use Rattle.std.specs.Prelude.{◌≡◌, ℕ, zero, suc, ◌<◌, ◌≤◌, List, [], ◌∷◌, ◌++◌, codes, None, Some, Ok, Err, IsSome}
use Rattle.std.specs.declared.option.Option.{Option}
use Rattle.std.specs.declared.result.Result.{Result}
use Rattle.std.specs.Fmt.{decimal}
use Rattle.store_io.specs.Files.{Files}
use Rattle.store_io.specs.declared.file_refs.FileRef.{FileRef}
use Rattle.store_io.specs.declared.file_refs.FileRef.TheVariants.{Head, Segment}
use Rattle.store_io.specs.FileNames.{file_name}
use Rattle.image_catalog.specs.Images.{place_of}
use Rattle.var_bytes.specs.Forms.{Form}
use Rattle.var_bytes.specs.Reading.{read_form}
use Rattle.database_model.specs.declared.profiles.ProfileRow.{ProfileRow}
use Rattle.database_model.specs.ProfileForm.{format1}
use Rattle.database_model.specs.SegmentForm.{segment}
use Rattle.database_model.specs.Runs as runs
use Rattle.database_state.specs.declared.rows.KnownRow.{KnownRow}
use Rattle.database_state.specs.declared.rows.UnknownRow.{UnknownRow}
use Rattle.database_state.specs.Rows.{known_row, unknown_row, known_ref, unknown_ref}
use Rattle.database_state.specs.Database.{Database}
use Rattle.database_state.specs.Heads as heads
use Rattle.database_state.specs.Updates.{at_image}

-- the names of a seal, a head and a segment
abbrev pub seal_file : ℕ → List ℕ
seal_file g = codes "seal." ++ decimal g

abbrev pub head_file : ℕ → List ℕ
head_file g = file_name (Head g)

abbrev pub segment_file : ℕ → List ℕ
segment_file g = file_name (Segment g)

-- the value of a result, if there is one
abbrev pub told : {A : Type 0} → Result A ℕ → Option A
told (Ok value) = Some value
told (Err at) = None

-- what a file tells in a format; nothing where it is missing or not in its form
abbrev pub value_in : {A : Type 0} → Form A → Option (List ℕ) → Option A
value_in form None = None
value_in form (Some bytes) = told (read_form form bytes)

-- what the file of a row tells; no rows where there is no row
abbrev pub profile_at : {R : Type 0} → (R → FileRef) → Files → Option R → Option (List ProfileRow)
profile_at file files None = Some []
profile_at file files (Some r) = value_in format1 (files (file_name (file r)))

-- what the file of a profile's row tells
abbrev pub known_at : Files → Option KnownRow → Option (List ProfileRow)
known_at files row = profile_at known_ref files row

-- what the file of an unknown profile's row tells
abbrev pub unknown_at : Files → Option UnknownRow → Option (List ProfileRow)
unknown_at files row = profile_at unknown_ref files row

-- the segments of the generations up to this one
abbrev pub segments_to : ℕ → Files → List (Option runs.Segment)
segments_to zero files = []
segments_to (suc g) files = segments_to g files ++ value_in segment (files (segment_file (suc g))) ∷ []

-- g is the greatest generation from 1 to 65,536 that is sealed, or 0 where none is
pub record IsLatest (files : Files) (g : ℕ) : Type 0 where
  pub most : g ≤ 65536
  pub here : 0 < g → IsSome (files (seal_file g))
  pub above : (k : ℕ) → g < k → k ≤ 65536 → files (seal_file k) ≡ None

-- the files have this head: that of the greatest sealed generation, or the empty one where none is sealed
pub record HaveHead (files : Files) (h : heads.Head) : Type 0 where
  pub latest : IsLatest files h.generation
  pub fresh : h.generation ≡ 0 → h ≡ heads.empty_head
  pub sealed : 0 < h.generation → (files (head_file h.generation) ≡ Some (heads.head_text h)) × heads.IsHead h

-- what files say under a head
abbrev pub database_of : heads.Head → Files → Database
database_of h files = record {
  last_epoch = h.epoch;
  runs = h.runs;
  names = h.names;
  known = λ epoch name event. at_image (place_of name h.names) (λ image. known_at files (known_row h.known epoch image event));
  unknown = λ epoch event. unknown_at files (unknown_row h.unknown epoch event);
  segments = segments_to h.generation files;
}

-- the files stand for this database; where the greatest sealed head is missing or not in its form they stand for none
abbrev pub StandsFor : Files → Database → Type 0
StandsFor files db = (h : heads.Head) × HaveHead files h × (database_of h files ≡ db)

-- all files that a crash may leave have this head, and say this under it
abbrev pub CrashesSay : (Files → Type 0) → heads.Head → Database → Type 0
CrashesSay outcomes h db = (c : Files) → outcomes c → HaveHead c h × (database_of h c ≡ db)

-- where the files are told they have this head, and say this under it
abbrev pub SaysWhereTold : Option Files → heads.Head → Database → Type 0
SaysWhereTold files h db = (f : Files) → files ≡ Some f → HaveHead f h × (database_of h f ≡ db)
