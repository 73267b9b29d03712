-- The files whose names have a form.
use Rattle.std.specs.Prelude.{◌≡◌, ℕ, ◌&&◌, ◌⊎◌, Bool, true, List}
use Rattle.store_io.specs.declared.file_refs.FileRef.{FileRef}
use Rattle.store_io.specs.declared.file_refs.FileRef.TheVariants.{Head, Known, Unknown, Segment}
use Rattle.store_io.specs.FileNames.{file_name}
use Rattle.database_state.specs.Standing.{seal_file}
use Rattle.store_tidy.specs.FileForms.{is_in, epochs, images, events, generations}

-- the numbers of a file are in their ranges
abbrev pub is_in_ranges : FileRef → Bool
is_in_ranges (Head g) = is_in generations g
is_in_ranges (Known epoch image event g) = is_in epochs epoch && is_in images image && is_in events event && is_in generations g
is_in_ranges (Unknown epoch event g) = is_in epochs epoch && is_in events event && is_in generations g
is_in_ranges (Segment g) = is_in generations g

-- a name of a file whose numbers are in their ranges
pub record IsFile (name : List ℕ) : Type 0 where
  pub file : FileRef
  pub ranges : is_in_ranges file ≡ true
  pub is : name ≡ file_name file

-- a name of the seal of a generation
pub record IsSeal (name : List ℕ) : Type 0 where
  pub g : ℕ
  pub range : is_in generations g ≡ true
  pub is : name ≡ seal_file g

abbrev pub IsFileOrSeal : List ℕ → Type 0
IsFileOrSeal name = IsFile name ⊎ IsSeal name
