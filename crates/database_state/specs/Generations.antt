-- The files of a generation, as their names tell them.
use Rattle.std.specs.Prelude.{◌≡◌, ◌⊎◌, ℕ, ◌^◌, ◌<◌, List}
use Rattle.store_io.specs.Files.{Files}
use Rattle.store_io.specs.declared.file_refs.FileRef.{FileRef}
use Rattle.store_io.specs.declared.file_refs.FileRef.TheVariants.{Head, Known, Unknown, Segment}
use Rattle.store_io.specs.FileNames.{file_name}
use Rattle.database_state.specs.Standing.{seal_file}

-- the numbers of a file have spellings of their own
abbrev pub FileFits : FileRef → Type 0
FileFits (Head g) = g < 2 ^ 64
FileFits (Known epoch image event g) = (epoch < 2 ^ 64) × (image < 2 ^ 64) × (event < 2 ^ 64) × (g < 2 ^ 64)
FileFits (Unknown epoch event g) = (epoch < 2 ^ 64) × (event < 2 ^ 64) × (g < 2 ^ 64)
FileFits (Segment g) = g < 2 ^ 64

-- the generation at which a file was written
abbrev pub generation_of : FileRef → ℕ
generation_of (Head g) = g
generation_of (Known epoch image event g) = g
generation_of (Unknown epoch event g) = g
generation_of (Segment g) = g

-- a name of a file of generation g
pub record IsComing (g : ℕ) (name : List ℕ) : Type 0 where
  pub file : FileRef
  pub fits : FileFits file
  pub of : generation_of file ≡ g
  pub is : name ≡ file_name file

-- the name of a file of generation g, or of its seal
abbrev pub IsOfGeneration : ℕ → List ℕ → Type 0
IsOfGeneration g name = IsComing g name ⊎ (name ≡ seal_file g)

-- under all names but those of generation g stands what stood there
abbrev pub OthersStay : ℕ → Files → Files → Type 0
OthersStay g old new = (name : List ℕ) → (IsOfGeneration g name → ⊥) → new name ≡ old name
