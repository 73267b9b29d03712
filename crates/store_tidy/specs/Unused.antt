-- The files that a head uses, and those that it does not.
use Rattle.std.specs.Prelude.{◌≡◌, ℕ, zero, suc, ◌&&◌, ◌⊎◌, not, Bool, true, if◌then◌else◌, List, [], ◌∷◌, ◌++◌, map, None}
use Rattle.store_io.specs.Files.{Files}
use Rattle.store_io.specs.Listing.{is_listed}
use Rattle.database_state.specs.Database.{Database}
use Rattle.database_state.specs.Heads.{Head}
use Rattle.database_state.specs.Rows.{known_file, unknown_file}
use Rattle.database_state.specs.Standing.{seal_file, head_file, segment_file, HaveHead, database_of}
use Rattle.store_tidy.specs.FileForms.{is_file_name}

-- the names of the segments of the generations up to this one
abbrev pub segment_names : ℕ → List (List ℕ)
segment_names zero = []
segment_names (suc g) = segment_file (suc g) ∷ segment_names g

-- the names that a head uses: those of its seal and of itself, of its segments, and of the files of its rows
abbrev pub used_names : Head → List (List ℕ)
used_names h = seal_file h.generation ∷ head_file h.generation ∷ segment_names h.generation ++ (map known_file h.known ++ map unknown_file h.unknown)

-- a name of a database's file that a head does not use
abbrev pub is_unused : Head → List ℕ → Bool
is_unused h name = is_file_name name && not (is_listed name (used_names h))

-- the files without those that a head does not use
abbrev pub without_unused : Head → Files → Files
without_unused h files = λ name. if is_unused h name then None else files name

-- some of the files that a head does not use are gone, and no other
abbrev pub LosesUnused : Head → Files → Files → Type 0
LosesUnused h old new = (name : List ℕ) → (new name ≡ old name) ⊎ ((is_unused h name ≡ true) × (new name ≡ None))

-- the files have this head, and say this under it
abbrev pub Says : Head → Database → Files → Type 0
Says h db files = HaveHead files h × (database_of h files ≡ db)
