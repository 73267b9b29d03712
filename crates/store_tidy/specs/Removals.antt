-- Removals, one after the other, and what a tidying leaves.
use Rattle.std.specs.Prelude.{◌≡◌, ℕ, ◌⊎◌, List, [], ◌∷◌, length, filter, None, Some}
use Rattle.store_io.specs.Files.{Files, with_file}
use Rattle.store_io.specs.Listing.{IsInByteOrder, Lists}
use Rattle.store_io.specs.Outcomes.{MaybeRemoved}
use Rattle.database_state.specs.Heads.{Head}
use Rattle.store_tidy.specs.Unused.{is_unused, without_unused}

-- the files without these, the first of them taken away first
abbrev pub without : List (List ℕ) → Files → Files
without [] files = files
without (name ∷ names) files = without names (with_file name None files)

-- all of them are taken away
abbrev pub AllRemoved : List (List ℕ) → Files → Files → Type 0
AllRemoved names old new = new ≡ without names old

-- the first of them are taken away, and the next one maybe
abbrev pub FirstRemoved : List (List ℕ) → Files → Files → Type 0
FirstRemoved [] old new = new ≡ old
FirstRemoved (name ∷ names) old new = MaybeRemoved name old new ⊎ FirstRemoved names (with_file name None old) new

-- the names that are there, in byte order, each once
pub record AreNamesOf (files : Files) (names : List (List ℕ)) : Type 0 where
  pub order : IsInByteOrder names
  pub all : Lists (Some files) names

-- The files that a head does not use are gone and no others, and n is how many of the names that were there these are.
pub record Tidied (h : Head) (n : ℕ) (old new : Files) : Type 0 where
  pub files : new ≡ without_unused h old
  pub names : List (List ℕ)
  pub of : AreNamesOf old names
  pub count : n ≡ length (filter (is_unused h) names)

-- Of the files that a head does not use the first are gone, in byte order, and the next one maybe.
pub record TidiedInPart (h : Head) (old new : Files) : Type 0 where
  pub names : List (List ℕ)
  pub of : AreNamesOf old names
  pub first : FirstRemoved (filter (is_unused h) names) old new

-- what a tidying that failed leaves
abbrev pub LeftUntidy : Head → Files → Files → Type 0
LeftUntidy h old new = (new ≡ old) ⊎ TidiedInPart h old new
