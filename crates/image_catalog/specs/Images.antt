-- The names of a database's images, in the order in which they were added, and the index by which one is found.
use Rattle.std.specs.Prelude.{◌≡◌, ℕ, ◌≤◌, ◌<◌, Bool, true, false, is_some, if◌then◌else◌, List, [], ◌∷◌, ◌++◌, length, position, find, slice_index_or}
use Rattle.std.specs.declared.option.Option.{Option}
use Rattle.std.specs.List.{IsDistinct, AllByRecursion, AllWithin}
use Rattle.std.specs.List.Sorted.{IsStrictlySortedBy}
use Rattle.std.specs.Ordering.{nat_cmp, is_lt}
use Rattle.std.specs.Cmp.Lexicographic.{slice_cmp}
use Rattle.std.specs.Str.{bytes_eq}
use Rattle.image_catalog.specs.declared.catalog.TheConstants.{MOST_IMAGES}

-- the place at which a name stands
abbrev pub place_of : List ℕ → List (List ℕ) → Option ℕ
place_of name names = position (λ held. bytes_eq held name) names

-- the names with this one among them: at the end, where it is new
abbrev pub with_name : List (List ℕ) → List ℕ → List (List ℕ)
with_name names name = if is_some (place_of name names) then names else names ++ name ∷ []

-- no name stands twice, and there are at most as many as a catalog may hold
pub record AreImages (names : List (List ℕ)) : Type 0 where
  pub apart : IsDistinct bytes_eq names
  pub few : length names ≤ MOST_IMAGES

-- the name of a number; no bytes where it is not given
abbrev pub text_at : List (List ℕ) → ℕ → List ℕ
text_at names number = slice_index_or names number []

-- whether the name of a number comes before this one in byte order
abbrev pub comes_before : List (List ℕ) → ℕ → List ℕ → Bool
comes_before names number name = is_lt (slice_cmp nat_cmp (text_at names number) name)

-- the names of the first `at` of these numbers come before this one
abbrev pub FrontIsBefore : List (List ℕ) → List ℕ → ℕ → List ℕ → Type 0
FrontIsBefore names order at name = AllWithin (λ k. comes_before names k name ≡ true) order 0 at

-- and those of the others do not
abbrev pub RestIsNotBefore : List (List ℕ) → List ℕ → ℕ → List ℕ → Type 0
RestIsNotBefore names order at name =
    AllWithin (λ k. comes_before names k name ≡ false) order at (length order)

-- numbers in the byte order of their names
abbrev pub Rises : List (List ℕ) → List ℕ → Type 0
Rises names order = IsStrictlySortedBy (λ a b. slice_cmp nat_cmp (text_at names a) (text_at names b)) order

-- A catalog: its names, and the index, in which each name is found under its place.
pub record IsCatalog (names : List (List ℕ)) (order : List ℕ) : Type 0 where
  pub images : AreImages names
  pub within : AllByRecursion (λ k. k < length names) order
  pub rising : Rises names order
  pub finds : (name : List ℕ) → find (λ k. bytes_eq (text_at names k) name) order ≡ place_of name names
