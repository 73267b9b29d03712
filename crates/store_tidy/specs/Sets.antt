-- Sets of names, as the lists of their keys.
use Rattle.std.specs.Prelude.{◌≡◌, ℕ, ◌||◌, List}
use Rattle.store_io.specs.Listing.{is_listed}

-- they hold the same names
abbrev pub HoldSame : List (List ℕ) → List (List ℕ) → Type 0
HoldSame keys names = (n : List ℕ) → is_listed n keys ≡ is_listed n names

-- these names came to those that were held
abbrev pub Gains : List (List ℕ) → List (List ℕ) → List (List ℕ) → Type 0
Gains names old new = (n : List ℕ) → is_listed n new ≡ (is_listed n names || is_listed n old)
