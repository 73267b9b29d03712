-- The last of a list.
use Rattle.std.proofs.Common.{◌≡◌, List, [], ◌∷◌, ◌++◌, Some, refl}
use Rattle.turn_cell.specs.Parcels.{last_of}

-- the last of a list that was pushed to
pub last_of_pushed : {A : Type 0} (xs : List A) (x : A) → last_of (xs ++ x ∷ []) ≡ Some x
last_of_pushed [] x = refl
last_of_pushed (y ∷ []) x = refl
last_of_pushed (y ∷ z ∷ zs) x = last_of_pushed (z ∷ zs) x
