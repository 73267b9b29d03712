-- Lists of parcels, and the answers of a look and a poll.
use Rattle.std.specs.Prelude.{◌≡◌, ℕ, ◌%◌, ◌⊎◌, List, [], ◌∷◌, ◌++◌, Option, Some, None}
use Rattle.turn_cell.specs.declared.passing.Look.{Look}
use Rattle.turn_cell.specs.declared.passing.Look.TheVariants.{Back, Out}
use Rattle.turn_cell.specs.declared.passing.PollOf.{PollOf}
use Rattle.turn_cell.specs.declared.passing.PollOf.TheVariants.{Parcel, Home}

-- an even word says that the turn is the lane's
abbrev pub IsEven : ℕ → Type 0
IsEven word = word % 2 ≡ 0

-- an odd word says that the turn is the daemon's
abbrev pub IsOdd : ℕ → Type 0
IsOdd word = word % 2 ≡ 1

module _ {A : Type 0} where
  -- the last element, if there is one
  abbrev pub last_of : List A → Option A
  last_of [] = None
  last_of (x ∷ []) = Some x
  last_of (x ∷ y ∷ ys) = last_of (y ∷ ys)

  -- the first list is the second, or the second without its last
  abbrev pub IsUpToLast : List A → List A → Type 0
  IsUpToLast taken handed = (taken ≡ handed) ⊎ ((p : A) × (handed ≡ taken ++ p ∷ []))

  -- a fact for each answer of a look
  abbrev pub MatchLook : Look A → (A → Type 0) → (ℕ → Type 0) → Type 0
  MatchLook (Back x) P Q = P x
  MatchLook (Out word) P Q = Q word

  -- a fact for each answer of a poll
  abbrev pub MatchPoll : PollOf A → (A → Type 0) → (ℕ → Type 0) → Type 0
  MatchPoll (Parcel p) P Q = P p
  MatchPoll (Home word) P Q = Q word
