-- A bell: one word, the value rung last, and the rule that its table keeps between any two steps.
use Rattle.std.specs.Prelude.{◌≡◌, ℕ, ◌+◌, ◌-◌, ◌^◌, ◌≤◌, ◌⊎◌, true, false, List, [], ◌∷◌, ◌++◌, length, slice_index, Contains}
use Rattle.std.specs.List.Sorted.{IsNonDecreasing}
use mathlib.Core.Option.{some}
use lib.ListN.{get_elem?}
use Rattle.atomic_table.specs.Table.{State, Me}
use Rattle.turn_cell.specs.declared.bell_view.BellView.{BellView}

-- the value rung last, 0 before the first
abbrev pub last_rung : List ℕ → ℕ
last_rung rungs = slice_index rungs (length rungs - 1)

-- 0, or one of the values rung
abbrev pub IsRungOrZero : List ℕ → ℕ → Type 0
IsRungOrZero rungs value = (value ≡ 0) ⊎ Contains rungs value

-- the ringing end of a new bell
abbrev pub ringer : BellView
ringer = record { rings = true; rungs = []; heard = 0; read = 0; loads = 0 }

-- a new end that hears, with what was heard before
abbrev pub hearer : ℕ → BellView
hearer value = record { rings = false; rungs = []; heard = value; read = 0; loads = 0 }

-- the ringing end with the value of a note beside what it rang
abbrev pub with_noted : BellView → BellView → BellView
with_noted ringing noted = record ringing { heard = noted.heard }

-- the ringing end after it rang this value
abbrev pub after_ring : BellView → ℕ → BellView
after_ring view value = record view { rungs = view.rungs ++ value ∷ [] }

-- a hearing end after a load that found this word
abbrev pub after_hear : BellView → ℕ → BellView
after_hear view word = record view { heard = word; read = word; loads = view.loads + 1 }

-- the ringing end after a load that found this word
abbrev pub after_meet : BellView → ℕ → BellView
after_meet view word = record view { read = word; loads = view.loads + 1 }

-- What an end heard is at most the value rung last, and 0 or one of the values rung. The ringing
-- end is one seat, and knows all values rung.
abbrev pub FitsBell : List ℕ → ℕ → ℕ → BellView → Type 0
FitsBell rungs bearer seat view =
    (view.heard ≤ last_rung rungs)
    × IsRungOrZero rungs view.heard
    × (view.rings ≡ true → (seat ≡ bearer) × (view.rungs ≡ rungs))

-- The rule of a bell: the word is the value rung last, the values rung never fall, and what each
-- end knows is so. A spent end knows nothing.
pub record RisesOnly {S : Type 0} (state : State S BellView) : Type 0 where
  pub rungs : List ℕ
  pub bearer : ℕ
  pub words : state.words ≡ last_rung rungs ∷ []
  pub rising : IsNonDecreasing rungs
  pub bound : last_rung rungs ≤ 2 ^ 32
  pub fits : (seat : ℕ) (view : BellView)
      → get_elem? state.views seat ≡ some view → FitsBell rungs bearer seat view

-- What each step tells: of the seat before, the word found or stored and the seat after.
module _ {S : Type 0} where
  -- a step that loads notes in its end's view the word that it found, and counts one load more
  abbrev pub IsBellNoted : Me S BellView → ℕ → Me S BellView → Type 0
  IsBellNoted before word after =
      (after.0.read ≡ word) × (after.0.loads ≡ before.0.loads + 1)

  -- the values rung are longer by one
  abbrev pub rang : Me S BellView → ℕ → Me S BellView → Type 0
  rang before value after =
      (after.0 ≡ after_ring before.0 value) × (after.1 ≡ before.1)

  -- what was heard is the word, which never fell and is at most 2^32
  abbrev pub heard : Me S BellView → ℕ → Me S BellView → Type 0
  heard before word after =
      (after.0 ≡ after_hear before.0 word)
      × (after.1 ≡ before.1)
      × (before.0.heard ≤ word)
      × (word ≤ 2 ^ 32)

  -- the word is the value rung last, and the noted value is at most that, and 0 or was rung
  abbrev pub met : Me S BellView → ℕ → Me S BellView → Type 0
  met before word after =
      (after.0 ≡ after_meet before.0 word)
      × (after.1 ≡ before.1)
      × (word ≡ last_rung before.0.rungs)
      × (before.0.heard ≤ last_rung before.0.rungs)
      × IsRungOrZero before.0.rungs before.0.heard

-- A bell between two steps: its word is the value rung last, which never fell and is at most 2^32,
-- and what was heard is at most the word and is 0 or was rung.
pub record IsSoundBell {S : Type 0} (state : State S BellView) : Type 0 where
  pub rungs : List ℕ
  pub words : state.words ≡ last_rung rungs ∷ []
  pub rising : IsNonDecreasing rungs
  pub bound : last_rung rungs ≤ 2 ^ 32
  pub heard_by : (seat : ℕ) (view : BellView)
      → get_elem? state.views seat ≡ some view
      → (view.heard ≤ last_rung rungs) × IsRungOrZero rungs view.heard
  pub rung_by : (seat : ℕ) (view : BellView)
      → get_elem? state.views seat ≡ some view → view.rings ≡ true → view.rungs ≡ rungs
