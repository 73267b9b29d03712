-- The daemon's half of the cells and the bell, and how a word hands a value over and back.
use Rattle.std.specs.Prelude.{◌≡◌, ℕ, ◌+◌, ◌%◌, ◌^◌, ◌≤◌, ◌==◌, Bool, true, false, if◌then◌else◌, List, [], ◌∷◌, ◌++◌, length, Option, Some, None, ◌⊎◌}
use Rattle.sample_key.specs.Sent.{Sent}
use Rattle.driver_model.specs.Lists.{SomeOf}
use Rattle.driver_model.specs.Sides.{Slot, Side}

-- one cell as the daemon sees it
pub record FarSlot : Type 0 where
  -- the batches taken, in order
  pub taken : List Sent
  -- whether the daemon holds the value
  pub holds : Bool

-- how often the values of the three cells were given back
pub record Given : Type 0 where
  pub first : ℕ
  pub second : ℕ
  pub third : ℕ

-- what the daemon's calls change and the driver's leave
pub record FarSide : Type 0 where
  -- buffer 0, buffer 1 and the table
  pub first : FarSlot
  pub second : FarSlot
  pub third : FarSlot
  -- the turn of the table taken last, 0 before the first
  pub turn : ℕ
  -- the values given back, where the side tells the words of its cells
  pub given : Option Given
  -- the bell values rung, in order
  pub rungs : List ℕ
  -- the tries of buffer 0 at the ring made last, 0 before the first
  pub rung_at : ℕ

-- the last of a list, or this
abbrev pub last_from : ℕ → List ℕ → ℕ
last_from last [] = last
last_from last (x ∷ xs) = last_from x xs

-- the value rung last, 0 before the first
abbrev pub rung_of : List ℕ → ℕ
rung_of rungs = last_from 0 rungs

-- a buffer's cell as the daemon sees it, by its number
abbrev pub far_slot_of : FarSide → ℕ → FarSlot
far_slot_of far number = if number == 0 then far.first else far.second

-- how often a buffer was given back
abbrev pub given_of : Given → ℕ → ℕ
given_of given number = if number == 0 then given.first else given.second

-- the cell after a poll that took this batch
abbrev pub far_slot_took : FarSlot → Sent → FarSlot
far_slot_took slot batch = record { taken = slot.taken ++ batch ∷ []; holds = true }

-- the cell after its value was given back
abbrev pub far_slot_gave : FarSlot → FarSlot
far_slot_gave slot = record { taken = slot.taken; holds = false }

-- the daemon's half after it took this batch from a buffer
abbrev pub far_took_buffer : FarSide → ℕ → Sent → FarSide
far_took_buffer far number batch =
    if number == 0
    then record far { first = far_slot_took far.first batch }
    else record far { second = far_slot_took far.second batch }

-- the daemon's half after it took the table, which had this turn, with this batch
abbrev pub far_took_table : FarSide → Sent → ℕ → FarSide
far_took_table far batch turn = record far { third = far_slot_took far.third batch; turn = turn }

-- one give-back more of a buffer
abbrev pub given_buffer : Option Given → ℕ → Option Given
given_buffer None number = None
given_buffer (Some given) number =
    Some (
    if number == 0
    then record given { first = given.first + 1 }
    else record given { second = given.second + 1 })

-- one give-back more of the table
abbrev pub given_table : Option Given → Option Given
given_table None = None
given_table (Some given) = Some (record given { third = given.third + 1 })

-- the daemon's half after it gave a buffer back
abbrev pub far_gave_buffer : FarSide → ℕ → FarSide
far_gave_buffer far number =
    if number == 0
    then record far { first = far_slot_gave far.first; given = given_buffer far.given number }
    else record far { second = far_slot_gave far.second; given = given_buffer far.given number }

-- the daemon's half after it gave the table back
abbrev pub far_gave_table : FarSide → FarSide
far_gave_table far = record far { third = far_slot_gave far.third; given = given_table far.given }

-- the daemon's half after it rang the bell with this value, when the tries of buffer 0 were so many
abbrev pub far_rang : FarSide → ℕ → ℕ → FarSide
far_rang far value tries = record far { rungs = far.rungs ++ value ∷ []; rung_at = tries }

-- the cell after a poll that read this word
abbrev pub slot_polled : Slot → ℕ → Slot
slot_polled slot word = record slot { tries = slot.tries + 1; read = word }

-- the side after the daemon polled this buffer and read this word
abbrev pub side_poll_buffer : Side → ℕ → ℕ → Side
side_poll_buffer side number word =
    if number == 0
    then record side { steps = side.steps + 1; first = slot_polled side.first word }
    else record side { steps = side.steps + 1; second = slot_polled side.second word }

-- the side after the daemon polled the table and read this word
abbrev pub side_poll_table : Side → ℕ → Side
side_poll_table side word =
    record side { steps = side.steps + 1; third = slot_polled side.third word }

-- the side after the daemon gave a value back or rang
abbrev pub side_called : Side → Side
side_called side = record side { steps = side.steps + 1 }

-- a cell of a new side
abbrev pub new_far_slot : FarSlot
new_far_slot = record { taken = []; holds = false }

-- the daemon's half of a new side
abbrev pub new_far : Option Given → FarSide
new_far given = record {
  first = new_far_slot;
  second = new_far_slot;
  third = new_far_slot;
  turn = 0;
  given = given;
  rungs = [];
  rung_at = 0;
}

-- nothing was given back yet
abbrev pub none_given : Given
none_given = record { first = 0; second = 0; third = 0 }

-- The handover of one cell: what was handed, what was taken, how often the value was given back,
-- and the word. At an even word the value is the driver's, all that was handed was taken and given
-- back. At an odd one it is the daemon's, which has taken all or all but the last.
pub record IsHandover {A : Type 0} (handed taken : List A) (given word : ℕ)
    (driver_holds daemon_holds : Bool) : Type 0 where
  pub counted : word ≡ length handed + given
  pub home : word % 2 ≡ 0 → (given ≡ length handed) × (taken ≡ handed)
  pub out : word % 2 ≡ 1 →
      (given + 1 ≡ length handed)
      × ((taken ≡ handed) ⊎ ((waiting : A) × (handed ≡ taken ++ waiting ∷ [])))
  pub driver : driver_holds ≡ true → word % 2 ≡ 0
  pub daemon : daemon_holds ≡ true → (word % 2 ≡ 1) × (taken ≡ handed)

-- no value is below the one before it, and none is below this one
abbrev pub NeverFallsFrom : ℕ → List ℕ → Type 0
NeverFallsFrom least [] = Unit {0}
NeverFallsFrom least (x ∷ xs) = (least ≤ x) × NeverFallsFrom x xs

-- 0, or one of the values rung
abbrev pub WasRung : ℕ → List ℕ → Type 0
WasRung value rungs = (value ≡ 0) ⊎ SomeOf (λ x. x ≡ value) rungs

-- The bell: its word is the value rung last, which never falls and is at most 2^32. What was heard
-- is at most the word, and is 0 or one of the values rung.
pub record IsBell (rungs : List ℕ) (word heard : ℕ) : Type 0 where
  pub last : word ≡ rung_of rungs
  pub rising : NeverFallsFrom 0 rungs
  pub bound : word ≤ 2 ^ 32
  pub behind : heard ≤ word
  pub known : WasRung heard rungs
