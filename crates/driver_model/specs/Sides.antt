-- A side is what lies between a driver and the daemon: the three cells (buffers 0 and 1, and the
-- table) and the bell. Here is what the driver's calls change of it, and what they make of it.
use Rattle.std.specs.Prelude.{ℕ, ◌+◌, ◌-◌, ◌*◌, ◌%◌, ◌≤◌, ◌==◌, Bool, false, if◌then◌else◌, List, [], ◌∷◌, ◌++◌, length, Option, Some, None, IfSome}
use Rattle.sample_key.specs.Sent.{Sent}

-- one cell as the driver sees it
pub record Slot : Type 0 where
  -- the batches handed, in order
  pub handed : List Sent
  -- whether the driver holds the value
  pub holds : Bool
  -- how often the cell was looked at or polled
  pub tries : ℕ
  -- the word that was read last
  pub read : ℕ

-- the hands and the entries that may still be handed
pub record Room : Type 0 where
  pub hands : ℕ
  pub entries : ℕ

-- the cells and the bell as the driver sees them
pub record Side : Type 0 where
  -- buffer 0, buffer 1 and the table
  pub first : Slot
  pub second : Slot
  pub third : Slot
  -- the calls made
  pub steps : ℕ
  -- the bells heard, and the value heard last
  pub hears : ℕ
  pub heard : ℕ
  -- what may still be handed, where the side tells it
  pub room : Option Room
  -- the buckets of the table and the size of the buffers, as they were made
  pub buckets : ℕ
  pub buffer : ℕ
  -- the turn of the table handed last, 0 before the first
  pub turn : ℕ

-- an even word says that the value is the driver's
abbrev pub is_even : ℕ → Bool
is_even word = word % 2 == 0

-- a buffer's cell, by its number
abbrev pub slot_of : Side → ℕ → Slot
slot_of side number = if number == 0 then side.first else side.second

-- the cell after a look that read this word: an even one brings the value
abbrev pub slot_looked : Slot → ℕ → Slot
slot_looked slot word =
    record slot { holds = is_even word; tries = slot.tries + 1; read = word }

-- the cell after a hand
abbrev pub slot_handed : Slot → Sent → Slot
slot_handed slot batch = record slot { handed = slot.handed ++ batch ∷ []; holds = false }

-- the room after this batch was handed
abbrev pub room_less : Room → Sent → Room
room_less room batch =
    record { hands = room.hands - 1; entries = room.entries - length batch.entries }

-- what may still be handed after this batch, where the side tells it
abbrev pub room_after : Option Room → Sent → Option Room
room_after None batch = None
room_after (Some room) batch = Some (room_less room batch)

-- the room of a side that is made for so many samples and so many requests
abbrev pub room_for : ℕ → ℕ → Room
room_for samples requests =
    record { hands = samples + 2 * requests + 2; entries = samples + 1 }

-- there is room for so many hands more, with so many entries together, where the side tells its
-- room
abbrev pub HasRoomFor : ℕ → ℕ → Option Room → Type 0
HasRoomFor hands entries room =
    IfSome room (λ left. (hands ≤ left.hands) × (entries ≤ left.entries))

-- the side after the driver heard this bell value
abbrev pub side_hear : Side → ℕ → Side
side_hear side bell = record side { steps = side.steps + 1; hears = side.hears + 1; heard = bell }

-- the side after the driver looked for the table and read this word
abbrev pub side_look_table : Side → ℕ → Side
side_look_table side word =
    record side { steps = side.steps + 1; third = slot_looked side.third word }

-- the side after the driver looked for this buffer and read this word
abbrev pub side_look_buffer : Side → ℕ → ℕ → Side
side_look_buffer side number word =
    if number == 0
    then record side { steps = side.steps + 1; first = slot_looked side.first word }
    else record side { steps = side.steps + 1; second = slot_looked side.second word }

-- the side after the driver handed the table, which had this turn, with this batch
abbrev pub side_hand_table : Side → Sent → ℕ → Side
side_hand_table side batch turn =
    record side {
      steps = side.steps + 1;
      third = slot_handed side.third batch;
      room = room_after side.room batch;
      turn = turn;
    }

-- the side after the driver handed this buffer with this batch
abbrev pub side_hand_buffer : Side → ℕ → Sent → Side
side_hand_buffer side number batch =
    if number == 0
    then record side {
      steps = side.steps + 1;
      first = slot_handed side.first batch;
      room = room_after side.room batch;
    }
    else record side {
      steps = side.steps + 1;
      second = slot_handed side.second batch;
      room = room_after side.room batch;
    }

-- a cell of a new side
abbrev pub new_slot : Slot
new_slot = record { handed = []; holds = false; tries = 0; read = 0 }

-- a new side, with a table of so many buckets and buffers of this size
abbrev pub new_side : Option Room → ℕ → ℕ → Side
new_side room buckets buffer = record {
  first = new_slot;
  second = new_slot;
  third = new_slot;
  steps = 0;
  hears = 0;
  heard = 0;
  room = room;
  buckets = buckets;
  buffer = buffer;
  turn = 0;
}
