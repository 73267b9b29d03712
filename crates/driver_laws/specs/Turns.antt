-- The laws of a turn: it keeps the invariant, makes few calls, and lowers the room of its side by
-- just what it hands.
use Rattle.std.specs.Prelude.{◌≡◌, ℕ, ◌+◌, ◌*◌, ◌%◌, ◌≤◌, false, length, Option, Some, None, MatchOption, IsSomeAnd}
use Rattle.driver_model.specs.Sides.{Slot, Room, Side, HasRoomFor, room_for, is_even, new_side}
use Rattle.driver_model.specs.Handover.{side_poll_buffer, side_poll_table, side_called}
use Rattle.driver_model.specs.Driver.{Setup, Driver, World, Two, Words, Turned, turn_of, new_driver}
use Rattle.driver_model.specs.Invariant.{IsSetup, DriverInvariant, entries_of, table_entries, active_entries}

-- a word that says that a value is out stands for the last batch of the cell that was handed
abbrev pub IsFairWord : Slot → ℕ → Type 0
IsFairWord slot word = is_even word ≡ false → word + 1 ≡ 2 * length slot.handed

-- the words of both buffers are fair
abbrev pub AreFairWords : Side → Two → Type 0
AreFairWords side words = IsFairWord side.first words.first × IsFairWord side.second words.second

-- the invariant holds of a driver and its side as a turn left them
abbrev pub KeepsAfter : Setup → Turned → Type 0
KeepsAfter setup turned = DriverInvariant setup turned.driver turned.side

-- the invariant holds of a new driver with a new side of any size
abbrev pub StartKeeps : Type 0
StartKeeps = (setup : Setup) (room : Option Room) (buckets buffer : ℕ)
    → setup.last % 2 ≡ 1 → 1 ≤ buckets → 1 ≤ buffer
    → DriverInvariant setup new_driver (new_side room buckets buffer)

-- a turn keeps the invariant, where the bell value is not below the one heard last and the words
-- are fair
abbrev pub TurnKeeps : Type 0
TurnKeeps = (setup : Setup) (words : Words) (driver : Driver) (side : Side)
    → IsSetup setup → setup.size ≡ side.buffer
    → AreFairWords side words.two → side.heard ≤ words.bell
    → DriverInvariant setup driver side
    → KeepsAfter setup (turn_of setup words (record { driver = driver; side = side }))

-- a turn makes at most five calls
abbrev pub FewCalls : Type 0
FewCalls = (setup : Setup) (words : Words) (world : World)
    → (turn_of setup words world).side.steps ≤ world.side.steps + 5

-- how many batches the cells were handed
abbrev pub hands_in : Side → ℕ
hands_in side = length side.first.handed + length side.second.handed + length side.third.handed

-- how many entries those batches have
abbrev pub entries_handed : Side → ℕ
entries_handed side =
    entries_of side.first.handed + entries_of side.second.handed + entries_of side.third.handed

-- what may be handed and what was handed are together as before
abbrev pub SameTotal : Room → Side → Room → Side → Type 0
SameTotal room side left after =
    (left.hands + hands_in after ≡ room.hands + hands_in side)
    × (left.entries + entries_handed after ≡ room.entries + entries_handed side)

-- the room of a side that tells it was lowered by just the hands made and the entries in them
abbrev pub RoomLowered : Side → Side → Type 0
RoomLowered side after =
    MatchOption side.room (after.room ≡ None)
    (λ room. IsSomeAnd after.room (λ left. SameTotal room side left after))

-- there is room for whatever a turn may hand: the active buffer and the table, with one entry more
-- than they hold
abbrev pub HasRoomForTurn : Driver → Option Room → Type 0
HasRoomForTurn driver room =
    HasRoomFor 2
    (length (table_entries driver.table) + length (active_entries driver.pair.active) + 1) room

-- a turn lowers the room of its side by just what it handed, where there is enough for it
abbrev pub RoomFalls : Type 0
RoomFalls = (setup : Setup) (words : Words) (driver : Driver) (side : Side)
    → HasRoomForTurn driver side.room
    → RoomLowered side (turn_of setup words (record { driver = driver; side = side })).side

-- Room for a hand for each sample, two for each request and two more, and for an entry for each
-- sample and one more, is enough for every turn, where no answer is above twice the requests.
abbrev pub RoomIsEnough : Type 0
RoomIsEnough = (setup : Setup) (driver : Driver) (side : Side) (room : Room) (requests : ℕ)
    → DriverInvariant setup driver side
    → room.hands + hands_in side ≡ (room_for (length setup.samples) requests).hands
    → room.entries + entries_handed side ≡ (room_for (length setup.samples) requests).entries
    → driver.answered ≤ 2 * requests
    → HasRoomForTurn driver (Some room)

-- the bell was heard once, with this value, and the made sizes stay
pub record HearsOnce (before after : Side) (bell : ℕ) : Type 0 where
  pub hears : after.hears ≡ before.hears + 1
  pub heard : after.heard ≡ bell
  pub buckets : after.buckets ≡ before.buckets
  pub buffer : after.buffer ≡ before.buffer

-- a turn hears the bell once and leaves the made sizes, where the close was not answered before
abbrev pub BellIsHeard : Type 0
BellIsHeard = (setup : Setup) (words : Words) (driver : Driver) (side : Side)
    → driver.done ≡ false
    → HearsOnce side (turn_of setup words (record { driver = driver; side = side })).side words.bell

-- the daemon's calls keep the invariant
pub record PollsKeep : Type 0 where
  pub buffer : (setup : Setup) (driver : Driver) (side : Side) (number word : ℕ)
      → DriverInvariant setup driver side
      → DriverInvariant setup driver (side_poll_buffer side number word)
  pub table : (setup : Setup) (driver : Driver) (side : Side) (word : ℕ)
      → DriverInvariant setup driver side
      → DriverInvariant setup driver (side_poll_table side word)
  pub called : (setup : Setup) (driver : Driver) (side : Side)
      → DriverInvariant setup driver side
      → DriverInvariant setup driver (side_called side)
