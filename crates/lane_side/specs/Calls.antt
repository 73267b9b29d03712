-- What each call of the two traits does with a side, and what it asks for.
use Rattle.std.specs.Prelude.{◌≡◌, ℕ, ◌+◌, ◌*◌, ◌/◌, ◌%◌, ◌^◌, ◌<◌, ◌≤◌, Bool, true, List, [], ◌∷◌, ◌++◌, length, IfSome}
use Rattle.sample_key.specs.Headers.{Header}
use Rattle.sample_key.specs.Sent.{Sent}
use Rattle.sample_key.specs.Marks.{due}
use Rattle.sample_key.specs.declared.batches.Parcel.{Parcel}
use Rattle.sample_key.specs.declared.limits.TheConstants.{LAST_CELL}
use Rattle.driver_model.specs.Table.{Table, entries_in, empty_table}
use Rattle.driver_model.specs.Sides.{Slot, Side, HasRoomFor, slot_of, side_look_buffer, side_look_table}
use Rattle.driver_model.specs.Handover.{FarSide, given_of, far_took_buffer, far_took_table, rung_of, side_poll_buffer, side_poll_table, WasRung}
use Rattle.driver_model.specs.Runs.{word_of}
use Rattle.overflow_pair.specs.Contents.{Contents, empty_buffer}
use Rattle.lane_side.specs.Fixed.{Fixed}
use Rattle.turn_cell.specs.Parcels.{MatchLook, MatchPoll}
use Rattle.turn_cell.specs.declared.passing.Look.{Look}
use Rattle.turn_cell.specs.declared.passing.PollOf.{PollOf}

-- a buffer's word was read, where the side tells the words
abbrev pub ReadsBuffer : Side → FarSide → ℕ → ℕ → Type 0
ReadsBuffer side far number word =
    IfSome far.given (λ given. word ≡ word_of (slot_of side number) (given_of given number))

-- the table's word was read, where the side tells the words
abbrev pub ReadsTable : Side → FarSide → ℕ → Type 0
ReadsTable side far word = IfSome far.given (λ given. word ≡ word_of side.third given.third)

-- An odd word is what a look answers: it is the one that this look read, and stands for the last
-- batch handed.
abbrev pub IsOutAt : Slot → ℕ → ℕ → Type 0
IsOutAt slot read word =
    (word ≡ read) × (read % 2 ≡ 1) × (read + 1 ≡ 2 * length slot.handed)

-- What a look at a buffer does and answers: it reads one word. An even one brings the buffer, empty
-- and of its made size.
pub record LooksAtBuffer (number : ℕ) (before : Side) (daemon : FarSide)
    (look : Look Contents) (after : Side) : Type 0 where
  pub side : after ≡ side_look_buffer before number (slot_of after number).read
  pub told : ReadsBuffer before daemon number (slot_of after number).read
  pub cause : MatchLook look
      (λ buffer. ((slot_of after number).read % 2 ≡ 0) × (buffer ≡ empty_buffer before.buffer))
      (IsOutAt (slot_of before number) (slot_of after number).read)

-- What a look for the table does and answers: an even word brings it, empty and with the turn of
-- its last hand.
pub record LooksAtTable (before : Side) (daemon : FarSide)
    (look : Look Table) (after : Side) : Type 0 where
  pub side : after ≡ side_look_table before after.third.read
  pub told : ReadsTable before daemon after.third.read
  pub cause : MatchLook look
      (λ table. (after.third.read % 2 ≡ 0) × (table ≡ empty_table before.buckets before.turn))
      (IsOutAt before.third after.third.read)

-- what is asked of a hand of any cell: the value is held, the cell was handed fewer than 2^62
-- times, the note has this processor and this cell, there are at most `upto` entries and no more
-- than are due, and there is room
pub record MayHand (number count : ℕ) (fixed : Fixed) (side : Side) (slot : Slot)
    (note : Header) : Type 0 where
  pub holds : slot.holds ≡ true
  pub times : length slot.handed < 2 ^ 62
  pub cpu : note.cpu ≡ fixed.cpu
  pub cell : note.cell ≡ number
  pub entries : count ≤ note.upto
  pub upto : note.upto ≤ due fixed.samples (side.heard / 2)
  pub room : HasRoomFor 1 count side.room

-- what is asked of a hand of a buffer: it answers nothing, and the buffer is of its made size
pub record MayHandBuffer (number : ℕ) (fixed : Fixed) (side : Side)
    (note : Header) (buffer : Contents) : Type 0 where
  pub hand : MayHand number (length buffer.entries) fixed side (slot_of side number) note
  pub answers : note.answers ≡ 0
  pub size : buffer.size ≡ side.buffer

-- what is asked of a hand of the table: it answers the value heard, and the table is of its made
-- size
pub record MayHandTable (fixed : Fixed) (side : Side)
    (note : Header) (table : Table) : Type 0 where
  pub hand : MayHand LAST_CELL (length (entries_in table)) fixed side side.third note
  pub answers : note.answers ≡ side.heard
  pub size : length table.rows ≡ side.buckets

-- where the cells must be polled evenly, no other cell has fewer tries than this one
abbrev pub PollsEvenly : Bool → ℕ → Side → Type 0
PollsEvenly even tries side = even ≡ true →
    (tries ≤ side.first.tries) × (tries ≤ side.second.tries) × (tries ≤ side.third.tries)

-- where the cells must be polled evenly, a ring finds equal tries, above those at the ring before
abbrev pub RingsEvenly : Bool → Side → FarSide → Type 0
RingsEvenly even side far = even ≡ true →
    (side.first.tries ≡ side.second.tries) × (side.second.tries ≡ side.third.tries)
    × (far.rung_at < side.first.tries)

-- what every parcel keeps: its note has this processor and this cell, and there are at most `upto`
-- entries, of samples that were due at the value rung last
pub record KeepsNote (number count : ℕ) (fixed : Fixed) (rungs : List ℕ)
    (note : Header) : Type 0 where
  pub cpu : note.cpu ≡ fixed.cpu
  pub cell : note.cell ≡ number
  pub entries : count ≤ note.upto
  pub upto : note.upto ≤ due fixed.samples (rung_of rungs / 2)

-- the batch is the one handed last, where the side tells the words and with them what was handed
abbrev pub IsLastHanded : Slot → FarSide → Sent → Type 0
IsLastHanded slot far batch =
    IfSome far.given (λ given. (front : List Sent) × (slot.handed ≡ front ++ batch ∷ []))

-- the turn of a table is that of the table handed last, where the side tells what was handed
abbrev pub HasHandedTurn : Side → FarSide → ℕ → Type 0
HasHandedTurn side far turn = IfSome far.given (λ given. turn ≡ side.turn)

-- a parcel with a buffer, as the batch that it is
abbrev pub buffer_sent : Parcel Contents → Sent
buffer_sent parcel = record { note = parcel.note; entries = parcel.body.entries }

-- a parcel with the table, as the batch that it is
abbrev pub table_sent : Parcel Table → Sent
table_sent parcel = record { note = parcel.note; entries = entries_in parcel.body }

-- what a poll of a buffer promises of a parcel
pub record TakesBuffer (number : ℕ) (fixed : Fixed) (side : Side) (before : FarSide)
    (word : ℕ) (after : FarSide) (parcel : Parcel Contents) : Type 0 where
  pub odd : word % 2 ≡ 1
  pub far : after ≡ far_took_buffer before number (buffer_sent parcel)
  pub note : KeepsNote number (length parcel.body.entries) fixed before.rungs parcel.note
  pub answers : parcel.note.answers ≡ 0
  pub size : parcel.body.size ≡ side.buffer
  pub last : IsLastHanded (slot_of side number) before (buffer_sent parcel)

-- what a poll of the table promises of a parcel
pub record TakesTable (fixed : Fixed) (side : Side) (before : FarSide)
    (word : ℕ) (after : FarSide) (parcel : Parcel Table) : Type 0 where
  pub odd : word % 2 ≡ 1
  pub far : after ≡ far_took_table before (table_sent parcel) parcel.body.turn
  pub note : KeepsNote LAST_CELL (length (entries_in parcel.body)) fixed before.rungs parcel.note
  pub answers : WasRung parcel.note.answers before.rungs
  pub size : length parcel.body.rows ≡ side.buckets
  pub last : IsLastHanded side.third before (table_sent parcel)
  pub turn : HasHandedTurn side before parcel.body.turn

-- no parcel was there: the word that is answered is the one that this poll read, and is even
pub record IsHome (before : FarSide) (read : ℕ) (after : FarSide) (answered : ℕ) : Type 0 where
  pub word : answered ≡ read
  pub even : read % 2 ≡ 0
  pub far : after ≡ before

-- What a poll of a buffer does and answers: it reads one word. An odd one brings the parcel.
pub record PollsBuffer (number : ℕ) (fixed : Fixed) (before : Side) (daemon : FarSide)
    (poll : PollOf (Parcel Contents)) (after : Side) (left : FarSide) : Type 0 where
  pub side : after ≡ side_poll_buffer before number (slot_of after number).read
  pub told : ReadsBuffer before daemon number (slot_of after number).read
  pub cause : MatchPoll poll
      (TakesBuffer number fixed before daemon (slot_of after number).read left)
      (IsHome daemon (slot_of after number).read left)

-- What a poll of the table does and answers.
pub record PollsTable (fixed : Fixed) (before : Side) (daemon : FarSide)
    (poll : PollOf (Parcel Table)) (after : Side) (left : FarSide) : Type 0 where
  pub side : after ≡ side_poll_table before after.third.read
  pub told : ReadsTable before daemon after.third.read
  pub cause : MatchPoll poll
      (TakesTable fixed before daemon after.third.read left)
      (IsHome daemon after.third.read left)
