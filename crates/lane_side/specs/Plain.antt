-- A plain side: what its fields say to the two traits, and what it keeps between its calls.
use Rattle.std.specs.Prelude.{◌≡◌, ℕ, ◌+◌, ◌^◌, ◌≤◌, ◌==◌, List, [], ◌∷◌, ◌++◌, length, filter, Some}
use Rattle.sample_key.specs.Sent.{Sent}
use Rattle.sample_key.specs.declared.keys.Marked.{Marked}
use Rattle.sample_key.specs.declared.batches.Parcel.{Parcel}
use Rattle.sample_key.specs.declared.limits.TheConstants.{LAST_CELL}
use Rattle.driver_model.specs.Table.{Table, entries_in, empty_table}
use Rattle.driver_model.specs.Sides.{Slot, Side}
use Rattle.driver_model.specs.Handover.{FarSlot, Given, FarSide, NeverFallsFrom, rung_of, WasRung}
use Rattle.overflow_pair.specs.Contents.{Contents, empty_buffer}
use Rattle.lane_side.specs.Fixed.{Fixed, plain_fixed}
use Rattle.lane_side.specs.Calls.{KeepsNote, buffer_sent, table_sent}
use Rattle.lane_side.specs.HandedSoFar.{HandedSoFar}
use Rattle.lane_side.specs.Cells.{is_drivers, is_daemons}
use Rattle.lane_side.specs.Tallies.{Tallies}
use Rattle.lane_side.specs.declared.cells.Holder.{Holder}
use Rattle.lane_side.specs.declared.cells.Holder.TheVariants.{AtHome, WithDriver, Posted, WithDaemon}
use Rattle.lane_side.specs.declared.cells.Cell.{Cell}

-- a plain side as contracts see it: what the two traits speak of
pub record Plain : Type 0 where
  pub seen : Side
  pub far : FarSide
  pub fixed : Fixed

-- what a plain side is made of
pub record PlainParts : Type 0 where
  pub cpu : ℕ
  pub samples : List Marked
  pub buckets : ℕ
  pub buffer : ℕ
  pub first : Cell Contents
  pub second : Cell Contents
  pub third : Cell Table
  pub bell : ℕ
  pub history : HandedSoFar
  pub tallies : Tallies

-- the batches of one cell
abbrev pub handed_in : ℕ → List Sent → List Sent
handed_in cell sent = filter (λ batch. batch.note.cell == cell) sent

-- a list without its last element
abbrev pub without_last : List Sent → List Sent
without_last [] = []
without_last (batch ∷ []) = []
without_last (batch ∷ next ∷ batches) = batch ∷ without_last (next ∷ batches)

-- the batches that were taken of those that were handed: the last one may still wait
abbrev pub taken_in : {B : Type 0} → List Sent → Holder B → List Sent
taken_in handed (AtHome value) = handed
taken_in handed WithDriver = handed
taken_in handed (Posted parcel) = without_last handed
taken_in handed WithDaemon = handed

-- a cell as the driver sees it, of which these batches were handed
abbrev pub slot_in : {B : Type 0} → List Sent → Holder B → ℕ → ℕ → Slot
slot_in handed state tries read =
    record { handed = handed; holds = is_drivers state; tries = tries; read = read }

-- and as the daemon sees it
abbrev pub far_slot_in : {B : Type 0} → List Sent → Holder B → FarSlot
far_slot_in handed state =
    record { taken = taken_in handed state; holds = is_daemons state }

-- the batches of a cell of a plain side
abbrev pub handed_of : PlainParts → ℕ → List Sent
handed_of parts cell = handed_in cell parts.history.sent

-- the driver's half
abbrev pub seen_of : PlainParts → Side
seen_of parts = record {
  first =
      slot_in (handed_of parts 0) parts.first.holder parts.tallies.tries0 parts.tallies.read0;
  second =
      slot_in (handed_of parts 1) parts.second.holder parts.tallies.tries1 parts.tallies.read1;
  third =
      slot_in (handed_of parts 2) parts.third.holder parts.tallies.tries2 parts.tallies.read2;
  steps = parts.tallies.steps;
  hears = parts.tallies.hears;
  heard = parts.tallies.heard;
  room = Some parts.history.room;
  buckets = parts.buckets;
  buffer = parts.buffer;
  turn = parts.tallies.turn;
}

-- how often the values were given back
abbrev pub given_in : PlainParts → Given
given_in parts =
    record { first = parts.first.given; second = parts.second.given; third = parts.third.given }

-- the daemon's half
abbrev pub far_of : PlainParts → FarSide
far_of parts = record {
  first = far_slot_in (handed_of parts 0) parts.first.holder;
  second = far_slot_in (handed_of parts 1) parts.second.holder;
  third = far_slot_in (handed_of parts 2) parts.third.holder;
  turn = parts.tallies.far_turn;
  given = Some (given_in parts);
  rungs = parts.tallies.rungs;
  rung_at = parts.tallies.rung_at;
}

-- what no call changes of a plain side
abbrev pub fixed_of : PlainParts → Fixed
fixed_of parts = plain_fixed parts.cpu parts.samples

-- all that the traits speak of
abbrev pub plain_of : PlainParts → Plain
plain_of parts = record { seen = seen_of parts; far = far_of parts; fixed = fixed_of parts }

-- The facts of a cell, by where its value is: `home` holds of a value at home, `posted` of a parcel
-- that waits, and `gone` while the daemon holds the value.
abbrev pub StateIs : {B : Type 0} → List Sent → (Parcel B → Sent) → (B → Type 0)
    → (Parcel B → Type 0) → Type 0 → ℕ → ℕ → Holder B → Type 0
StateIs handed sent home posted gone hands given (AtHome value) = (given ≡ hands) × home value
StateIs handed sent home posted gone hands given WithDriver = given ≡ hands
StateIs handed sent home posted gone hands given (Posted parcel) =
    (given + 1 ≡ hands) × posted parcel
    × ((front : List Sent) × (handed ≡ front ++ sent parcel ∷ []))
StateIs handed sent home posted gone hands given WithDaemon = (given + 1 ≡ hands) × gone

-- a cell whose batches are these: it was handed as often, and its value is where the words say
pub record IsCell {B : Type 0} (handed : List Sent) (sent : Parcel B → Sent) (home : B → Type 0)
    (posted : Parcel B → Type 0) (gone : Type 0) (cell : Cell B) : Type 0 where
  pub hands : cell.hands ≡ length handed
  pub bound : cell.hands ≤ 2 ^ 62
  pub state : StateIs handed sent home posted gone cell.hands cell.given cell.holder

-- a buffer at home is empty and of its made size
abbrev pub BufferHome : ℕ → Contents → Type 0
BufferHome size buffer = buffer ≡ empty_buffer size

-- a buffer that was handed keeps what a poll promises
abbrev pub BufferPosted : ℕ → Fixed → ℕ → List ℕ → Parcel Contents → Type 0
BufferPosted number fixed size rungs parcel =
    KeepsNote number (length parcel.body.entries) fixed rungs parcel.note
    × (parcel.note.answers ≡ 0) × (parcel.body.size ≡ size)

-- the table at home is empty, of its made size and with the turn of its last hand
abbrev pub TableHome : ℕ → ℕ → Table → Type 0
TableHome buckets turn table = table ≡ empty_table buckets turn

-- the table that was handed keeps what a poll promises
abbrev pub TablePosted : Fixed → ℕ → List ℕ → ℕ → Parcel Table → Type 0
TablePosted fixed buckets rungs turn parcel =
    KeepsNote LAST_CELL (length (entries_in parcel.body)) fixed rungs parcel.note
    × WasRung parcel.note.answers rungs
    × (length parcel.body.rows ≡ buckets) × (parcel.body.turn ≡ turn)

-- a cell of a buffer of a plain side
abbrev pub IsBufferCell : ℕ → PlainParts → Cell Contents → Type 0
IsBufferCell number parts cell =
    IsCell (handed_in number parts.history.sent) buffer_sent (BufferHome parts.buffer)
    (BufferPosted number (plain_fixed parts.cpu parts.samples) parts.buffer parts.tallies.rungs)
    (Unit {0}) cell

-- the cell of the table of a plain side
abbrev pub IsTableCell : PlainParts → Cell Table → Type 0
IsTableCell parts cell =
    IsCell (handed_in 2 parts.history.sent) table_sent (TableHome parts.buckets parts.tallies.turn)
    (TablePosted (plain_fixed parts.cpu parts.samples)
    parts.buckets parts.tallies.rungs parts.tallies.turn)
    (parts.tallies.far_turn ≡ parts.tallies.turn) cell

-- a plain side keeps this between its calls
pub record IsPlain (parts : PlainParts) : Type 0 where
  pub first : IsBufferCell 0 parts parts.first
  pub second : IsBufferCell 1 parts parts.second
  pub third : IsTableCell parts parts.third
  pub bell : parts.bell ≡ rung_of parts.tallies.rungs
  pub rising : NeverFallsFrom 0 parts.tallies.rungs
  pub bound : parts.bell ≤ 2 ^ 32
  pub heard : parts.tallies.heard ≤ parts.bell
  pub known : WasRung parts.tallies.heard parts.tallies.rungs
