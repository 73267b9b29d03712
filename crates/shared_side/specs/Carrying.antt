-- What lies in the slots of the three cells, and what is true of it: of every parcel on its way to
-- the daemon (IsKeptBuffer, IsKeptTable), and of every value at home (IsHomeBuffer, IsHomeTable).
use Rattle.std.specs.Prelude.{◌≡◌, ℕ, ◌/◌, ◌≤◌, List, Option, Some, None, length, IsSomeAnd}
use Rattle.sample_key.specs.Counted.{Counted}
use Rattle.sample_key.specs.Headers.{Header}
use Rattle.sample_key.specs.Marks.{due}
use Rattle.sample_key.specs.Sent.{Sent}
use Rattle.driver_model.specs.Table.{Table, entries_in, empty_table}
use Rattle.overflow_pair.specs.Contents.{Contents, empty_buffer}
use Rattle.turn_cell.specs.Ends.{NoteSeen}
use Rattle.turn_cell.specs.declared.passing.Parcel.{Parcel}
use Rattle.shared_side.specs.declared.carried.Carried.{Carried}
use Rattle.shared_side.specs.declared.carried.CellKey.{CellKey}

-- What the driver knew when it handed a batch with so many entries: its note has the cell's
-- processor and number, there are at most `upto` entries, and so many samples were due at the value
-- heard last of this bell.
pub record IsHeardNote (key : CellKey) (count : ℕ) (note : Header) (heard : NoteSeen) : Type 0 where
  pub bell : heard.bell ≡ key.bell
  pub cpu : note.cpu ≡ key.cpu
  pub cell : note.cell ≡ key.cell
  pub entries : count ≤ note.upto
  pub upto : note.upto ≤ due key.samples.value.items (heard.value / 2)

-- both options are filled, with a note and what was heard of which this holds
abbrev pub IsFilledWith : {V : Type 0}
    → Carried V → (Header → NoteSeen → Type 0) → Type 0
IsFilledWith carried fact =
    IsSomeAnd carried.note (λ note. IsSomeAnd carried.heard (λ heard. fact note heard))

-- every buffer on its way: it answers nothing, and is of its made size
abbrev pub IsKeptBuffer : CellKey → Parcel (Carried Contents) → Type 0
IsKeptBuffer key parcel = IsFilledWith parcel.value (λ note heard.
    IsHeardNote key (length parcel.value.body.entries) note heard
    × (note.answers ≡ 0) × (parcel.value.body.size ≡ key.made))

-- every table on its way: it answers the value heard, and is of its made size
abbrev pub IsKeptTable : CellKey → Parcel (Carried Table) → Type 0
IsKeptTable key parcel = IsFilledWith parcel.value (λ note heard.
    IsHeardNote key (length (entries_in parcel.value.body)) note heard
    × (note.answers ≡ heard.value) × (length parcel.value.body.rows ≡ key.made))

-- the turn of the table that was handed last, 0 before the first
abbrev pub turn_of_last : Option (Parcel (Carried Table)) → ℕ
turn_of_last None = 0
turn_of_last (Some parcel) = parcel.value.body.turn

-- a value at home carries no note
abbrev pub IsBare : {V : Type 0} → Carried V → Type 0
IsBare carried = (carried.note ≡ None) × (carried.heard ≡ None)

-- a buffer at home is empty and of its made size
abbrev pub IsHomeBuffer : CellKey → Option (Parcel (Carried Contents)) → Carried Contents → Type 0
IsHomeBuffer key last carried = IsBare carried × (carried.body ≡ empty_buffer key.made)

-- a table at home is empty, of its made size, and has the turn of its last hand
abbrev pub IsHomeTable : CellKey → Option (Parcel (Carried Table)) → Carried Table → Type 0
IsHomeTable key last carried =
    IsBare carried × (carried.body ≡ empty_table key.made (turn_of_last last))

-- the note of a value at home, which means nothing
abbrev pub no_header : Header
no_header = record {
  cpu = 0;
  cell = 0;
  number = 0;
  upto = 0;
  answers = 0;
  sent0 = 0;
  sent1 = 0;
}

-- the note of a value, where there is one
abbrev pub header_in : Option Header → Header
header_in None = no_header
header_in (Some note) = note

-- a parcel of a cell as the batch that it is
abbrev pub batch_in : {V : Type 0} → (V → List Counted) → Parcel (Carried V) → Sent
batch_in entries parcel =
    record { note = header_in parcel.value.note; entries = entries parcel.value.body }
