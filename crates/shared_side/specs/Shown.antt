-- The two sides as contracts see them, read off what their ends know.
use Rattle.std.specs.Prelude.{◌≡◌, ℕ, ◌+◌, ◌^◌, ◌≤◌, true, false, List, [], Some, None, length, map, slice_index}
use Rattle.atomic_table.specs.Seated.{TableId}
use Rattle.sample_key.specs.Counted.{Counted}
use Rattle.sample_key.specs.declared.limits.TheConstants.{LAST_CELL}
use Rattle.driver_model.specs.Table.{Table, entries_in}
use Rattle.driver_model.specs.Sides.{Slot, Side}
use Rattle.driver_model.specs.Handover.{FarSlot, FarSide, NeverFallsFrom, new_far, rung_of}
use Rattle.overflow_pair.specs.Contents.{Contents}
use Rattle.lane_side.specs.Fixed.{Fixed}
use Rattle.turn_cell.specs.Ends.{LaneSeen, DaemonSeen, HearSeen, RingSeen}
use Rattle.turn_cell.specs.Parcels.{last_of}
use Rattle.shared_side.specs.Carrying.{batch_in, turn_of_last}
use Rattle.shared_side.specs.declared.carried.Carried.{Carried}
use Rattle.shared_side.specs.declared.carried.CellKey.{CellKey}

-- what the two traits speak of
pub record Shown : Type 0 where
  pub seen : Side
  pub far : FarSide
  pub fixed : Fixed

-- the ends of the three cells, and of the bell
abbrev pub BufferLane : Type 0
BufferLane = LaneSeen CellKey (Carried Contents)

abbrev pub TableLane : Type 0
TableLane = LaneSeen CellKey (Carried Table)

abbrev pub BufferDaemon : Type 0
BufferDaemon = DaemonSeen CellKey (Carried Contents)

abbrev pub TableDaemon : Type 0
TableDaemon = DaemonSeen CellKey (Carried Table)

-- The keys of the cells 0, 1 and 2 of one processor: they have one list of samples and one bell,
-- and the buffers one size.
pub record AreKeys (first second third : CellKey) (bell : TableId) : Type 0 where
  pub cells : (first.cell ≡ 0) × (second.cell ≡ 1) × (third.cell ≡ LAST_CELL)
  pub cpu : (second.cpu ≡ first.cpu) × (third.cpu ≡ first.cpu)
  pub samples : (second.samples.value.items ≡ first.samples.value.items)
      × (third.samples.value.items ≡ first.samples.value.items)
  pub made : second.made ≡ first.made
  pub bells : (first.bell ≡ bell) × (second.bell ≡ bell) × (third.bell ≡ bell)

-- what the daemon's side keeps: its keys; the values rung never fall and are at most 2^32
pub record IsDaemonSide (first second third : CellKey) (bell : RingSeen) : Type 0 where
  pub keys : AreKeys first second third bell.bell
  pub rising : NeverFallsFrom 0 bell.rungs
  pub bound : rung_of bell.rungs ≤ 2 ^ 32

-- what no call changes: the cells are polled evenly, and the driver is told no value rung
abbrev pub fixed_of : CellKey → TableId → TableId → TableId → TableId → Fixed
fixed_of key first second third bell = record {
  cpu = key.cpu;
  samples = key.samples.value.items;
  even = true;
  told = false;
  ends = Some (record { first = first; second = second; third = third; bell = bell });
}

-- a cell as the driver knows it
abbrev pub lane_slot : {V : Type 0}
    → (V → List Counted) → LaneSeen CellKey (Carried V) → Slot
lane_slot entries end = record {
  handed = map (batch_in entries) end.handed;
  holds = end.holds;
  tries = end.tries;
  read = end.read;
}

-- The driver's half. Its calls are its looks, its hands and what it heard.
abbrev pub lane_seen : BufferLane → BufferLane → TableLane → HearSeen → Side
lane_seen first second third bell = record {
  first = lane_slot (λ buffer. buffer.entries) first;
  second = lane_slot (λ buffer. buffer.entries) second;
  third = lane_slot entries_in third;
  steps = first.tries + second.tries + third.tries + bell.hears
      + length first.handed + length second.handed + length third.handed;
  hears = bell.hears;
  heard = bell.heard;
  room = None;
  buckets = third.key.made;
  buffer = first.key.made;
  turn = turn_of_last (last_of third.handed);
}

-- the driver's side, which knows nothing of the daemon's half
abbrev pub lane_shown : BufferLane → BufferLane → TableLane → HearSeen → Shown
lane_shown first second third bell = record {
  seen = lane_seen first second third bell;
  far = new_far None;
  fixed = fixed_of first.key first.cell second.cell third.cell bell.bell;
}

-- a cell as the daemon polls it
abbrev pub daemon_slot : {V : Type 0} → DaemonSeen CellKey (Carried V) → Slot
daemon_slot end = record { handed = []; holds = false; tries = end.tries; read = end.read }

-- The daemon's calls are its polls, its give-backs and its rings; of the driver's half it knows the
-- made sizes.
abbrev pub daemon_seen : BufferDaemon → BufferDaemon → TableDaemon → RingSeen → Side
daemon_seen first second third bell = record {
  first = daemon_slot first;
  second = daemon_slot second;
  third = daemon_slot third;
  steps = first.tries + second.tries + third.tries + length bell.rungs
      + first.backs + second.backs + third.backs;
  hears = 0;
  heard = 0;
  room = None;
  buckets = third.key.made;
  buffer = first.key.made;
  turn = 0;
}

-- a cell as the daemon knows it
abbrev pub far_slot : {V : Type 0}
    → (V → List Counted) → DaemonSeen CellKey (Carried V) → FarSlot
far_slot entries end =
    record { taken = map (batch_in entries) end.taken; holds = end.holds }

-- the daemon's half
abbrev pub daemon_far : BufferDaemon → BufferDaemon → TableDaemon → RingSeen → ℕ → FarSide
daemon_far first second third bell rung_at = record {
  first = far_slot (λ buffer. buffer.entries) first;
  second = far_slot (λ buffer. buffer.entries) second;
  third = far_slot entries_in third;
  turn = turn_of_last (last_of third.taken);
  given = None;
  rungs = bell.rungs;
  rung_at = rung_at;
}

-- the daemon's side; the tries of buffer 0 at the ring made last stand in a list of one number
abbrev pub daemon_shown : BufferDaemon → BufferDaemon → TableDaemon → RingSeen → List ℕ → Shown
daemon_shown first second third bell rung_at = record {
  seen = daemon_seen first second third bell;
  far = daemon_far first second third bell (slice_index rung_at 0);
  fixed = fixed_of first.key first.cell second.cell third.cell bell.bell;
}
