-- The ends of a cell and of a bell, as contracts see them.
use Rattle.std.specs.Prelude.{◌≡◌, ℕ, Bool, List, [], Some}
use Rattle.atomic_table.specs.Seated.{TableId}
use Rattle.atomic_table.specs.Table.{Me}
use Rattle.turn_cell.specs.declared.passing.Parcel.{Parcel}
use Rattle.turn_cell.specs.declared.cell_view.InSlot.{InSlot}
use Rattle.turn_cell.specs.declared.cell_view.Role.TheVariants.{Lane, Daemon}
use Rattle.turn_cell.specs.declared.cell_view.View.{View}
use Rattle.turn_cell.specs.declared.bell_view.BellView.{BellView}
use Rattle.turn_cell.specs.Handoff.{out_with}

-- The end that hands over: its cell and the cell's key, the parcels handed, whether it holds the
-- value, the word that its last look read, and its looks.
pub record LaneSeen (K V : Type 0) : Type 0 where
  pub cell : TableId
  pub key : K
  pub handed : List (Parcel V)
  pub holds : Bool
  pub read : ℕ
  pub tries : ℕ

-- The end that takes: its cell and the cell's key, the parcels taken, how many values it gave back,
-- whether it holds the value, the word that its last poll read, and its polls.
pub record DaemonSeen (K V : Type 0) : Type 0 where
  pub cell : TableId
  pub key : K
  pub taken : List (Parcel V)
  pub backs : ℕ
  pub holds : Bool
  pub read : ℕ
  pub tries : ℕ

-- The ringing end: its bell, the values rung, the noted value that it met last, the word that its
-- last meeting read, and its meetings.
pub record RingSeen : Type 0 where
  pub bell : TableId
  pub rungs : List ℕ
  pub noted : ℕ
  pub read : ℕ
  pub meets : ℕ

-- A hearing end: its bell, the value heard last, and how often it heard.
pub record HearSeen : Type 0 where
  pub bell : TableId
  pub heard : ℕ
  pub hears : ℕ

-- A note of what was heard: the bell, and the value.
pub record NoteSeen : Type 0 where
  pub bell : TableId
  pub value : ℕ

module _ {K V : Type 0} where
  -- the lane's end, from its cell, the cell's key and its seat's view
  abbrev pub lane_seen : TableId → K → View K V → LaneSeen K V
  lane_seen cell key view =
      record {
        cell = cell;
        key = key;
        handed = view.handed;
        holds = view.lane_holds;
        read = view.read;
        tries = view.loads;
      }

  -- the daemon's end, from its cell, the cell's key and its seat's view
  abbrev pub daemon_seen : TableId → K → View K V → DaemonSeen K V
  daemon_seen cell key view =
      record {
        cell = cell;
        key = key;
        taken = view.taken;
        backs = view.backs;
        holds = view.daemon_holds;
        read = view.read;
        tries = view.loads;
      }

-- the ringing end, from its bell and its seat's view
abbrev pub ring_seen : TableId → BellView → RingSeen
ring_seen bell view =
    record {
      bell = bell;
      rungs = view.rungs;
      noted = view.heard;
      read = view.read;
      meets = view.loads;
    }

-- a hearing end, from its bell and its seat's view
abbrev pub hear_seen : TableId → BellView → HearSeen
hear_seen bell view = record { bell = bell; heard = view.heard; hears = view.loads }

-- the lane's seat of this table, which has the slot out just while it holds the value
pub record IsLaneSeat {K V : Type 0}
    (seated table : TableId) (key_is : K) (me : Me (InSlot V) (View K V))
    : Type 0 where
  pub same : seated ≡ table
  pub words : table.words ≡ 1
  pub role : me.0.role ≡ Lane
  pub key : me.0.key ≡ Some key_is
  pub out : me.1 ≡ out_with me.0.lane_holds

-- the daemon's seat of this table, which has the slot out just while it holds the value
pub record IsDaemonSeat {K V : Type 0}
    (seated table : TableId) (key_is : K) (me : Me (InSlot V) (View K V))
    : Type 0 where
  pub same : seated ≡ table
  pub words : table.words ≡ 1
  pub role : me.0.role ≡ Daemon
  pub key : me.0.key ≡ Some key_is
  pub out : me.1 ≡ out_with me.0.daemon_holds

-- a seat of the bell's table, which rings or hears
pub record IsBellSeat {S : Type 0}
    (rings : Bool) (seated table : TableId) (me : Me S BellView)
    : Type 0 where
  pub same : seated ≡ table
  pub words : table.words ≡ 1
  pub rings_is : me.0.rings ≡ rings
  pub out : me.1 ≡ []
