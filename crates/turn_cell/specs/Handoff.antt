-- The handover of one value between two ends, and the rule that a cell's table keeps between any
-- two steps.
use Rattle.std.specs.Prelude.{◌≡◌, ℕ, ◌+◌, ◌*◌, ◌^◌, ◌≤◌, ◌⊎◌, Bool, true, false, List, [], ◌∷◌, ◌++◌, length, Option, Some, None}
use mathlib.Core.Option.{Option as Maybe, some, none}
use lib.ListN.{get_elem?}
use Rattle.atomic_table.specs.Table.{State, Me, rest}
use Rattle.turn_cell.specs.declared.passing.Parcel.{Parcel}
use Rattle.turn_cell.specs.declared.cell_view.InSlot.{InSlot}
use Rattle.turn_cell.specs.declared.cell_view.InSlot.TheVariants.{Empty, Resting, Sent}
use Rattle.turn_cell.specs.declared.cell_view.Role.{Role}
use Rattle.turn_cell.specs.declared.cell_view.Role.TheVariants.{Whole, Lane, Daemon, SetDown, Joined, Spent}
use Rattle.turn_cell.specs.declared.cell_view.View.{View}
use Rattle.turn_cell.specs.Parcels.{IsEven, IsOdd, last_of, IsUpToLast}

-- The handover, as both ends together see it: what was handed and taken, how many were given back,
-- the word, and which end holds the value.
pub record IsHandoff {V : Type 0}
    (handed taken : List (Parcel V)) (backs word : ℕ) (lane_holds daemon_holds : Bool)
    : Type 0 where
  pub word_is : word ≡ length handed + backs
  pub even : IsEven word → (backs ≡ length handed) × (taken ≡ handed)
  pub odd : IsOdd word → (backs + 1 ≡ length handed) × IsUpToLast taken handed
  pub prefix : IsUpToLast taken handed
  pub lane : lane_holds ≡ true → IsEven word
  pub daemon : daemon_holds ≡ true → IsOdd word × (taken ≡ handed)

-- Where the value is: in the slot since it was given back, with the lane, in the slot since it was
-- handed, with the daemon, or with the closing end, while the daemon's empty slot is at home.
pub data Whereabouts (V : Type 0) : Type 0 where
  resting : V → Whereabouts V
  with_lane : Whereabouts V
  sent : Parcel V → Whereabouts V
  with_daemon : Whereabouts V
  with_closer : Whereabouts V

module _ {V : Type 0} where
  -- the slot, at home with its content or out
  abbrev pub homes_of : Whereabouts V → List (Maybe (InSlot V))
  homes_of (resting value) = some (Resting value) ∷ []
  homes_of with_lane = none ∷ []
  homes_of (sent parcel) = some (Sent parcel) ∷ []
  homes_of with_daemon = none ∷ []
  homes_of with_closer = some Empty ∷ []

  -- the lane's end holds the value
  abbrev pub is_with_lane : Whereabouts V → Bool
  is_with_lane (resting value) = false
  is_with_lane with_lane = true
  is_with_lane (sent parcel) = false
  is_with_lane with_daemon = false
  is_with_lane with_closer = false

  -- the daemon's end holds the value, or held it when it set its slot down
  abbrev pub is_with_daemon : Whereabouts V → Bool
  is_with_daemon (resting value) = false
  is_with_daemon with_lane = false
  is_with_daemon (sent parcel) = false
  is_with_daemon with_daemon = true
  is_with_daemon with_closer = true

  -- the value is in the slot since it was given back, or since the cell was made
  abbrev pub IsAtRest : Whereabouts V → Type 0
  IsAtRest (resting value) = Unit {0}
  IsAtRest with_lane = ⊥
  IsAtRest (sent parcel) = ⊥
  IsAtRest with_daemon = ⊥
  IsAtRest with_closer = ⊥

  -- the slot is out with no seat but the lane's
  abbrev pub IsInReach : Whereabouts V → Type 0
  IsInReach (resting value) = Unit {0}
  IsInReach with_lane = Unit {0}
  IsInReach (sent parcel) = Unit {0}
  IsInReach with_daemon = ⊥
  IsInReach with_closer = Unit {0}

  -- the role that the daemon's end has
  abbrev pub IsDaemonRole : Whereabouts V → Role → Type 0
  IsDaemonRole (resting value) role = (role ≡ Daemon) ⊎ (role ≡ SetDown)
  IsDaemonRole with_lane role = (role ≡ Daemon) ⊎ (role ≡ SetDown)
  IsDaemonRole (sent parcel) role = (role ≡ Daemon) ⊎ (role ≡ SetDown)
  IsDaemonRole with_daemon role = role ≡ Daemon
  IsDaemonRole with_closer role = role ≡ SetDown

  -- the slot that an end has out, which is empty while it holds the value
  abbrev pub out_with : Bool → List (ℕ × InSlot V)
  out_with true = (0, Empty) ∷ []
  out_with false = []

  -- the value in a slot, if there is one
  abbrev pub value_in : InSlot V → Option V
  value_in Empty = None
  value_in (Resting value) = Some value
  value_in (Sent parcel) = Some parcel.value

  -- the parcel that is carried
  abbrev pub parcels_of : List (ℕ × InSlot V) → List (Parcel V)
  parcels_of [] = []
  parcels_of ((slot, Sent parcel) ∷ more) = parcel ∷ []
  parcels_of ((slot, Resting value) ∷ more) = []
  parcels_of ((slot, Empty) ∷ more) = []

-- The seats of a cell: the first one, the two ends, or the one in which both were joined, beside
-- the spent one.
pub data Seats (K V : Type 0) : Type 0 where
  whole : View K V → Seats K V
  apart : View K V → View K V → Seats K V
  joined : View K V → View K V → Seats K V

module _ {K V : Type 0} where
  -- the first seat of a new cell
  abbrev pub first_view : K → View K V
  first_view key = record {
    role = Whole;
    key = Some key;
    handed = [];
    taken = [];
    backs = 0;
    lane_holds = false;
    daemon_holds = false;
    read = 0;
    loads = 0;
  }

  -- a seat that knows nothing any more
  abbrev pub spent_view : View K V
  spent_view = record {
    role = Spent;
    key = None;
    handed = [];
    taken = [];
    backs = 0;
    lane_holds = false;
    daemon_holds = false;
    read = 0;
    loads = 0;
  }

  -- the lane's end of the first seat
  abbrev pub lane_part : View K V → View K V
  lane_part view = record view { role = Lane }

  -- the daemon's end of the first seat
  abbrev pub daemon_part : View K V → View K V
  daemon_part view = record view { role = Daemon; loads = 0 }

  -- the lane's end, to which the daemon's was joined
  abbrev pub both_parts : View K V → View K V → View K V
  both_parts lane daemon =
      record lane {
        role = Joined;
        taken = daemon.taken;
        backs = daemon.backs;
        daemon_holds = daemon.daemon_holds;
      }

  -- the lane's end after a look that read this word
  abbrev pub after_look : View K V → ℕ → Bool → View K V
  after_look view word holds =
      record view { lane_holds = holds; read = word; loads = view.loads + 1 }

  -- the daemon's end after a poll that read this word and took these parcels
  abbrev pub after_poll : View K V → ℕ → List (Parcel V) → Bool → View K V
  after_poll view word more holds =
      record view {
        taken = view.taken ++ more;
        daemon_holds = holds;
        read = word;
        loads = view.loads + 1;
      }

  -- the lane's end after it handed these parcels
  abbrev pub after_hand : View K V → List (Parcel V) → View K V
  after_hand view more = record view { handed = view.handed ++ more; lane_holds = false }

  -- the daemon's end after it gave a value back
  abbrev pub after_back : View K V → View K V
  after_back view = record view { backs = view.backs + 1; daemon_holds = false }

  -- the views of the seats, in order
  abbrev pub views_of : Seats K V → List (View K V)
  views_of (whole view) = view ∷ []
  views_of (apart lane daemon) = lane ∷ daemon ∷ []
  views_of (joined both spent) = both ∷ spent ∷ []

  -- what a seat that is both ends knows
  abbrev pub WholeKnows : Role → K → List (Parcel V) → List (Parcel V) → ℕ
      → Whereabouts V → View K V → Type 0
  WholeKnows role key handed taken backs place view =
      (view.role ≡ role)
      × (view.key ≡ Some key)
      × (view.handed ≡ handed)
      × (view.taken ≡ taken)
      × (view.backs ≡ backs)
      × (view.lane_holds ≡ is_with_lane place)
      × (view.daemon_holds ≡ is_with_daemon place)

  -- what the lane's end knows
  abbrev pub LaneKnows : K → List (Parcel V) → Whereabouts V → View K V → Type 0
  LaneKnows key handed place view =
      (view.role ≡ Lane)
      × (view.key ≡ Some key)
      × (view.handed ≡ handed)
      × (view.lane_holds ≡ is_with_lane place)

  -- what the daemon's end knows
  abbrev pub DaemonKnows : K → List (Parcel V) → ℕ → Whereabouts V → View K V → Type 0
  DaemonKnows key taken backs place view =
      IsDaemonRole place view.role
      × (view.key ≡ Some key)
      × (view.taken ≡ taken)
      × (view.backs ≡ backs)
      × (view.daemon_holds ≡ is_with_daemon place)

  -- what each seat knows is so; of a spent one nothing is said
  abbrev pub Know : K → List (Parcel V) → List (Parcel V) → ℕ → Whereabouts V → Seats K V → Type 0
  Know key handed taken backs place (whole view) =
      WholeKnows Whole key handed taken backs place view × IsAtRest place
  Know key handed taken backs place (apart lane daemon) =
      LaneKnows key handed place lane × DaemonKnows key taken backs place daemon
  Know key handed taken backs place (joined both spent) =
      (spent.role ≡ Spent)
      × ((WholeKnows Joined key handed taken backs place both × IsInReach place)
      ⊎ (both.role ≡ Spent))

  -- the table's state: the word is the sum of what was handed and given back
  abbrev pub state_of : List (Parcel V) → ℕ → Whereabouts V → Seats K V
      → State (InSlot V) (View K V)
  state_of handed backs place seats =
      record {
        words = (length handed + backs) ∷ [];
        homes = homes_of place;
        views = views_of seats;
      }

module _ {K V : Type 0}
    (keeps : K → Parcel V → Type 0) (returns : K → Option (Parcel V) → V → Type 0)
  where
    -- how many were given back and what was taken, where the value is
    abbrev pub Agree : K → List (Parcel V) → List (Parcel V) → ℕ → Whereabouts V → Type 0
    Agree key handed taken backs (resting value) =
        (backs ≡ length handed) × (taken ≡ handed) × returns key (last_of handed) value
    Agree key handed taken backs with_lane = (backs ≡ length handed) × (taken ≡ handed)
    Agree key handed taken backs (sent parcel) =
        (backs + 1 ≡ length handed) × (handed ≡ taken ++ parcel ∷ []) × keeps key parcel
    Agree key handed taken backs with_daemon = (backs + 1 ≡ length handed) × (taken ≡ handed)
    Agree key handed taken backs with_closer = (backs + 1 ≡ length handed) × (taken ≡ handed)

    -- The rule of a cell: there is a list handed, a list taken and a number given back, the word is
    -- their sum, and the ends know their parts.
    pub record TakesTurns (key : K) (state : State (InSlot V) (View K V)) : Type 0 where
      pub handed : List (Parcel V)
      pub taken : List (Parcel V)
      pub backs : ℕ
      pub place : Whereabouts V
      pub seats : Seats K V
      pub is : state ≡ state_of handed backs place seats
      pub bound : length handed ≤ 2 ^ 62
      pub agree : Agree key handed taken backs place
      pub know : Know key handed taken backs place seats

-- what the key says of a value at home, as an end tells it
abbrev pub Returns : {K V : Type 0}
    → (K → Option (Parcel V) → V → Type 0) → View K V → Option (Parcel V) → V → Type 0
Returns {K} returns view last value = (key : K) → view.key ≡ Some key → returns key last value

-- what the key says of a parcel, as an end tells it
abbrev pub Keeps : {K V : Type 0} → (K → Parcel V → Type 0) → View K V → Parcel V → Type 0
Keeps {K} keeps view parcel = (key : K) → view.key ≡ Some key → keeps key parcel

-- What each step tells: of the seat before, the word found and the seat after.
module _ {K V : Type 0} where
  -- a step that loads notes in its end's view the word that it found, and counts one load more
  abbrev pub IsNoted : Me (InSlot V) (View K V) → ℕ → Me (InSlot V) (View K V) → Type 0
  IsNoted before word after = (after.0.read ≡ word) × (after.0.loads ≡ before.0.loads + 1)

  -- the value is back and was taken, or it is out
  abbrev pub looked : (K → Option (Parcel V) → V → Type 0)
      → Me (InSlot V) (View K V) → ℕ → Me (InSlot V) (View K V) → Type 0
  looked returns before word after =
      ((word ≡ 2 * length before.0.handed)
      × (after.0 ≡ after_look before.0 word true)
      × ((value : V)
      × (after.1 ≡ (0, Resting value) ∷ [])
      × Returns returns before.0 (last_of before.0.handed) value))
      ⊎ ((word + 1 ≡ 2 * length before.0.handed)
      × (after.0 ≡ after_look before.0 word false)
      × (after.1 ≡ []))

  -- what was carried was handed
  abbrev pub gave_over : Me (InSlot V) (View K V) → Me (InSlot V) (View K V) → Type 0
  gave_over before after =
      (after.0 ≡ after_hand before.0 (parcels_of before.1)) × (after.1 ≡ rest before.1)

  -- a parcel was there and was taken, or the value is at home
  abbrev pub polled : (K → Parcel V → Type 0)
      → Me (InSlot V) (View K V) → ℕ → Me (InSlot V) (View K V) → Type 0
  polled keeps before word after =
      ((word ≡ 2 * before.0.backs + 1)
      × ((parcel : Parcel V)
      × (after.0 ≡ after_poll before.0 word (parcel ∷ []) true)
      × (after.1 ≡ (0, Sent parcel) ∷ [])
      × Keeps keeps before.0 parcel))
      ⊎ ((word ≡ 2 * before.0.backs)
      × (after.0 ≡ after_poll before.0 word [] false)
      × (after.1 ≡ []))

  -- what was carried was given back
  abbrev pub gave_back : Me (InSlot V) (View K V) → Me (InSlot V) (View K V) → Type 0
  gave_back before after = (after.0 ≡ after_back before.0) × (after.1 ≡ rest before.1)

  -- the daemon's end set its slot down
  abbrev pub set_down : Me (InSlot V) (View K V) → Me (InSlot V) (View K V) → Type 0
  set_down before after =
      (after.0 ≡ record before.0 { role = SetDown }) × (after.1 ≡ rest before.1)

  -- what the closing end finds in the slot
  abbrev pub IsFound : (K → Parcel V → Type 0) → (K → Option (Parcel V) → V → Type 0)
      → View K V → ℕ → InSlot V → Type 0
  IsFound keeps returns view word Empty = (view.lane_holds ≡ true) ⊎ (view.daemon_holds ≡ true)
  IsFound keeps returns view word (Resting value) =
      (view.lane_holds ≡ false)
      × (view.daemon_holds ≡ false)
      × IsEven word
      × Returns returns view (last_of view.handed) value
  IsFound keeps returns view word (Sent parcel) =
      (view.lane_holds ≡ false)
      × (view.daemon_holds ≡ false)
      × IsOdd word
      × (view.handed ≡ view.taken ++ parcel ∷ [])
      × Keeps keeps view parcel

  -- the closing end has the slot, and knows the handover
  abbrev pub ended : (K → Parcel V → Type 0) → (K → Option (Parcel V) → V → Type 0)
      → Me (InSlot V) (View K V) → ℕ → Me (InSlot V) (View K V) → Type 0
  ended keeps returns before word after =
      IsHandoff before.0.handed before.0.taken before.0.backs word
      before.0.lane_holds before.0.daemon_holds
      × ((content : InSlot V)
      × (after.1 ≡ (0, content) ∷ [])
      × IsFound keeps returns before.0 word content)

module _ {K V : Type 0}
    (keeps : K → Parcel V → Type 0) (returns : K → Option (Parcel V) → V → Type 0)
  where
    -- the value that was left in a closed cell: one that was given back, or that of the parcel
    -- handed last
    abbrev pub IsLeft : K → List (Parcel V) → List (Parcel V) → ℕ → V → Type 0
    IsLeft key handed taken word value =
        (IsEven word × returns key (last_of handed) value)
        ⊎ (IsOdd word
        × ((parcel : Parcel V)
        × (parcel.value ≡ value)
        × (handed ≡ taken ++ parcel ∷ [])
        × keeps key parcel))

    -- What a seat knows that is both ends.
    abbrev pub IsAllKnown : K → List (Parcel V) → List (Parcel V) → ℕ → Bool → Bool
        → View K V → Type 0
    IsAllKnown key handed taken backs lane_holds daemon_holds view =
        (view.key ≡ Some key)
        × (view.handed ≡ handed)
        × (view.taken ≡ taken)
        × (view.backs ≡ backs)
        × (view.lane_holds ≡ lane_holds)
        × (view.daemon_holds ≡ daemon_holds)

    -- What the daemon's end knows.
    abbrev pub IsDaemonKnown : K → List (Parcel V) → ℕ → Bool → View K V → Type 0
    IsDaemonKnown key taken backs daemon_holds view =
        (view.key ≡ Some key)
        × (view.taken ≡ taken)
        × (view.backs ≡ backs)
        × (view.daemon_holds ≡ daemon_holds)

    -- What an end knows of the handover, by its role. Of a spent end nothing is said.
    abbrev pub IsKnown : K → List (Parcel V) → List (Parcel V) → ℕ → Bool → Bool
        → View K V → Role → Type 0
    IsKnown key handed taken backs lane_holds daemon_holds view Whole =
        IsAllKnown key handed taken backs lane_holds daemon_holds view
    IsKnown key handed taken backs lane_holds daemon_holds view Lane =
        (view.key ≡ Some key) × (view.handed ≡ handed) × (view.lane_holds ≡ lane_holds)
    IsKnown key handed taken backs lane_holds daemon_holds view Daemon =
        IsDaemonKnown key taken backs daemon_holds view
    IsKnown key handed taken backs lane_holds daemon_holds view SetDown =
        IsDaemonKnown key taken backs daemon_holds view
    IsKnown key handed taken backs lane_holds daemon_holds view Joined =
        IsAllKnown key handed taken backs lane_holds daemon_holds view
    IsKnown key handed taken backs lane_holds daemon_holds view Spent = Unit {0}

    -- The value is in the slot, at rest or sent, or with an end.
    abbrev pub IsInOnePlace : List (Maybe (InSlot V)) → Bool → Bool → Type 0
    IsInOnePlace homes lane_holds daemon_holds =
        (((value : V) × (homes ≡ some (Resting value) ∷ []))
        ⊎ ((parcel : Parcel V) × (homes ≡ some (Sent parcel) ∷ [])))
        ⊎ ((lane_holds ≡ true) ⊎ (daemon_holds ≡ true))

    -- A cell between two steps: its word and its ends meet the handover, and what lies in the slot
    -- meets its fact.
    pub record IsSoundCell (key : K) (state : State (InSlot V) (View K V)) : Type 0 where
      pub handed : List (Parcel V)
      pub taken : List (Parcel V)
      pub backs : ℕ
      pub word : ℕ
      pub lane_holds : Bool
      pub daemon_holds : Bool
      pub words : state.words ≡ word ∷ []
      pub handoff : IsHandoff handed taken backs word lane_holds daemon_holds
      pub bound : length handed ≤ 2 ^ 62
      pub at_home : (value : V)
          → state.homes ≡ some (Resting value) ∷ []
          → IsEven word × (lane_holds ≡ false) × returns key (last_of handed) value
      pub on_its_way : (parcel : Parcel V)
          → state.homes ≡ some (Sent parcel) ∷ []
          → IsOdd word × (daemon_holds ≡ false) × (handed ≡ taken ++ parcel ∷ []) × keeps key parcel
      pub one_place : IsInOnePlace state.homes lane_holds daemon_holds
      pub known : (seat : ℕ) (view : View K V)
          → get_elem? state.views seat ≡ some view
          → IsKnown key handed taken backs lane_holds daemon_holds view view.role
