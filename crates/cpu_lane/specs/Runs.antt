-- A lane on a side that was made for it: what a turn asks follows, and a turn keeps it.
use Rattle.std.specs.Prelude.{◌≡◌, ℕ, ◌+◌, ◌*◌, ◌≤◌, true, length, List, IfSome}
use Rattle.sample_key.specs.declared.keys.Marked.{Marked}
use Rattle.driver_model.specs.Sides.{Side}
use Rattle.driver_model.specs.Handover.{FarSide, rung_of}
use Rattle.driver_model.specs.Invariant.{DriverInvariant}
use Rattle.driver_laws.specs.Turns.{hands_in, entries_handed}
use Rattle.lane_side.specs.Fixed.{Fixed}
use Rattle.cpu_lane.specs.Seen.{Seen}
use Rattle.cpu_lane.specs.Ready.{IsSideOf, HasRoom}

-- Of the room for these samples and so many requests, what was not handed is left, where the side tells its room.
abbrev pub HasLeft : ℕ → List Marked → Side → Type 0
HasLeft requests samples side = IfSome side.room (λ room.
    (room.hands + hands_in side ≡ length samples + 2 * requests + 2)
    × (room.entries + entries_handed side ≡ length samples + 1))

-- A lane runs on a side that was made with room for so many requests and tells the values rung: all that a turn asks follows,
-- and a turn keeps it.
pub record Runs (requests : ℕ) (lane : Seen) (seen : Side) (far : FarSide) (fixed : Fixed) : Type 0 where
  pub side : IsSideOf lane.setup fixed seen
  pub invariant : DriverInvariant lane.setup lane.driver seen
  pub left : HasLeft requests lane.setup.samples seen
  pub told : fixed.told ≡ true
  pub rung : rung_of far.rungs ≤ 2 * requests
  pub heard : seen.heard ≤ 2 * requests

-- a lane that runs has room for a turn
abbrev pub RunningHasRoom : Type 0
RunningHasRoom = (requests : ℕ) (lane : Seen) (side : Side) (far : FarSide) (fixed : Fixed)
    → Runs requests lane side far fixed → HasRoom lane.driver side
