-- A lane that runs may take a turn.
use Rattle.std.proofs.Common.{◌≡◌, ℕ, ◌+◌, ◌*◌, length, arith, Some, None, Option}
use Rattle.std.specs.Prelude.{IfSome}
use Rattle.driver_model.specs.Sides.{Room, Side}
use Rattle.driver_model.specs.Handover.{FarSide}
use Rattle.driver_laws.specs.Turns.{hands_in, entries_handed, HasRoomForTurn, RoomIsEnough}
use Rattle.lane_side.specs.Fixed.{Fixed}
use Rattle.cpu_lane.specs.Seen.{Seen}
use Rattle.cpu_lane.specs.Ready.{HasRoom}
use Rattle.cpu_lane.specs.Runs.{Runs}

-- there is room for a turn, by the law on the room that a side takes
pub room_left : RoomIsEnough → (requests : ℕ) (l : Seen) (v : Side) (far : FarSide) (f : Fixed) → Runs requests l v far f → HasRoom l.driver v
room_left enough requests l v far f r = at v.room r.left
  where
    at : (o : Option Room) → IfSome o (λ q. (q.hands + hands_in v ≡ length l.setup.samples + 2 * requests + 2) × (q.entries + entries_handed v ≡ length l.setup.samples + 1)) → HasRoomForTurn l.driver o
    at None h = tt
    at (Some q) h = enough l.setup l.driver v q requests r.invariant h.0 h.1 (omega (arith, r.invariant.answers_rise.heard, r.heard))
