-- The handover over a whole side: what its cells and its bell keep, and that every call of the two
-- traits keeps it.
use Rattle.std.specs.Prelude.{◌≡◌, ℕ, ◌%◌, ◌^◌, ◌≤◌, true, false, ◌∷◌, ◌++◌, [], Option, Some, IfSome}
use Rattle.sample_key.specs.Sent.{Sent}
use Rattle.sample_key.specs.declared.batches.Parcel.{Parcel}
use Rattle.driver_model.specs.Table.{Table}
use Rattle.driver_model.specs.Sides.{Slot, Room, Side, slot_of, new_side, side_hear, side_hand_buffer, side_hand_table}
use Rattle.driver_model.specs.Handover.{FarSlot, Given, FarSide, IsHandover, IsBell, far_slot_of, far_gave_buffer, far_gave_table, far_rang, new_far, none_given, rung_of, side_called}
use Rattle.driver_model.specs.Runs.{word_of}
use Rattle.overflow_pair.specs.Contents.{Contents}
use Rattle.lane_side.specs.Fixed.{Fixed}
use Rattle.lane_side.specs.Calls.{LooksAtBuffer, LooksAtTable, MayHandBuffer, MayHandTable, PollsBuffer, PollsTable, buffer_sent, table_sent}
use Rattle.turn_cell.specs.declared.passing.Look.{Look}
use Rattle.turn_cell.specs.declared.passing.PollOf.{PollOf}

-- A cell that was given back so often is handed over as its word says. What makes it so after the
-- next call: where the word is odd and the daemon does not hold the value, the last batch waits and
-- all before it were taken.
pub record CellHandsOver (slot : Slot) (far : FarSlot) (given : ℕ) : Type 0 where
  pub handover :
      IsHandover slot.handed far.taken given (word_of slot given) slot.holds far.holds
  pub waits : word_of slot given % 2 ≡ 1 → far.holds ≡ false →
      (waiting : Sent) × (slot.handed ≡ far.taken ++ waiting ∷ [])

-- the three cells, which were given back so often
pub record CellsHandOver (given : Given) (side : Side) (far : FarSide) : Type 0 where
  pub first : CellHandsOver side.first far.first given.first
  pub second : CellHandsOver side.second far.second given.second
  pub third : CellHandsOver side.third far.third given.third

-- a side whose cells are handed over as their words say, where it tells them, and whose bell is
-- sound
pub record HandsOver (side : Side) (far : FarSide) : Type 0 where
  pub cells : IfSome far.given (λ given. CellsHandOver given side far)
  pub bell : IsBell far.rungs (rung_of far.rungs) side.heard

-- a new side hands over
abbrev pub NewSidesHandOver : Type 0
NewSidesHandOver = (room : Option Room) (buckets buffer : ℕ)
    → HandsOver (new_side room buckets buffer) (new_far (Some none_given))

-- Each call of the driver keeps the handover. The bell value heard is the one rung last, as a side
-- says that tells the driver's calls what was rung.
pub record LaneCallsHandOver : Type 0 where
  pub hear : (side : Side) (far : FarSide) (bell : ℕ)
      → bell ≡ rung_of far.rungs → HandsOver side far
      → HandsOver (side_hear side bell) far
  pub look_buffer : (number : ℕ) (side : Side) (far : FarSide) (look : Look Contents) (after : Side)
      → number ≤ 1 → (slot_of side number).holds ≡ false
      → LooksAtBuffer number side far look after → HandsOver side far
      → HandsOver after far
  pub hand_buffer : (number : ℕ) (fixed : Fixed) (side : Side) (far : FarSide)
      (parcel : Parcel Contents)
      → number ≤ 1 → MayHandBuffer number fixed side parcel.note parcel.body → HandsOver side far
      → HandsOver (side_hand_buffer side number (buffer_sent parcel)) far
  pub look_table : (side : Side) (far : FarSide) (look : Look Table) (after : Side)
      → side.third.holds ≡ false → LooksAtTable side far look after → HandsOver side far
      → HandsOver after far
  pub hand_table : (fixed : Fixed) (side : Side) (far : FarSide) (parcel : Parcel Table)
      → MayHandTable fixed side parcel.note parcel.body → HandsOver side far
      → HandsOver (side_hand_table side (table_sent parcel) parcel.body.turn) far

-- each call of the daemon keeps the handover
pub record DaemonCallsHandOver : Type 0 where
  pub ring : (side : Side) (far : FarSide) (value tries : ℕ)
      → rung_of far.rungs ≤ value → value ≤ 2 ^ 32 → HandsOver side far
      → HandsOver (side_called side) (far_rang far value tries)
  pub poll_buffer : (number : ℕ) (fixed : Fixed) (side : Side) (far : FarSide)
      (poll : PollOf (Parcel Contents)) (after : Side) (left : FarSide)
      → number ≤ 1 → (far_slot_of far number).holds ≡ false
      → PollsBuffer number fixed side far poll after left → HandsOver side far
      → HandsOver after left
  pub return_buffer : (number : ℕ) (side : Side) (far : FarSide)
      → number ≤ 1 → (far_slot_of far number).holds ≡ true → HandsOver side far
      → HandsOver (side_called side) (far_gave_buffer far number)
  pub poll_table : (fixed : Fixed) (side : Side) (far : FarSide)
      (poll : PollOf (Parcel Table)) (after : Side) (left : FarSide)
      → far.third.holds ≡ false → PollsTable fixed side far poll after left → HandsOver side far
      → HandsOver after left
  pub return_table : (side : Side) (far : FarSide)
      → far.third.holds ≡ true → HandsOver side far
      → HandsOver (side_called side) (far_gave_table far)
