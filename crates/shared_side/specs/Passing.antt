-- From the parcels and answers of a side to those of its cells, and back.
use Rattle.std.specs.Prelude.{◌≡◌, ℕ, ◌≤◌, List, Some, None, IsSomeAnd}
use Rattle.sample_key.specs.declared.batches.Parcel.{Parcel}
use Rattle.atomic_table.specs.Seated.{TableId}
use Rattle.turn_cell.specs.Doorbell.{last_rung, IsRungOrZero}
use Rattle.turn_cell.specs.Ends.{NoteSeen}
use Rattle.turn_cell.specs.declared.passing.Look.{Look}
use Rattle.turn_cell.specs.declared.passing.Look.TheVariants.{Back, Out}
use Rattle.turn_cell.specs.declared.passing.Parcel.{Parcel as InCell}
use Rattle.turn_cell.specs.declared.passing.PollOf.{PollOf}
use Rattle.turn_cell.specs.declared.passing.PollOf.TheVariants.{Parcel as Got, Home}
use Rattle.shared_side.specs.Carrying.{header_in}
use Rattle.shared_side.specs.declared.carried.Carried.{Carried}

module _ {V : Type 0} where
  -- a parcel of the side as one of the cell, with what the driver had heard
  abbrev pub wrapped : Parcel V → NoteSeen → InCell (Carried V)
  wrapped parcel heard = record {
    number = parcel.note.number;
    upto = parcel.note.upto;
    value = record { body = parcel.body; note = Some parcel.note; heard = Some heard };
  }

  -- a value that is given back
  abbrev pub bare : V → Carried V
  bare body = record { body = body; note = None; heard = None }

  -- what a look at the cell tells the driver
  abbrev pub look_in : Look (Carried V) → Look V
  look_in (Back carried) = Back carried.body
  look_in (Out word) = Out word

  -- what a poll of the cell tells the daemon
  abbrev pub poll_in : PollOf (InCell (Carried V)) → PollOf (Parcel V)
  poll_in (Got parcel) =
      Got (record { note = header_in parcel.value.note; body = parcel.value.body })
  poll_in (Home word) = Home word

  -- a parcel with both options filled, of which what was heard is of this bell
  abbrev pub IsOfBell : TableId → InCell (Carried V) → Type 0
  IsOfBell bell parcel =
      IsSomeAnd parcel.value.note (λ _. Unit {0})
      × IsSomeAnd parcel.value.heard (λ heard. heard.bell ≡ bell)

  -- what was heard is 0 or one of the values rung, and at most the last of them
  abbrev pub WasHeard : List ℕ → InCell (Carried V) → Type 0
  WasHeard rungs parcel = IsSomeAnd parcel.value.heard
      (λ heard. IsRungOrZero rungs heard.value × (heard.value ≤ last_rung rungs))
