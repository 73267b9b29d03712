-- What a daemon's side is between two rounds of polls, and what a visit of its cells changes.
use Rattle.std.specs.Prelude.{◌≡◌, ℕ, ◌+◌, ◌≤◌, false}
use Rattle.driver_model.specs.Sides.{Side}
use Rattle.driver_model.specs.Handover.{FarSide}

-- The daemon holds nothing, each cell was polled as often, and no ring came after these polls.
pub record IsPolledEvenly (side : Side) (far : FarSide) : Type 0 where
  pub free0 : far.first.holds ≡ false
  pub free1 : far.second.holds ≡ false
  pub free2 : far.third.holds ≡ false
  pub tries1 : side.second.tries ≡ side.first.tries
  pub tries2 : side.third.tries ≡ side.first.tries
  pub rung : far.rung_at ≤ side.first.tries

-- The cells were polled so often more, the daemon holds nothing that it did not hold before, and
-- rang nothing.
pub record IsVisited (first second third : ℕ) (before after : Side) (far left : FarSide)
    : Type 0 where
  pub tries0 : after.first.tries ≡ before.first.tries + first
  pub tries1 : after.second.tries ≡ before.second.tries + second
  pub tries2 : after.third.tries ≡ before.third.tries + third
  pub holds0 : left.first.holds ≡ far.first.holds
  pub holds1 : left.second.holds ≡ far.second.holds
  pub holds2 : left.third.holds ≡ far.third.holds
  pub rungs : left.rungs ≡ far.rungs
  pub rung_at : left.rung_at ≡ far.rung_at
