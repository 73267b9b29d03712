-- A lane on a plain side whose daemon is played by the same thread.
use Rattle.std.specs.Prelude.{◌≡◌, ℕ, ◌≤◌, false, List}
use Rattle.sample_key.specs.declared.keys.Marked.{Marked}
use Rattle.driver_model.specs.Lists.{AllOf}
use Rattle.lane_side.specs.Plain.{Plain}
use Rattle.cpu_lane.specs.Seen.{Seen}
use Rattle.cpu_lane.specs.Runs.{Runs}

-- a lane and its side
pub record Both : Type 0 where
  pub lane : Seen
  pub side : Plain
  pub requests : ℕ

-- A lane runs on a plain side, and the daemon, which the same thread plays, holds nothing of it.
pub record Plays (requests : ℕ) (lane : Seen) (side : Plain) : Type 0 where
  pub few : requests ≤ 65537
  pub runs : Runs requests lane side.seen side.far side.fixed
  pub even : side.fixed.even ≡ false
  pub free0 : side.far.first.holds ≡ false
  pub free1 : side.far.second.holds ≡ false
  pub free2 : side.far.third.holds ≡ false

-- so many records stand before each sample
abbrev pub HaveMark : ℕ → List Marked → Type 0
HaveMark mark samples = AllOf (λ s. s.mark ≡ mark) samples
