-- The room for what the lanes lost and counted.
use Rattle.std.specs.Prelude.{◌≡◌, ℕ, ◌≤◌, [], vec_capacity}
use Rattle.lane_threads.specs.declared.closing.Ended.{Ended}

-- nothing is told yet, and there is a place for so many processors
pub record HasRoomFor (count : ℕ) (ended : Ended) : Type 0 where
  pub losses : ended.losses.items ≡ []
  pub stats : ended.stats.items ≡ []
  pub places : (count ≤ vec_capacity ended.losses) × (count ≤ vec_capacity ended.stats)
