-- The room that is made before the first thread starts.
use Rattle.std.specs.Prelude.{◌≡◌, ℕ, ◌≤◌, [], vec_capacity}
use Rattle.lane_threads.specs.Ending.{HasRoomFor}
use Rattle.run_drive.specs.declared.going.Rooms.{Rooms}

-- there is a place for so many processors
pub record HaveRoomFor (count : ℕ) (rooms : Rooms) : Type 0 where
  pub runners : (rooms.runners.items ≡ []) × (count ≤ vec_capacity rooms.runners)
  pub works : (rooms.works.items ≡ []) × (count ≤ vec_capacity rooms.works)
  pub ended : HasRoomFor count rooms.ended
