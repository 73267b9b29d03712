use Rattle.cpu_lane.proofs.Running.{room_left}
use Rattle.cpu_lane.proofs.laws.running_has_room.Goals as goal

pub returns : goal.returns
returns c = room_left c.room_is_enough.ensures
