use Rattle.driver_laws.proofs.Rooms.{enough_room}
use Rattle.driver_laws.proofs.room_is_enough.Goals as goal

pub returns : goal.returns
returns c = enough_room
