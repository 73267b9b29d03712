use Rattle.driver_laws.proofs.Rooms.{room_turn}
use Rattle.driver_laws.proofs.room_falls.Goals as goal

pub returns : goal.returns
returns c = room_turn
