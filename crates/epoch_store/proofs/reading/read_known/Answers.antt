-- The rows of a head are in their order.
use Rattle.database_state.proofs.RowOrders.{known_order}
use Rattle.epoch_store.proofs.reading.read_known.Goals as goal

pub read_row-requires-clause-order : goal.read_row-requires-clause-order
read_row-requires-clause-order g c = known_order
