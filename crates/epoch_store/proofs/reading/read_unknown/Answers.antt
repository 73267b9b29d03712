-- The rows of a head are in their order.
use Rattle.database_state.proofs.RowOrders.{unknown_order}
use Rattle.epoch_store.proofs.reading.read_unknown.Goals as goal

pub read_row-requires-clause-order : goal.read_row-requires-clause-order
read_row-requires-clause-order g c = unknown_order
