-- The rows of the changed profiles so far.
use Rattle.std.proofs.Common.{◌≡◌, map, take}
use Rattle.database_state.specs.Updates.{unknown_row_of}
use Rattle.epoch_store.proofs.rows.unknown_after.Given as goal

abbrev pub invariant-loop-update : goal.invariant-loop-update
invariant-loop-update l = l.changed.items ≡ map (unknown_row_of l.g) (take l.update-index l.updates)
