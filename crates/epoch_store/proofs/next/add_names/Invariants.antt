-- The names so far stand at the end.
use Rattle.std.proofs.Common.{◌≡◌, ◌++◌, take}
use Rattle.epoch_store.proofs.next.add_names.Given as goal

abbrev pub invariant-loop-name : goal.invariant-loop-name
invariant-loop-name l = l.catalog ≡ l.fn.catalog ++ take l.name-index l.names
