-- The greatest seal so far, and those that are left.
use Rattle.std.proofs.Common.{◌≡◌, drop}
use Rattle.epoch_store.specs.Seals.{greatest_seal}
use Rattle.epoch_store.proofs.seals.greatest_seal.Given as goal

abbrev pub invariant-loop-name : goal.invariant-loop-name
invariant-loop-name l = greatest_seal l.best (drop l.name-index l.names) ≡ greatest_seal 0 l.names
