-- The changes that were passed over have other names.
use Rattle.std.proofs.Common.{◌≡◌, ◌≤◌, length, take}
use Rattle.store_io.specs.Files.{no_files}
use Rattle.store_io.specs.Changes.{after_steps}
use Rattle.store_io.proofs.changes.find.Given as goal

abbrev pub invariant-loop-left : goal.invariant-loop-left
invariant-loop-left l = record {
  bound : l.left ≤ length l.changes;
  same : after_steps (take l.left l.changes) no_files l.name ≡ after_steps l.changes no_files l.name;
}

abbrev pub decreases-loop-left : goal.decreases-loop-left
decreases-loop-left l = l.left
