-- The names that the changes so far left.
use Rattle.std.proofs.Common.{Some, take}
use Rattle.store_io.specs.Files.{no_files}
use Rattle.store_io.specs.Listing.{Lists, text_list, AreNames}
use Rattle.store_io.specs.Changes.{after_steps}
use Rattle.store_io.proofs.changes.present_names.Given as goal

abbrev pub invariant-loop-change : goal.invariant-loop-change
invariant-loop-change l = record {
  present : Lists (Some (after_steps (take l.change-index l.changes) no_files)) (text_list l.texts);
  names : AreNames (text_list l.texts);
}
