use Rattle.std.proofs.Common.{◌≡◌, Some, length}
use Rattle.store_io.specs.Files.{Files}
use Rattle.store_io.specs.Crashes.{OnlyReads}
use Rattle.database_state.specs.Rows.{unknown_ref}
use Rattle.counts_listing.proofs.FilesRead.{ReadSoFar}
use Rattle.counts_listing.proofs.reading.read_unknown_profiles.Given as goal

abbrev pub invariant-loop-row : goal.invariant-loop-row
invariant-loop-row g l = record {
  told : (files : Files) → g.D.Store.files l.initial.store ≡ Some files → ReadSoFar files unknown_ref l.rows l.row-index l.profiles.items;
  many : length l.profiles.items ≡ l.row-index;
  reads : OnlyReads (g.D.Store.files l.initial.store) (g.D.Store.files l.store) (g.D.Store.moment l.initial.store) (g.D.Store.moment l.store) (g.D.Store.left_since l.initial.store) (g.D.Store.left_since l.store);
  faults : g.D.Store.faults l.store ≡ g.D.Store.faults l.initial.store;
  origin : g.D.Store.origin l.store ≡ g.D.Store.origin l.initial.store;
}
