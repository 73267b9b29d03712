-- The segments before this one are joined and printed.
use Rattle.std.proofs.Common.{◌≡◌, Some}
use Rattle.store_io.specs.Files.{Files}
use Rattle.store_io.specs.Crashes.{OnlyReads}
use Rattle.database_model.specs.Ranges.{IsRecorded}
use Rattle.run_listing.proofs.Progress.{Progress}
use Rattle.run_listing.proofs.listing.runs_text.Given as goal

abbrev pub invariant-loop-before : goal.invariant-loop-before
invariant-loop-before g l = record {
  told : (files : Files) → g.D.Store.files l.initial.store ≡ Some files → Progress files l.before l.text.items l.run;
  recorded : IsRecorded l.run.kept;
  reads : OnlyReads (g.D.Store.files l.initial.store) (g.D.Store.files l.store) (g.D.Store.moment l.initial.store) (g.D.Store.moment l.store) (g.D.Store.left_since l.initial.store) (g.D.Store.left_since l.store);
  faults : g.D.Store.faults l.store ≡ g.D.Store.faults l.initial.store;
  origin : g.D.Store.origin l.store ≡ g.D.Store.origin l.initial.store;
}
