use Rattle.std.proofs.Common.{◌≡◌, ◌+◌, ◌*◌, ◌≤◌, Some}
use Rattle.std.specs.Prelude.{is_some}
use Rattle.std.specs.Option.{option_copied}
use Rattle.store_io.specs.Files.{Files}
use Rattle.store_io.specs.Crashes.{OnlyReads}
use Rattle.sample_key.specs.Events.{code_of}
use Rattle.database_state.specs.Rows.{known_ref}
use Rattle.epoch_store.specs.Databases.{head_of}
use Rattle.dcpiprof_report.specs.Reading.{is_known_wanted}
use Rattle.dcpiprof_report.specs.Sums.{AreSums, held_in_all, known_count, most_counted}
use Rattle.dcpiprof_report.proofs.Taken.{Told}
use Rattle.dcpiprof_report.proofs.queries.Query.add_known.Given as goal

abbrev pub invariant-loop-row : goal.invariant-loop-row
invariant-loop-row g l = record {
  told : (files : Files) → g.D.Store.files l.initial.store ≡ Some files → Told files known_ref (is_known_wanted l.self.epochs (code_of l.self.event)) (known_count files (head_of l.self.db.now).names (option_copied l.self.symbols) l.self.epochs (code_of l.self.event)) l.row-items l.row-index l.initial.sums.entries l.sums.entries;
  room : held_in_all l.sums.entries ≤ held_in_all l.initial.sums.entries + l.row-index * most_counted;
  labels : AreSums (is_some l.self.symbols) l.initial.sums.entries → AreSums (is_some l.self.symbols) l.sums.entries;
  reads : OnlyReads (g.D.Store.files l.initial.store) (g.D.Store.files l.store) (g.D.Store.moment l.initial.store) (g.D.Store.moment l.store) (g.D.Store.left_since l.initial.store) (g.D.Store.left_since l.store);
  faults : g.D.Store.faults l.store ≡ g.D.Store.faults l.initial.store;
  origin : g.D.Store.origin l.store ≡ g.D.Store.origin l.initial.store;
}
