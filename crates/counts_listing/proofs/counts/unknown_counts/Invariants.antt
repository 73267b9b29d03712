use Rattle.std.proofs.Common.{◌≡◌, ◌++◌, map, drop}
use Rattle.std.specs.List.{AllByRecursion}
use Rattle.trace_model.specs.Counting.{unknown_row}
use Rattle.database_model.specs.Ranges.{AreRows}
use Rattle.epoch_store.specs.Databases.{head_of}
use Rattle.counts_listing.specs.Sections.{unknown_listed}
use Rattle.counts_listing.proofs.counts.unknown_counts.Given as goal

abbrev pub invariant-loop-index : goal.invariant-loop-index
invariant-loop-index l = record {
  listed : map unknown_row l.unknown.items ++ unknown_listed (drop l.index (head_of l.db).unknown) (drop l.index l.profiles) ≡ unknown_listed (head_of l.db).unknown l.profiles;
  good : AllByRecursion AreRows (drop l.index l.profiles) → AllByRecursion AreRows l.profiles;
}
