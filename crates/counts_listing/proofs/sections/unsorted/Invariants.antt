use Rattle.std.proofs.Common.{◌≡◌, ◌++◌, map, drop}
use Rattle.std.specs.List.{AllByRecursion}
use Rattle.database_model.specs.Ranges.{AreRows}
use Rattle.counts_listing.specs.Sections.{section_shown, sections_at}
use Rattle.counts_listing.proofs.sections.unsorted.Given as goal

abbrev pub invariant-loop-index : goal.invariant-loop-index
invariant-loop-index l = record {
  listed : map section_shown l.sections.items ++ sections_at l.names (drop l.index l.rows) (drop l.index l.profiles) ≡ sections_at l.names l.rows l.profiles;
  rows : AllByRecursion (λ section. AreRows section.rows) (map section_shown l.sections.items);
}
