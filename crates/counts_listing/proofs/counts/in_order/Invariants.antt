use Rattle.std.proofs.Common.{◌≡◌, ◌++◌, map, drop}
use Rattle.std.specs.List.{flat_map}
use Rattle.trace_model.specs.Counting.{known_row}
use Rattle.counts_listing.specs.Sections.{section_shown, section_rows}
use Rattle.counts_listing.proofs.counts.in_order.Given as goal

abbrev pub invariant-loop-section : goal.invariant-loop-section
invariant-loop-section l = map known_row l.known.items ++ flat_map section_rows (map section_shown (drop l.section-index l.sections)) ≡ flat_map section_rows (map section_shown l.sections)
