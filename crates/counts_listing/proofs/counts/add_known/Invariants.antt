use Rattle.std.proofs.Common.{◌≡◌, ◌++◌, map, drop}
use Rattle.trace_model.specs.Counting.{known_row}
use Rattle.counts_listing.specs.Sections.{known_rows}
use Rattle.counts_listing.proofs.counts.add_known.Given as goal

abbrev pub invariant-loop-row : goal.invariant-loop-row
invariant-loop-row l = map known_row l.known.items ++ known_rows l.section.epoch l.section.image.now l.section.event (drop l.row-index l.row-items) ≡ map known_row l.fn.known.items ++ known_rows l.section.epoch l.section.image.now l.section.event l.row-items
