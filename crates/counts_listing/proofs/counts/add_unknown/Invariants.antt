use Rattle.std.proofs.Common.{◌≡◌, ◌++◌, map, drop}
use Rattle.trace_model.specs.Counting.{unknown_row}
use Rattle.counts_listing.specs.Sections.{unknown_rows}
use Rattle.counts_listing.proofs.counts.add_unknown.Given as goal

abbrev pub invariant-loop-row : goal.invariant-loop-row
invariant-loop-row l = map unknown_row l.unknown.items ++ unknown_rows l.epoch l.event (drop l.row-index l.rows) ≡ map unknown_row l.fn.unknown.items ++ unknown_rows l.epoch l.event l.rows
