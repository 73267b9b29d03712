use Rattle.std.proofs.Common.{◌≡◌, ◌++◌, map, drop}
use Rattle.trace_model.specs.Counting.{rows_text, known_row}
use Rattle.direct_counts.proofs.listings.put_known.Given as goal

abbrev pub invariant-loop-row : goal.invariant-loop-row
invariant-loop-row l = l.out.items ++ rows_text (map known_row (drop l.row-index l.rows)) ≡ l.initial.out.items ++ rows_text (map known_row l.rows)
