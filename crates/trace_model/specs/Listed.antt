-- `Counts` as rows.
use Rattle.std.specs.Prelude.{List}
use Rattle.trace_model.specs.declared.counts.Counts.{Counts}
use Rattle.trace_model.specs.Counting.{Row, rows_in_order}

-- the rows that counts list, in their order
abbrev pub rows_of : Counts → List Row
rows_of c = rows_in_order c.known.items c.unknown.items
