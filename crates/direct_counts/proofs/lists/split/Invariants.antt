use Rattle.std.proofs.Common.{◌≡◌, ◌++◌, drop}
use Rattle.direct_counts.specs.Lists.{knowns, rows_with, unknowns}
use Rattle.direct_counts.specs.Sites.{rows_in}
use Rattle.direct_counts.proofs.lists.split.Given as goal

abbrev pub invariant-loop-row : goal.invariant-loop-row
invariant-loop-row l = rows_with l.known.items l.unknown.items (rows_in l.names (drop l.row-index l.rows)) ≡ knowns (rows_in l.names l.rows) ++ unknowns (rows_in l.names l.rows)
