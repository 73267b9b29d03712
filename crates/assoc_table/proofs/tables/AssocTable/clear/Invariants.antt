use Rattle.std.proofs.Common.{◌≡◌, replicate, take, []}
use Rattle.assoc_table.proofs.tables.AssocTable.clear.Given as goal

abbrev pub invariant-loop-row : goal.invariant-loop-row
invariant-loop-row l = take l.row-index l.row-items ≡ replicate l.row-index []
