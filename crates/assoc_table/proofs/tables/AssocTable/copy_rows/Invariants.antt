use Rattle.std.proofs.Common.{◌≡◌, ◌≤◌, ◌++◌, take, vec_capacity}
use Rattle.std.specs.List.{flat_map}
use Rattle.assoc_table.proofs.tables.AssocTable.copy_rows.Given as goal

abbrev pub invariant-loop-row : goal.invariant-loop-row
invariant-loop-row l =
    (l.out.items ≡ l.initial.out.items ++ flat_map (λ row. row) (take l.row-index l.row-items))
    × (vec_capacity l.initial.out ≤ vec_capacity l.out)
