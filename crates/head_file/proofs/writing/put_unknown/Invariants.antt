-- The lines so far, and those that are left.
use Rattle.std.proofs.Common.{◌≡◌, ◌++◌, drop}
use Rattle.std.specs.List.{flat_map}
use Rattle.database_state.specs.Heads.{unknown_line}
use Rattle.head_file.proofs.writing.put_unknown.Given as goal

abbrev pub invariant-loop-row : goal.invariant-loop-row
invariant-loop-row l = l.out.items ++ flat_map unknown_line (drop l.row-index l.rows) ≡ l.fn.out.items ++ flat_map unknown_line l.rows
