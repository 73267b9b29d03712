-- The names of the rows so far came to the set.
use Rattle.std.proofs.Common.{map, take}
use Rattle.store_io.specs.FileNames.{file_name}
use Rattle.store_tidy.specs.Sets.{Gains}
use Rattle.store_tidy.proofs.used.put_rows.Given as goal

abbrev pub invariant-loop-row : goal.invariant-loop-row
invariant-loop-row g l = Gains (map (λ r. file_name (g.R.Placed.file r)) (take l.row-index l.rows)) l.initial.used.keys l.used.keys
