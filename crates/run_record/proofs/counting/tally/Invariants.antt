use Rattle.std.proofs.Common.{◌≡◌}
use Rattle.database_model.specs.Tally.{rows_of}
use Rattle.run_record.proofs.counting.tally.Given as goal

abbrev pub invariant-loop-cpu : goal.invariant-loop-cpu
invariant-loop-cpu l = l.rows.items ≡ rows_of l.r l.cpu
