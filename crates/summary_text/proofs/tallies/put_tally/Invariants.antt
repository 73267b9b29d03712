use Rattle.std.proofs.Common.{◌≡◌, ◌++◌, drop}
use Rattle.summary_text.specs.Summaries.{tally_lines}
use Rattle.summary_text.proofs.tallies.put_tally.Given as goal

abbrev pub invariant-loop-row : goal.invariant-loop-row
invariant-loop-row l = l.out.items ++ tally_lines (drop l.row-index l.rows) ≡ l.initial.out.items ++ tally_lines l.rows
