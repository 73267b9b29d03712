use Rattle.std.proofs.Common.{◌≡◌, ◌+◌, ◌++◌, drop}
use Rattle.report_text.specs.Texts.{lines_after}
use Rattle.report_text.proofs.Lines.{sum_of}
use Rattle.report_text.proofs.texts.put_lines.Given as goal

abbrev pub invariant-loop-row : goal.invariant-loop-row
invariant-loop-row l = record { lines : l.out.items ++ lines_after l.total l.up_to (drop l.row-index l.rows) ≡ l.initial.out.items ++ lines_after l.total 0 l.rows; sum : l.up_to + sum_of (drop l.row-index l.rows) ≡ l.total }
