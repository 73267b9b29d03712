use Rattle.std.proofs.Common.{◌≡◌, ◌+◌, drop}
use Rattle.csv.specs.Writing.{text_written}
use Rattle.report_text.specs.Csvs.{records_after, IsReady}
use Rattle.report_text.proofs.Lines.{sum_of, Written}
use Rattle.report_text.proofs.csvs.put_rows.Given as goal

abbrev pub invariant-loop-row : goal.invariant-loop-row
invariant-loop-row g l = record { ready : IsReady l.writer; bytes : Written (text_written g.W.Write.contents l.initial.writer) (text_written g.W.Write.contents l.writer) (records_after l.procedures l.total l.up_to (drop l.row-index l.rows)) (records_after l.procedures l.total 0 l.rows); sum : l.up_to + sum_of (drop l.row-index l.rows) ≡ l.total }
