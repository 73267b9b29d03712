use Rattle.std.proofs.Common.{◌≡◌, ◌+◌, Bool, cond, drop}
use Rattle.std.specs.Prelude.{is_some}
use Rattle.std.specs.Option.{option_copied}
use Rattle.report_text.specs.declared.labels.Label.{Label}
use Rattle.dcpiprof_report.specs.Counting.{counted_where, label_at, titled}
use Rattle.dcpiprof_report.specs.Sums.{AreSums, KeepsTies, held}
use Rattle.dcpiprof_report.proofs.sums.add_rows.Given as goal

abbrev pub invariant-loop-row : goal.invariant-loop-row
invariant-loop-row l = record {
  counts : (test : Label → Bool) → KeepsTies test → held test l.sums.entries + cond (test (titled (option_copied l.symbols) l.image (option_copied l.run.name))) l.run.count 0 + counted_where test (label_at (option_copied l.symbols) l.image) (drop l.row-index l.rows)
      ≡ held test l.initial.sums.entries + counted_where test (label_at (option_copied l.symbols) l.image) l.rows;
  labels : AreSums (is_some l.symbols) l.initial.sums.entries → AreSums (is_some l.symbols) l.sums.entries;
}
