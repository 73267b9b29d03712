use Rattle.std.proofs.Common.{◌≡◌, ◌≤◌, ◌*◌, ◌^◌, take}
use Rattle.std.specs.Prelude.{sum_by}
use Rattle.summary_text.specs.Summaries.{taken_in}
use Rattle.summary_text.proofs.tallies.sums_of.Given as goal

abbrev pub invariant-loop-row : goal.invariant-loop-row
invariant-loop-row l = record {
  taken : l.taken ≡ sum_by taken_in (take l.row-index l.rows);
  known : l.known ≡ sum_by (λ row. row.attributed) (take l.row-index l.rows);
  unknown : l.unknown ≡ sum_by (λ row. row.unknown) (take l.row-index l.rows);
  lost : l.lost ≡ sum_by (λ row. row.lost) (take l.row-index l.rows);
  few_taken : l.taken ≤ l.row-index * 2 ^ 120;
  few_known : l.known ≤ l.row-index * 2 ^ 120;
  few_unknown : l.unknown ≤ l.row-index * 2 ^ 120;
  few_lost : l.lost ≤ l.row-index * 2 ^ 120;
}
