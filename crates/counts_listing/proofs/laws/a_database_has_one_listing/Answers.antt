use Rattle.direct_counts.proofs.Rows.{same_rows}
use Rattle.std.proofs.Common.{sym, ◌∙◌}
use Rattle.counts_listing.proofs.laws.a_database_has_one_listing.Goals as goal

pub returns : goal.returns
returns c = λ db first second one other. same_rows first second one.rise other.rise (λ spot. one.counts spot ∙ sym (other.counts spot))
