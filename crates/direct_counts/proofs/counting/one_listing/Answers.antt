use Rattle.direct_counts.proofs.Rows.{one_list}
use Rattle.direct_counts.proofs.counting.one_listing.Goals as goal

pub returns : goal.returns
returns c = one_list
