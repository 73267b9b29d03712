-- Both parts of the law come from one walk along the segments.
use Rattle.run_listing.proofs.InOrder.{segments_in_order}
use Rattle.run_listing.proofs.laws.runs_stand_in_order.Goals as goal

pub returns-clause-readable : goal.returns-clause-readable
returns-clause-readable c = λ segments good. (segments_in_order segments good).0

pub returns-clause-runs : goal.returns-clause-runs
returns-clause-runs c = λ segments good. (segments_in_order segments good).1
