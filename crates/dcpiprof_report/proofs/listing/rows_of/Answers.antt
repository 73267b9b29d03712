use Rattle.std.proofs.Common.{◌∙◌}
use Rattle.dcpiprof_report.proofs.Listings.{adds_up, apart_sorted, in_order, listed_held, values_held}
use Rattle.dcpiprof_report.proofs.listing.rows_of.Goals as goal

pub returns-clause-labels : goal.returns-clause-labels
returns-clause-labels c = λ procedures all.
    let es = c.args.sums.entries in
    adds_up procedures es c.sort_unstable.new.self.items c.total_of-total.result (c.total_of-total.ensures ∙ values_held es) all (rw c.in_ok-rows.ensures.rows at c.sort_unstable.ensures.permutation)

pub returns-clause-order : goal.returns-clause-order
returns-clause-order c =
    let es = c.args.sums.entries in
    in_order es c.sort_unstable.new.self.items c.in_ok-rows.ensures.apart (rw c.in_ok-rows.ensures.rows at c.sort_unstable.ensures.permutation) c.sort_unstable.ensures.sorted

pub returns-clause-counts : goal.returns-clause-counts
returns-clause-counts c = λ label.
    let es = c.args.sums.entries in
    let moved = rw c.in_ok-rows.ensures.rows at c.sort_unstable.ensures.permutation in
    listed_held label es c.sort_unstable.new.self.items (apart_sorted es c.sort_unstable.new.self.items c.in_ok-rows.ensures.apart moved) moved
