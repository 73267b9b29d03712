use Rattle.std.proofs.Common.{◌++◌, map, sym, ◌∙◌}
use Rattle.std.proofs.lemmas.List.Sums.{sum_by-append}
use Rattle.trace_model.specs.Counting.{Rises, known_row, unknown_row}
use Rattle.direct_counts.specs.Sites.{counted_at}
use Rattle.direct_counts.proofs.Rows.{total_listed}
use Rattle.counts_listing.proofs.Placed.{rises_both}
use Rattle.counts_listing.proofs.Totals.{added}
use Rattle.counts_listing.proofs.listing.listed.Goals as goal

pub invariant_of-result : goal.invariant_of-result
invariant_of-result c = record { rise = rises_both c.in_ok-known.known.items c.in_ok-unknown.unknown.items c.in_ok-known.ensures.rise c.in_ok-unknown.ensures.rise }

pub returns : goal.returns
returns c = λ spot.
    let known = map known_row c.in_ok-known.known.items in
    let unknown = map unknown_row c.in_ok-unknown.unknown.items in
    let rise : Rises (known ++ unknown) = rises_both c.in_ok-known.known.items c.in_ok-unknown.unknown.items c.in_ok-known.ensures.rise c.in_ok-unknown.ensures.rise in
    sym (total_listed spot (known ++ unknown) rise)
    ∙ sum_by-append (counted_at spot) known unknown
    ∙ added (c.in_ok-known.ensures.totals spot) (c.in_ok-unknown.ensures.totals spot)
