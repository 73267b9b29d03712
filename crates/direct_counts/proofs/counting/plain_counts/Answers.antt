use Rattle.trace_model.specs.Counting.{AreCountsOf, spots_in}
use Rattle.trace_model.specs.Listed.{rows_of}
use Rattle.trace_model.specs.Traces.{recording_of}
use Rattle.direct_counts.specs.Lists.{ListsTable}
use Rattle.direct_counts.proofs.Listing.{ok_then}
use Rattle.direct_counts.proofs.counting.plain_counts.Goals as goal

pub returns : goal.returns
returns c = ok_then
    (λ listed. ListsTable c.deref-2.result.now c.in_ok-counts.counts.entries (rows_of listed))
    (λ counts. AreCountsOf (rows_of counts) (spots_in (recording_of c.args.trace.now) 0))
    c.listed.result
    (λ counts lists. lists (spots_in (recording_of c.args.trace.now) 0) (rw c.deref-2.ensures.value c.in_ok-counts.ensures))
    c.listed.ensures
