use Rattle.std.proofs.Common.{◌≡◌, ap, ◌∙◌}
use Rattle.std.proofs.lemmas.List.Sorted.{All-permutation}
use Rattle.trace_model.specs.Listed.{rows_of}
use Rattle.direct_counts.specs.Lists.{ListsTable}
use Rattle.direct_counts.specs.Sites.{IsRanked, rows_in}
use Rattle.direct_counts.proofs.Listing.{ok_then, sorted_rise, table_listed}
use Rattle.direct_counts.proofs.lists.listed.Goals as goal

pub split-requires-clause-ranked : goal.split-requires-clause-ranked
split-requires-clause-ranked c = rw c.deref.ensures.value (All-permutation (λ e. IsRanked c.args.names.now e.0) c.args.counts.now.entries c.in_ok-rows.rows.items c.in_ok-rows.ensures.whole c.requires.0)

pub split-requires-clause-rising : goal.split-requires-clause-rising
split-requires-clause-rising c = rw c.deref.ensures.value (sorted_rise c.args.names.now c.args.counts.now.entries c.in_ok-rows.rows.items c.requires c.in_ok-rows.ensures.apart c.in_ok-rows.ensures.whole c.in_ok-rows.ensures.sorted)

pub returns : goal.returns
returns c =
    let names = c.args.names.now in
    let rise = sorted_rise names c.args.counts.now.entries c.in_ok-rows.rows.items c.requires c.in_ok-rows.ensures.apart c.in_ok-rows.ensures.whole c.in_ok-rows.ensures.sorted in
    ok_then
    (λ listed. rows_of listed ≡ rows_in names c.deref.result.now)
    (λ listed. ListsTable names c.args.counts.now.entries (rows_of listed))
    c.split.result
    (λ listed is. table_listed names c.args.counts.now.entries c.in_ok-rows.rows.items (rows_of listed) c.in_ok-rows.ensures.whole rise (is ∙ ap (rows_in names) c.deref.ensures.value))
    c.split.ensures
