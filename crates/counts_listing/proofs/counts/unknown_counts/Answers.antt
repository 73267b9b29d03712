use Rattle.std.proofs.Common.{arith, ◌≡◌, ◌<◌, ◌≤◌, ◌++◌, List, [], map, length, drop, sym, ap, ◌∙◌, subst}
use Rattle.std.specs.Prelude.{slice_index_or}
use Rattle.std.specs.List.{AllByRecursion}
use Rattle.std.proofs.Math.ListN.{drop_of_length-le}
use Rattle.sample_key.specs.declared.events.Event.{Event}
use Rattle.trace_model.specs.Counting.{Row, Rises, unknown_row}
use Rattle.database_model.specs.declared.profiles.ProfileRow.{ProfileRow}
use Rattle.database_model.specs.Ranges.{AreRows}
use Rattle.database_state.specs.declared.rows.UnknownRow.{UnknownRow}
use Rattle.epoch_store.specs.Databases.{head_of}
use Rattle.dcpiprof_report.proofs.Taken.{here_is}
use Rattle.counts_listing.specs.Sections.{event_at, unknown_listed, unknown_rows}
use Rattle.counts_listing.proofs.Heads.{unknown_within}
use Rattle.counts_listing.proofs.Ordered.{unknown_rise}
use Rattle.counts_listing.proofs.Placed.{next_here, unknown_done, unknown_placed}
use Rattle.counts_listing.proofs.counts.unknown_counts.Goals as goal

no_row : UnknownRow
no_row = record { epoch = 0; event = 0; g = 0 }

pub loop-index-preserved : goal.loop-index-preserved
unfolding no_row
loop-index-preserved c =
    let rows = c.unknown_rows-row-items.result.now in
    let profiles = c.args.profiles.now in
    let i = c.loop-index.index in
    let row = slice_index_or rows i no_row in
    let profile = c.index-profiles-index.result in
    let old = map unknown_row c.loop-index.unknown.items in
    let within : i < length rows = omega arith in
    let also : i < length profiles = omega (arith, c.requires, ap length c.unknown_rows-row-items.ensures.list) in
    let is : map unknown_row c.add_unknown.new.unknown.items ≡ old ++ unknown_rows row.epoch (event_at row.event) profile =
    c.in_ok-add_unknown.ensures
    ∙ ap (λ (event : Event). old ++ unknown_rows row.epoch event c.rows-rows.result.now) c.event_of.ensures.event
    ∙ ap (λ (l : List ProfileRow). old ++ unknown_rows row.epoch (event_at row.event) l) c.rows-rows.ensures.list in
    let good : AreRows profile = subst AreRows c.rows-rows.ensures.list c.rows-rows.ensures.rising in
    record {
      listed = rw (← c.unknown_rows-row-items.ensures.list)
          (unknown_placed rows profiles row profile i old (map unknown_row c.add_unknown.new.unknown.items) (unknown_listed rows profiles) within also (here_is rows i no_row within) c.index-profiles-index.is is (rw (← c.unknown_rows-row-items.ensures.list) at c.loop-index.invariant.listed));
      good = λ rest. c.loop-index.invariant.good (subst (λ (l : List (List ProfileRow)). AllByRecursion AreRows l) (sym (next_here (λ l. l) profiles profile i also c.index-profiles-index.is)) (good, rest));
    }

pub returns-clause-rise : goal.returns-clause-rise
returns-clause-rise c =
    let head = head_of c.args.db.now in
    let rows = c.unknown_rows-row-items.result.now in
    let profiles = c.args.profiles.now in
    let past : length rows ≤ c.loop-index.index = omega arith in
    let none : drop c.loop-index.index profiles ≡ [] = drop_of_length-le profiles (omega (arith, c.requires, ap length c.unknown_rows-row-items.ensures.list)) in
    let good : AllByRecursion AreRows profiles = c.loop-index.invariant.good (subst (λ (l : List (List ProfileRow)). AllByRecursion AreRows l) (sym none) tt) in
    let whole : map unknown_row c.loop-index.unknown.items ≡ unknown_listed rows profiles = unknown_done rows profiles c.loop-index.index (map unknown_row c.loop-index.unknown.items) (unknown_listed rows profiles) past (rw (← c.unknown_rows-row-items.ensures.list) at c.loop-index.invariant.listed) in
    subst (λ (l : List Row). Rises l) (sym whole) (unknown_rise rows profiles c.unknown_rows-row-items.ensures.rising (unknown_within head.epoch head.generation rows c.unknown_rows-row-items.ensures.ranges) good)
