-- Each part of the change fits.
use Rattle.std.proofs.Common.{◌≡◌, List, ◌++◌, length, map, ◌∙◌, ap}
use Rattle.std.specs.List.{list_all}
use Rattle.database_state.specs.Rows.{is_rising, unknown_before}
use Rattle.database_state.specs.Updates.{UnknownUpdate, is_unknown_update, unknown_row_of}
use Rattle.epoch_store.specs.Databases.{head_of}
use Rattle.database_tests.proofs.changes.first_change.Goals as goal

pub returns : goal.returns
returns c =
    let h = head_of c.args.db.now in
    let images : c.image_count-images.result ≡ length (h.names ++ c.in_ok-names.names.items) = c.image_count-images.ensures ∙ ap (λ l. length (h.names ++ l)) c.deref.ensures.value in
    record {
      epoch = rw c.last_epoch.ensures at c.in_ok-epoch.ensures;
      names = rw c.catalog.ensures at c.in_ok-names.ensures;
      known = rw images at c.in_ok-known.ensures.all;
      known_order = c.in_ok-known.ensures.rise;
      unknown = ap (list_all (is_unknown_update c.in_ok-epoch.epoch)) c.new.ensures.items;
      unknown_order = ap (λ (l : List UnknownUpdate). is_rising unknown_before (map (unknown_row_of 0) l)) c.new.ensures.items;
      segment = c.in_ok-segment.ensures.part;
      run = rw c.runs.ensures at c.in_ok-segment.ensures.run;
    }
