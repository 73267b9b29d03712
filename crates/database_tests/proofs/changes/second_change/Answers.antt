-- Each part of the change fits.
use Rattle.std.proofs.Common.{◌≡◌, ◌++◌, length, inl, ◌∙◌, ap}
use Rattle.epoch_store.specs.Databases.{head_of}
use Rattle.database_tests.proofs.changes.second_change.Goals as goal

pub returns : goal.returns
returns c =
    let h = head_of c.args.db.now in
    let images : c.image_count-images.result ≡ length (h.names ++ c.in_ok-names.names.items) = c.image_count-images.ensures ∙ ap (λ l. length (h.names ++ l)) c.deref.ensures.value in
    record {
      epoch = inl c.last_epoch-epoch.ensures;
      names = c.in_ok-names.ensures;
      known = rw images at c.in_ok-known.ensures.all;
      known_order = c.in_ok-known.ensures.rise;
      unknown = c.in_ok-unknown.ensures.all;
      unknown_order = c.in_ok-unknown.ensures.rise;
      segment = c.in_ok-segment.ensures.part;
      run = rw c.runs.ensures at c.in_ok-segment.ensures.run;
    }
