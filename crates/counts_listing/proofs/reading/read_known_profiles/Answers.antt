use Rattle.std.proofs.Common.{arith, ◌≡◌, ℕ, ◌+◌, ◌<◌, List, Some, length, sym, ap, ◌∙◌, subst}
use Rattle.std.specs.Prelude.{slice_index_or}
use Rattle.std.proofs.lemmas.List.{length_push}
use Rattle.std.proofs.lemmas.Result.{err_from_is_err_and}
use Rattle.store_io.proofs.Chains.{reads_then}
use Rattle.sample_key.specs.Events.{code_of}
use Rattle.database_state.specs.declared.rows.KnownRow.{KnownRow}
use Rattle.database_state.specs.Rows.{known_row, known_ref}
use Rattle.epoch_store.specs.Databases.{head_of}
use Rattle.database_state.proofs.RowOrders.{known_order}
use Rattle.dcpiprof_report.proofs.Taken.{found_here, here_is, read_ok, stopped}
use Rattle.counts_listing.proofs.FilesRead.{one_read, read_stopped}
use Rattle.counts_listing.proofs.reading.read_known_profiles.Goals as goal

no_row : KnownRow
no_row = record { epoch = 0; image = 0; event = 0; g = 0 }

pub returns-in_err-profile-clause-told : goal.returns-in_err-profile-clause-told
unfolding no_row
returns-in_err-profile-clause-told g c = λ files told.
    let items = c.known_rows-rows.result.now in
    let i = c.loop-row.row-index in
    let row = slice_index_or items i no_row in
    let within : i < length items = omega arith in
    let here = here_is items i no_row within in
    let all = (head_of c.args.db.now).known in
    let listed : known_row items row.epoch row.image row.event ≡ Some row = found_here known_order items row i c.known_rows-rows.ensures.rising within here in
    let place : known_row all row.epoch row.image row.event ≡ Some row = subst (λ (l : List KnownRow). known_row l row.epoch row.image row.event ≡ Some row) c.known_rows-rows.ensures.list listed in
    let found : known_row all row.epoch row.image (code_of c.event_of-event.result) ≡ Some row = subst (λ (v : ℕ). known_row all row.epoch row.image v ≡ Some row) (sym c.event_of-event.ensures.coded) place in
    let p = err_from_is_err_and c.from_residual-in_err-profile.result c.from_residual-in_err-profile.ensures.1 in
    rw (p.1, p.2, ← c.known_rows-rows.ensures.list)
    (read_stopped files known_ref items row i c.loop-row.profiles.items _ within here (c.loop-row.invariant.told files told)
    (stopped known_ref files (known_row all row.epoch row.image (code_of c.event_of-event.result)) row _ found (c.in_err-profile.ensures.profile files (c.loop-row.invariant.reads.files ∙ told))))

pub loop-row-preserved : goal.loop-row-preserved
unfolding no_row
loop-row-preserved g c =
    let items = c.known_rows-rows.result.now in
    let i = c.loop-row.row-index in
    let row = slice_index_or items i no_row in
    let within : i < length items = omega arith in
    let here = here_is items i no_row within in
    let all = (head_of c.args.db.now).known in
    let listed : known_row items row.epoch row.image row.event ≡ Some row = found_here known_order items row i c.known_rows-rows.ensures.rising within here in
    let place : known_row all row.epoch row.image row.event ≡ Some row = subst (λ (l : List KnownRow). known_row l row.epoch row.image row.event ≡ Some row) c.known_rows-rows.ensures.list listed in
    let found : known_row all row.epoch row.image (code_of c.event_of-event.result) ≡ Some row = subst (λ (v : ℕ). known_row all row.epoch row.image v ≡ Some row) (sym c.event_of-event.ensures.coded) place in
    record {
      told = λ files told.
          let read = read_ok known_ref files (known_row all row.epoch row.image (code_of c.event_of-event.result)) row c.in_ok-profile.profile found (c.in_ok-profile.ensures.profile files (c.loop-row.invariant.reads.files ∙ told)) in
          rw c.in_ok-push.ensures.items (one_read files known_ref items row i c.loop-row.profiles.items c.in_ok-profile.profile within here (c.loop-row.invariant.told files told) read.0 read.1);
      many = ap length c.in_ok-push.ensures.items ∙ length_push c.loop-row.profiles.items c.in_ok-profile.profile ∙ ap (λ n. n + 1) c.loop-row.invariant.many;
      reads = reads_then c.loop-row.invariant.reads c.in_ok-profile.ensures.reads;
      faults = c.in_ok-profile.ensures.cause ∙ c.loop-row.invariant.faults;
      origin = c.in_ok-profile.ensures.origin ∙ c.loop-row.invariant.origin;
    }
