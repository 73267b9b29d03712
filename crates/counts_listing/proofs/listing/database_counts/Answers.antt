use Rattle.std.proofs.Common.{map, ◌∙◌}
use Rattle.std.proofs.lemmas.Result.{err_from_is_err_and}
use Rattle.trace_model.specs.Listed.{rows_of}
use Rattle.database_state.specs.Rows.{known_ref, unknown_ref}
use Rattle.epoch_store.specs.Databases.{head_of}
use Rattle.dcpiprof_report.specs.Reading.{first_bad}
use Rattle.dcpiprof_report.proofs.Taken.{stopped_on, first_of_both, good_of_both}
use Rattle.counts_listing.specs.Counting.{all_files}
use Rattle.counts_listing.proofs.Heads.{sound}
use Rattle.counts_listing.proofs.Totals.{are_counts}
use Rattle.counts_listing.proofs.listing.database_counts.Goals as goal

pub returns-in_err-known-clause-listed : goal.returns-in_err-known-clause-listed
returns-in_err-known-clause-listed g c = λ files told have.
    let head = head_of c.args.db.now in
    let known = map known_ref head.known in
    let unknown = map unknown_ref head.unknown in
    let p = err_from_is_err_and c.from_residual.result c.from_residual.ensures.1 in
    rw (p.1, p.2) (stopped_on (first_bad files known) (first_bad files (all_files head)) _ (λ file is. first_of_both files known unknown file is) (c.in_err-known.ensures.told files told))

pub returns-in_err-unknown-clause-listed : goal.returns-in_err-unknown-clause-listed
returns-in_err-unknown-clause-listed g c = λ files told have.
    let head = head_of c.args.db.now in
    let known = map known_ref head.known in
    let unknown = map unknown_ref head.unknown in
    let first = c.in_ok-known.ensures.told files told in
    let p = err_from_is_err_and c.from_residual-in_err-unknown.result c.from_residual-in_err-unknown.ensures.1 in
    rw (p.1, p.2) (stopped_on (first_bad files unknown) (first_bad files (all_files head)) _ (λ file is. good_of_both files known unknown first.0 ∙ is) (c.in_err-unknown.ensures.told files (c.in_ok-known.ensures.reads.files ∙ told)))

pub returns-clause-listed : goal.returns-clause-listed
returns-clause-listed g c = λ files told have.
    let head = head_of c.args.db.now in
    let known = map known_ref head.known in
    let unknown = map unknown_ref head.unknown in
    let first = c.in_ok-known.ensures.told files told in
    let second = c.in_ok-unknown.ensures.told files (c.in_ok-known.ensures.reads.files ∙ told) in
    let counts = are_counts files head (sound files head have c.args.db.now.range) (rows_of c.in_ok-counts.counts) c.deref.result.now c.deref-2.result.now c.in_ok-counts.counts.rise c.in_ok-counts.ensures in
    (good_of_both files known unknown first.0 ∙ second.0, counts (c.deref.ensures.value ∙ first.1) (c.deref-2.ensures.value ∙ second.1))
