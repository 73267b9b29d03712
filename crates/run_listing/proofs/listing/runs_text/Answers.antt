-- One more segment: it is not read, not added, or joined and printed; behind the last one the text is whole.
use Rattle.std.proofs.Common.{arith, ◌≡◌, ℕ, ◌<◌, List, None, ◌∙◌, subst}
use Rattle.std.proofs.lemmas.Result.{err_from_is_err_and}
use Rattle.store_io.proofs.Chains.{reads_then}
use Rattle.database_state.specs.Standing.{segments_to}
use Rattle.epoch_store.specs.Databases.{head_of}
use Rattle.run_listing.specs.Orders.{first_bad}
use Rattle.run_listing.specs.Texts.{listing_of}
use Rattle.run_listing.proofs.Progress.{goes_on_by, lists_all}
use Rattle.run_listing.proofs.Stops.{unread, not_added}
use Rattle.run_listing.proofs.listing.runs_text.Goals as goal

pub returns-in_err-part-clause-listed : goal.returns-in_err-part-clause-listed
returns-in_err-part-clause-listed g c = λ files told.
    let p = err_from_is_err_and c.from_residual.result c.from_residual.ensures.1 in
    let more : c.loop-before.before < (head_of c.args.db.now).generation = omega arith in
    rw (p.1, p.2) (unread files c.loop-before.before (head_of c.args.db.now).generation c.loop-before.text.items c.loop-before.run _ more (c.loop-before.invariant.told files told)
    (c.in_err-part.ensures.segment files (c.loop-before.invariant.reads.files ∙ told)))

pub returns-in_err-add_part-clause-listed : goal.returns-in_err-add_part-clause-listed
returns-in_err-add_part-clause-listed g c = λ files told.
    let p = err_from_is_err_and c.from_residual-in_err-add_part.result c.from_residual-in_err-add_part.ensures.1 in
    let more : c.loop-before.before < (head_of c.args.db.now).generation = omega arith in
    rw (p.1, p.2) (not_added files c.loop-before.before (head_of c.args.db.now).generation c.loop-before.text.items c.loop-before.run c.in_ok-part.part _ more (c.loop-before.invariant.told files told)
    (c.in_ok-part.ensures.segment files (c.loop-before.invariant.reads.files ∙ told)) c.in_err-add_part.ensures.order)

pub loop-before-preserved : goal.loop-before-preserved
loop-before-preserved g c = record {
  told = λ files told. rw (c.in_ok-add_part.ensures.text, c.in_ok-add_part.ensures.run)
      (goes_on_by files c.loop-before.before c.loop-before.text.items c.loop-before.run c.in_ok-part.part (c.loop-before.invariant.told files told)
      (c.in_ok-part.ensures.segment files (c.loop-before.invariant.reads.files ∙ told)) c.in_ok-add_part.ensures.order);
  recorded = c.in_ok-add_part.ensures.recorded;
  reads = reads_then c.loop-before.invariant.reads c.in_ok-part.ensures.reads;
  faults = c.in_ok-part.ensures.cause ∙ c.loop-before.invariant.faults;
  origin = c.in_ok-part.ensures.origin ∙ c.loop-before.invariant.origin;
}

pub returns-clause-listed : goal.returns-clause-listed
returns-clause-listed g c = λ files told.
    let whole : c.loop-before.before ≡ (head_of c.args.db.now).generation = omega arith in
    let all = lists_all files c.loop-before.before c.loop-before.text.items c.loop-before.run (c.loop-before.invariant.told files told) in
    subst (λ (n : ℕ). (first_bad (segments_to n files) ≡ None) × (c.put_run.new.out.items ≡ listing_of (segments_to n files))) whole (all.0, ◌∙◌ {A = List ℕ} c.in_ok-put_run.ensures all.1)
