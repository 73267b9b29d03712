-- The greatest seal is that of the latest generation, whose head was read, or is missing or not in its form.
use Rattle.std.proofs.Common.{arith, ◌≡◌, Some, sym, ap, ◌∙◌, subst}
use Rattle.std.proofs.lemmas.Result.{err_from_is_err_and}
use Rattle.store_io.specs.Listing.{Lists}
use Rattle.database_state.specs.Standing.{HaveHead}
use Rattle.epoch_store.specs.Seals.{greatest_seal}
use Rattle.epoch_store.proofs.LatestSeal.{latest, nothing_sealed, sealed_here, refused}
use Rattle.epoch_store.proofs.opening.open_database.Goals as goal

pub returns-then-g-eq0-clause-head : goal.returns-then-g-eq0-clause-head
returns-then-g-eq0-clause-head g c = λ files told.
    let lists : Lists (Some files) c.in_ok-names.names.items = subst (λ f. Lists f c.in_ok-names.names.items) told c.in_ok-names.ensures.names in
    let best : c.greatest_seal-g.result ≡ greatest_seal 0 c.in_ok-names.names.items = c.greatest_seal-g.ensures ∙ ap (greatest_seal 0) c.deref.ensures.value in
    subst (HaveHead files) (sym c.empty.ensures.head) (nothing_sealed files c.greatest_seal-g.result c.if-g-eq0.true (latest c.one_spelling.ensures.decimal files c.in_ok-names.names.items c.greatest_seal-g.result lists best))

pub returns-clause-head : goal.returns-clause-head
returns-clause-head g c = λ files told.
    let lists : Lists (Some files) c.in_ok-names.names.items = subst (λ f. Lists f c.in_ok-names.names.items) told c.in_ok-names.ensures.names in
    let best : c.greatest_seal-g.result ≡ greatest_seal 0 c.in_ok-names.names.items = c.greatest_seal-g.ensures ∙ ap (greatest_seal 0) c.deref.ensures.value in
    let is = latest c.one_spelling.ensures.decimal files c.in_ok-names.names.items c.greatest_seal-g.result lists best in
    subst (HaveHead files) (sym c.with_head.ensures.head) (sealed_here files c.greatest_seal-g.result c.in_ok-head.head is (c.in_ok-head.ensures.head files (c.in_ok-names.ensures.files ∙ told)) c.in_ok-head.ensures.is_head.0 c.in_ok-head.ensures.is_head.1)

pub returns-in_err-head-clause-head : goal.returns-in_err-head-clause-head
returns-in_err-head-clause-head g c = λ files told.
    let lists : Lists (Some files) c.in_ok-names.names.items = subst (λ f. Lists f c.in_ok-names.names.items) told c.in_ok-names.ensures.names in
    let best : c.greatest_seal-g.result ≡ greatest_seal 0 c.in_ok-names.names.items = c.greatest_seal-g.ensures ∙ ap (greatest_seal 0) c.deref.ensures.value in
    let is = latest c.one_spelling.ensures.decimal files c.in_ok-names.names.items c.greatest_seal-g.result lists best in
    let p = err_from_is_err_and c.from_residual-in_err-head.result c.from_residual-in_err-head.ensures.1 in
    rw (p.1, p.2) (refused files c.greatest_seal-g.result _ is (omega (arith, c.if-g-eq0.false)) (c.in_err-head.ensures.head files (c.in_ok-names.ensures.files ∙ told)))
