-- One part more is renewed, or stops.
use Rattle.std.proofs.Common.{rules, ◌≡◌, ◌++◌, [], ◌∷◌, ◌∙◌, map, subst}
use Rattle.std.specs.List.{AllByRecursion}
use Rattle.std.specs.Map.{keys_of}
use Rattle.std.proofs.lemmas.Result.{err_from_is_err_and}
use Rattle.store_io.proofs.Chains.{reads_then}
use Rattle.epoch_store.specs.Databases.{head_of}
use Rattle.profile_merge.specs.declared.owners.Owner.{Owner}
use Rattle.profile_merge.specs.Renewing.{Parts, IsGathered}
use Rattle.profile_merge.proofs.RenewSteps.{RenewedSoFar, one_renewed, all_renewed, stopped_at, owners_more}
use Rattle.profile_merge.proofs.growing.renew_all.Goals as goal

pub returns-in_err-one-clause-renewed : goal.returns-in_err-one-clause-renewed
returns-in_err-one-clause-renewed g c =
    let part : Owner × Owner = (c.in-Some.owner.now, c.in-Some.from.now) in
    let iter : c.loop-owner.owner-iterator ≡ part ∷ c.next.new.self = search rules in
    let p = err_from_is_err_and c.from_residual-in_err-one.result c.from_residual-in_err-one.ensures.1 in
    rw (p.1, p.2) (λ files told.
    let so = subst (λ (l : Parts). RenewedSoFar c.args.gathered.now (head_of c.args.db.now) files c.args.parts.now.entries l c.loop-owner.all.items) iter (c.loop-owner.invariant.2 files told) in
    stopped_at c.args.gathered.now (head_of c.args.db.now) files c.args.parts.now.entries part c.next.new.self c.loop-owner.all.items c.in_err-one.field-0.0 (c.in_err-one.ensures.renewed files (c.loop-owner.invariant.3.files ∙ told)) so)

pub loop-owner-preserved : goal.loop-owner-preserved
loop-owner-preserved g c =
    let part : Owner × Owner = (c.in-Some.owner.now, c.in-Some.from.now) in
    let one = c.in_ok-one.one in
    let iter : c.loop-owner.owner-iterator ≡ part ∷ c.next.new.self = search rules in
    let items : c.push.new.self.items ≡ c.loop-owner.all.items ++ one ∷ [] = c.in_ok-push.ensures.items in
    let owners = subst (λ (l : Parts). map (λ r. r.owner) c.loop-owner.all.items ++ keys_of l ≡ keys_of c.args.parts.now.entries) iter c.loop-owner.invariant.0 in
    let gathered = subst (λ (l : Parts). AllByRecursion (λ p. IsGathered c.args.gathered.now p.1) l) iter c.loop-owner.invariant.1 in
    rw items (
      owners_more c.loop-owner.all.items one c.in-Some.owner.now (keys_of c.next.new.self) (keys_of c.args.parts.now.entries) c.in_ok-one.ensures.owner owners,
      gathered.1,
      λ files told.
          let so = subst (λ (l : Parts). RenewedSoFar c.args.gathered.now (head_of c.args.db.now) files c.args.parts.now.entries l c.loop-owner.all.items) iter (c.loop-owner.invariant.2 files told) in
          one_renewed c.args.gathered.now (head_of c.args.db.now) files c.args.parts.now.entries part c.next.new.self c.loop-owner.all.items one c.in_ok-one.ensures.owner (c.in_ok-one.ensures.renewed files (c.loop-owner.invariant.3.files ∙ told)) so,
      reads_then c.loop-owner.invariant.3 c.in_ok-one.ensures.reads,
      c.in_ok-one.ensures.cause ∙ c.loop-owner.invariant.4,
      c.in_ok-one.ensures.origin ∙ c.loop-owner.invariant.5,
    )

pub returns-clause-renewed : goal.returns-clause-renewed
returns-clause-renewed g c = λ files told.
    let done : c.loop-owner.owner-iterator ≡ [] = search rules in
    all_renewed c.args.gathered.now (head_of c.args.db.now) files c.args.parts.now.entries c.loop-owner.all.items (subst (λ (l : Parts). RenewedSoFar c.args.gathered.now (head_of c.args.db.now) files c.args.parts.now.entries l c.loop-owner.all.items) done (c.loop-owner.invariant.2 files told))
