-- Each exit has the entries so far.
use Rattle.std.proofs.Common.{rules, arith, ◌≡◌, ◌+◌, [], ◌∷◌, ◌++◌, List, ◌∙◌, sym, ap, subst, take}
use Rattle.std.specs.Prelude.{is_some}
use Rattle.std.proofs.lemmas.List.{take_more, take_all}
use Rattle.sample_key.specs.Counted.{Counted}
use Rattle.load_map.specs.Maps.{Finds}
use Rattle.profile_merge.specs.Sums.{AddsEntry}
use Rattle.profile_merge.proofs.Drains.{alike_then, adds_nothing}
use Rattle.profile_merge.proofs.SoFar.{SoFar, one_more, same_so_far, refused_at, gathered_all, images_so_far}
use Rattle.profile_merge.proofs.Counting.{always_err}
use Rattle.profile_merge.proofs.gathering.gather.Goals as goal

pub returns-in_err-known-clause-refused : goal.returns-in_err-known-clause-refused
returns-in_err-known-clause-refused c = always_err c.from_residual.result (0, λ images records at drains stands gathers apart within. alike_then (gathers apart within) (adds_nothing images records drains at c.args.epoch c.args.batch.now))

pub loop-entry-preserved : goal.loop-entry-preserved
loop-entry-preserved c =
    let items = c.deref-entry-items.result.now in
    let i = c.loop-entry.entry-index in
    let x = c.entry-item.result in
    let more : take (i + 1) items ≡ take i items ++ x ∷ [] = take_more items i x c.loop-entry-test.true ∙ ap (λ (y : Counted). take i items ++ y ∷ []) (sym c.entry-item.is) in
    let flag : c.push.new.self.items ≡ c.loop-entry.known.items ++ is_some c.place-place.result ∷ [] = search rules in
    let finds : Finds c.args.mappings.now x.key.pid x.key.pc c.place-place.result = search rules in
    let adds : AddsEntry c.args.epoch c.place-place.result x c.loop-entry.into c.add.new.self = search rules in
    rw (more, flag) (one_more c.args.mappings.now c.args.epoch (take i items) x c.place-place.result c.loop-entry.known.items c.args.into.now c.loop-entry.into c.add.new.self finds adds c.loop-entry.invariant)

pub returns-in_err-push-clause-refused : goal.returns-in_err-push-clause-refused
returns-in_err-push-clause-refused c =
    let same : c.deref-entry-items.result.now ≡ c.args.batch.now.entries = search rules in
    let so = subst (λ (l : List Counted). SoFar c.args.mappings.now c.args.epoch (take c.loop-entry.entry-index l) c.loop-entry.known.items c.args.into.now c.loop-entry.into) same c.loop-entry.invariant in
    always_err c.from_residual-in_err-push.result (c.loop-entry.entry-index, refused_at c.args.mappings.now c.args.epoch c.args.batch.now c.loop-entry.entry-index c.loop-entry.known.items c.args.into.now c.loop-entry.into so)

pub returns-in_err-push-clause-images : goal.returns-in_err-push-clause-images
returns-in_err-push-clause-images c = images_so_far c.args.mappings.now c.args.epoch _ c.loop-entry.known.items c.args.into.now c.loop-entry.into c.loop-entry.invariant

pub returns-in_err-add-clause-refused : goal.returns-in_err-add-clause-refused
returns-in_err-add-clause-refused c =
    let same : c.deref-entry-items.result.now ≡ c.args.batch.now.entries = search rules in
    let so = subst (λ (l : List Counted). SoFar c.args.mappings.now c.args.epoch (take c.loop-entry.entry-index l) c.loop-entry.known.items c.args.into.now c.loop-entry.into) same c.loop-entry.invariant in
    let after = same_so_far c.args.mappings.now c.args.epoch _ c.loop-entry.known.items c.args.into.now c.loop-entry.into c.add.new.self c.in_err-add.ensures.refused so in
    always_err c.from_residual-in_err-add.result (c.loop-entry.entry-index, refused_at c.args.mappings.now c.args.epoch c.args.batch.now c.loop-entry.entry-index c.loop-entry.known.items c.args.into.now c.add.new.self after)

pub returns-in_err-add-clause-images : goal.returns-in_err-add-clause-images
returns-in_err-add-clause-images c =
    let after = same_so_far c.args.mappings.now c.args.epoch _ c.loop-entry.known.items c.args.into.now c.loop-entry.into c.add.new.self c.in_err-add.ensures.refused c.loop-entry.invariant in
    images_so_far c.args.mappings.now c.args.epoch _ c.loop-entry.known.items c.args.into.now c.add.new.self after

pub returns-in_err-add-clause-epochs : goal.returns-in_err-add-clause-epochs
returns-in_err-add-clause-epochs c =
    let after = same_so_far c.args.mappings.now c.args.epoch _ c.loop-entry.known.items c.args.into.now c.loop-entry.into c.add.new.self c.in_err-add.ensures.refused c.loop-entry.invariant in
    after.epochs

pub returns-clause-known : goal.returns-clause-known
returns-clause-known c =
    let same : c.deref-entry-items.result.now ≡ c.args.batch.now.entries = search rules in
    let all : take c.loop-entry.entry-index c.deref-entry-items.result.now ≡ c.args.batch.now.entries = take_all c.loop-entry.entry-index c.deref-entry-items.result.now (omega (arith, c.loop-entry-test.false)) ∙ same in
    (subst (λ (l : List Counted). SoFar c.args.mappings.now c.args.epoch l c.loop-entry.known.items c.args.into.now c.loop-entry.into) all c.loop-entry.invariant).flags

pub returns-clause-gathered : goal.returns-clause-gathered
returns-clause-gathered c =
    let same : c.deref-entry-items.result.now ≡ c.args.batch.now.entries = search rules in
    let all : take c.loop-entry.entry-index c.deref-entry-items.result.now ≡ c.args.batch.now.entries = take_all c.loop-entry.entry-index c.deref-entry-items.result.now (omega (arith, c.loop-entry-test.false)) ∙ same in
    gathered_all c.args.mappings.now c.args.epoch c.args.batch.now c.loop-entry.known.items c.args.into.now c.loop-entry.into (subst (λ (l : List Counted). SoFar c.args.mappings.now c.args.epoch l c.loop-entry.known.items c.args.into.now c.loop-entry.into) all c.loop-entry.invariant)

pub returns-clause-images : goal.returns-clause-images
returns-clause-images c = images_so_far c.args.mappings.now c.args.epoch _ c.loop-entry.known.items c.args.into.now c.loop-entry.into c.loop-entry.invariant
