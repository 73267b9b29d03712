-- One removal more was made, or the next one failed.
use Rattle.std.proofs.Common.{◌≡◌, ◌+◌, [], ◌∷◌, ◌++◌, take, drop, ◌∙◌, sym, ap, subst}
use Rattle.std.proofs.lemmas.List.{take_more}
use Rattle.store_io.specs.Outcomes.{AfterSome, Told}
use Rattle.store_io.specs.Crashes.{Elapses}
use Rattle.store_tidy.specs.Removals.{FirstRemoved}
use Rattle.store_tidy.proofs.Gone.{Made, one_more, cut_short, left_short, maybe_told, on_err, around}
use Rattle.store_tidy.proofs.removing.remove_all.Goals as goal

pub loop-name-preserved : goal.loop-name-preserved
loop-name-preserved g c =
    let ns = c.args.names.now in
    let i = c.loop-name.name-index in
    let n = c.name-item.result in
    let old = c.args.store.now in
    let new = c.remove.new.self in
    let more : take i ns ++ n ∷ [] ≡ take (i + 1) ns = ap (λ x. take i ns ++ x ∷ []) c.name-item.is ∙ sym (take_more ns i n c.loop-name-test.true) in
    let made = one_more {ns = take i ns} n c.loop-name.invariant.0 c.in_ok-remove.ensures.files.ok c.in_ok-remove.ensures.crash.ok c.in_ok-remove.ensures.time in (
      subst (λ l. Made l (g.D.Store.files old) (g.D.Store.files new) (g.D.Store.moment old) (g.D.Store.moment new) (g.D.Store.left_since old) (g.D.Store.left_since new)) more made,
      c.in_ok-remove.ensures.cause.kept ∙ c.loop-name.invariant.1,
      c.in_ok-remove.ensures.origin ∙ c.loop-name.invariant.2,
    )

pub returns-in_err-remove-clause-time : goal.returns-in_err-remove-clause-time
returns-in_err-remove-clause-time g c =
    let ns = c.args.names.now in
    let i = c.loop-name.name-index in
    let n = c.name-item.result in
    let old = c.args.store.now in
    let new = c.remove.new.self in
    subst (λ l. Elapses (g.D.Store.moment old) (g.D.Store.moment new) (g.D.Store.left_since old) (g.D.Store.left_since new) (AfterSome (g.D.Store.left_since old (g.D.Store.moment old)) (FirstRemoved l)))
    (around ns i n c.loop-name-test.true c.name-item.is)
    (cut_short {ns = take i ns} n (drop (i + 1) ns) c.loop-name.invariant.0 c.in_err-remove.ensures.time)

pub returns-in_err-remove-clause-part : goal.returns-in_err-remove-clause-part
returns-in_err-remove-clause-part g c =
    let ns = c.args.names.now in
    let i = c.loop-name.name-index in
    let n = c.name-item.result in
    let old = c.args.store.now in
    let new = c.remove.new.self in
    let maybe = maybe_told (g.D.Store.files c.loop-name.store) (g.D.Store.files new) n c.in_err-remove.field-0.0 c.in_err-remove.ensures.files in
    on_err c.from_residual.result (Told (FirstRemoved ns) (g.D.Store.files old) (g.D.Store.files new))
    (subst (λ l. Told (FirstRemoved l) (g.D.Store.files old) (g.D.Store.files new)) (around ns i n c.loop-name-test.true c.name-item.is)
    (left_short {ns = take i ns} (g.D.Store.files new) n (drop (i + 1) ns) c.loop-name.invariant.0 maybe))
