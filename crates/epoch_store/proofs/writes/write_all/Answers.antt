-- One write more was made, or the next one failed.
use Rattle.std.proofs.Common.{◌≡◌, ◌+◌, [], ◌∷◌, ◌++◌, take, drop, ◌∙◌, sym, ap, subst}
use Rattle.std.proofs.lemmas.List.{take_more}
use Rattle.store_io.specs.Outcomes.{AfterSome}
use Rattle.store_io.specs.Crashes.{Elapses}
use Rattle.epoch_store.specs.Puts.{PutSome}
use Rattle.epoch_store.proofs.Phases.{Made, one_more, cut_short, around}
use Rattle.epoch_store.proofs.writes.write_all.Goals as goal

pub loop-write-preserved : goal.loop-write-preserved
loop-write-preserved g c =
    let ws = c.args.writes.now in
    let i = c.loop-write.write-index in
    let w = c.write-item.result in
    let old = c.args.store.now in
    let new = c.write-in-loop-write.new.self in
    let more : take i ws ++ w ∷ [] ≡ take (i + 1) ws = ap (λ x. take i ws ++ x ∷ []) c.write-item.is ∙ sym (take_more ws i w c.loop-write-test.true) in
    let named : c.write.inside.name ≡ w.name = ap (λ p. p.name) c.write.view_is in
    let bytes : c.deref.result.now ≡ w.bytes = c.deref.ensures.value ∙ ap (λ p. p.bytes) c.write.view_is in
    let made = one_more {ws = take i ws} w c.loop-write.invariant.0 (rw (named, bytes) at c.in_ok-write.ensures.files.ok) (rw (named, bytes) at c.in_ok-write.ensures.crash.ok) (rw named at c.in_ok-write.ensures.time) in (
      subst (λ l. Made l (g.D.Store.files old) (g.D.Store.files new) (g.D.Store.moment old) (g.D.Store.moment new) (g.D.Store.left_since old) (g.D.Store.left_since new)) more made,
      c.in_ok-write.ensures.cause.kept ∙ c.loop-write.invariant.1,
      c.in_ok-write.ensures.origin ∙ c.loop-write.invariant.2,
    )

pub returns-in_err-write-clause-time : goal.returns-in_err-write-clause-time
returns-in_err-write-clause-time g c =
    let ws = c.args.writes.now in
    let i = c.loop-write.write-index in
    let w = c.write-item.result in
    let old = c.args.store.now in
    let new = c.write-in-loop-write.new.self in
    let named : c.write.inside.name ≡ w.name = ap (λ p. p.name) c.write.view_is in
    subst (λ l. Elapses (g.D.Store.moment old) (g.D.Store.moment new) (g.D.Store.left_since old) (g.D.Store.left_since new) (AfterSome (g.D.Store.left_since old (g.D.Store.moment old)) (PutSome l)))
    (around ws i w c.loop-write-test.true c.write-item.is)
    (cut_short {ws = take i ws} w (drop (i + 1) ws) c.loop-write.invariant.0 (rw named at c.in_err-write.ensures.time))
