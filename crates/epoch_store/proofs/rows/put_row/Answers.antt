-- The next row comes before this one, or this one takes its place, goes before it, or goes behind all.
use Rattle.std.proofs.Common.{arith, ◌∙◌, sym}
use Rattle.epoch_store.proofs.Merging.{goes_past, goes_for, goes_ahead, goes_last}
use Rattle.epoch_store.proofs.rows.put_row.Goals as goal

pub returns-then-is_same-clause-rows : goal.returns-then-is_same-clause-rows
returns-then-is_same-clause-rows g c = λ more rising.
    rw c.in_ok-push.ensures.items (goes_for c.requires.order c.args.rows.now c.loop-at.at c.index-rows-at.result c.args.row c.loop-at.after.items _ more c.loop-at-test.true c.index-rows-at.is (sym c.is_same.ensures ∙ c.if-is_same.true) rising (c.loop-at.invariant.rows more rising))

pub returns-then-not-is_before-clause-rows : goal.returns-then-not-is_before-clause-rows
returns-then-not-is_before-clause-rows g c = λ more rising.
    rw c.in_ok-push.ensures.items (goes_ahead c.requires.order c.args.rows.now c.loop-at.at c.index-rows-at.result c.args.row c.loop-at.after.items _ more c.loop-at-test.true c.index-rows-at.is (sym c.is_before.ensures ∙ c.if-not-is_before.true) (sym c.is_same.ensures ∙ c.if-is_same.false) rising (c.loop-at.invariant.rows more rising))

pub loop-at-preserved : goal.loop-at-preserved
loop-at-preserved g c =
    record {
      within = omega (arith, c.loop-at-test.true);
      rows = λ more rising.
          rw c.in_ok-push-2.ensures.items (goes_past c.requires.order c.args.rows.now c.loop-at.at c.index-rows-at.result c.args.row c.loop-at.after.items _ more c.loop-at-test.true c.index-rows-at.is (sym c.is_before.ensures ∙ c.if-not-is_before.false) rising (c.loop-at.invariant.rows more rising));
    }

pub returns-clause-rows : goal.returns-clause-rows
returns-clause-rows g c = λ more rising.
    rw c.in_ok-push-3.ensures.items (goes_last c.requires.order c.args.rows.now c.loop-at.at c.args.row c.loop-at.after.items _ more c.loop-at-test.false rising (c.loop-at.invariant.rows more rising))
