-- A change that decides the name hides all that came before it; another one hides nothing.
use Rattle.std.proofs.Common.{rules, arith, ◌≡◌, true, false, ◌∙◌, sym, ap, refl}
use Rattle.store_io.specs.Changes.{decides}
use Rattle.store_io.proofs.Presence.{found_at, passed_at}
use Rattle.store_io.proofs.changes.find.Goals as goal

pub returns-then-decides : goal.returns-then-decides
returns-then-decides c =
    let x = c.index-changes-left.result in
    let is : decides x c.args.name.now ≡ true = search rules in
    c.bytes_left.ensures ∙ found_at c.args.changes.now c.loop-left.left x c.args.name.now c.loop-left-test.true c.loop-left.invariant.bound c.index-changes-left.is is ∙ c.loop-left.invariant.same

pub loop-left-preserved : goal.loop-left-preserved
loop-left-preserved c =
    let x = c.index-changes-left.result in
    let is : decides x c.args.name.now ≡ false = search rules in
    record { bound = omega arith; same = passed_at c.args.changes.now c.loop-left.left x c.args.name.now c.loop-left-test.true c.loop-left.invariant.bound c.index-changes-left.is is ∙ c.loop-left.invariant.same }
