use Rattle.std.proofs.Common.{arith, ◌∙◌}
use Rattle.var_bytes.proofs.NumberLaws.{writes_none, writes_more, writes_last}
use Rattle.var_bytes.proofs.numbers.push_groups.Goals as goal

pub loop-rest-init : goal.loop-rest-init
loop-rest-init c = writes_none c.args.out.now.items c.args.n (omega arith)

pub loop-rest-preserved : goal.loop-rest-preserved
loop-rest-preserved c = rw c.in_ok-push.ensures.items (writes_more c.args.out.now.items c.loop-rest.out.items c.loop-rest.rest c.args.n c.loop-rest.invariant c.loop-rest-test.true)

pub returns-clause-ok : goal.returns-clause-ok
returns-clause-ok c = c.in_ok-push-2.ensures.items ∙ writes_last c.args.out.now.items c.loop-rest.out.items c.loop-rest.rest c.args.n c.loop-rest.invariant c.loop-rest-test.false
