-- Only the number at the place may be of the name.
use Rattle.std.proofs.Common.{rules, arith, ◌≡◌, true, false, get_or}
use Rattle.image_catalog.proofs.Halving.{is_of, found, missed, past_all}
use Rattle.image_catalog.proofs.index.number_at.Goals as goal

pub returns-then-at-order : goal.returns-then-at-order
returns-then-at-order c = past_all c.args.names.now c.args.name.now c.args.order.now c.args.at c.requires.within (search rules) c.requires.before

pub returns-then-eq : goal.returns-then-eq
returns-then-eq c =
    let holds : is_of c.args.names.now c.args.name.now (get_or c.args.order.now c.args.at 0) ≡ true = search rules in
    found c.args.names.now c.args.name.now c.args.order.now c.args.at (search rules) c.requires.before holds

pub returns : goal.returns
returns c =
    let other : is_of c.args.names.now c.args.name.now (get_or c.args.order.now c.args.at 0) ≡ false = search rules in
    missed c.args.names.now c.args.name.now c.args.order.now c.args.at (search rules) c.requires.rising c.requires.before c.requires.behind other
