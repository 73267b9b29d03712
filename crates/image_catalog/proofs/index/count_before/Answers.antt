-- The names before a name come first.
use Rattle.std.proofs.Common.{rules, of_calls}
use Rattle.std.proofs.lemmas.Fn.{always_returns_same}
use Rattle.image_catalog.specs.Images.{comes_before}
use Rattle.image_catalog.proofs.Halving.{halves}
use Rattle.image_catalog.proofs.index.count_before.Goals as goal

pub returns-clause-before : goal.returns-clause-before
returns-clause-before c = (c.partition_point.ensures.partitioned (λ k. comes_before c.args.names.now k c.args.name.now) (always_returns_same _ _ _ (λ a r f k. search (rules, of_calls))) (halves c.args.names.now c.args.name.now c.args.order.now c.requires.rising)).0

pub returns-clause-behind : goal.returns-clause-behind
returns-clause-behind c = (c.partition_point.ensures.partitioned (λ k. comes_before c.args.names.now k c.args.name.now) (always_returns_same _ _ _ (λ a r f k. search (rules, of_calls))) (halves c.args.names.now c.args.name.now c.args.order.now c.requires.rising)).1
