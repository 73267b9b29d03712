-- The symbols before an offset come first.
use Rattle.std.proofs.Common.{rules, of_calls}
use Rattle.std.proofs.lemmas.Fn.{always_returns_same}
use Rattle.symbol_ranges.specs.Index.{is_before, symbol_at}
use Rattle.text_num.proofs.Lists.{front_all, back_all}
use Rattle.symbol_ranges.proofs.Halving.{halves}
use Rattle.symbol_ranges.proofs.index.count_before.Goals as goal

pub returns-clause-before : goal.returns-clause-before
returns-clause-before c = front_all _ c.partition_point.result c.args.order.now c.partition_point.ensures.bound (c.partition_point.ensures.partitioned (λ k. is_before c.args.image.now c.args.offset (symbol_at c.args.lines.now k)) (always_returns_same _ _ _ (λ a r f k. search (rules, of_calls))) (halves c.args.lines.now c.args.image.now c.args.offset c.args.order.now c.requires.rising)).0

pub returns-clause-behind : goal.returns-clause-behind
returns-clause-behind c = back_all _ c.partition_point.result c.args.order.now (c.partition_point.ensures.partitioned (λ k. is_before c.args.image.now c.args.offset (symbol_at c.args.lines.now k)) (always_returns_same _ _ _ (λ a r f k. search (rules, of_calls))) (halves c.args.lines.now c.args.image.now c.args.offset c.args.order.now c.requires.rising)).1
