-- The rows before a place come first.
use Rattle.std.proofs.Common.{rules, of_calls}
use Rattle.std.proofs.lemmas.Fn.{always_returns_same}
use Rattle.epoch_store.proofs.Halving.{halves}
use Rattle.epoch_store.proofs.places.count_before.Goals as goal

pub returns-clause-before : goal.returns-clause-before
returns-clause-before g c = (c.partition_point.ensures.partitioned (λ y. g.R.Placed.before y c.args.place) (always_returns_same _ _ _ (λ a r f k. search (rules, of_calls))) (halves c.requires.order c.args.place c.args.rows.now c.requires.rising)).0

pub returns-clause-behind : goal.returns-clause-behind
returns-clause-behind g c = (c.partition_point.ensures.partitioned (λ y. g.R.Placed.before y c.args.place) (always_returns_same _ _ _ (λ a r f k. search (rules, of_calls))) (halves c.requires.order c.args.place c.args.rows.now c.requires.rising)).1
