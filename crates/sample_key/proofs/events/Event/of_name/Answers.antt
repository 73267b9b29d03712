use Rattle.std.proofs.Common.{rules}
use Rattle.sample_key.specs.declared.events.Event.TheVariants.{Cycles, Imiss, Dmiss, Branchmp}
use Rattle.sample_key.proofs.Named.{some_named}
use Rattle.sample_key.proofs.events.Event.of_name.Goals as goal

pub returns-then-eq-clause-none : goal.returns-then-eq-clause-none
returns-then-eq-clause-none c = some_named c.args.name.now Cycles (search rules)

pub returns-then-eq-2-clause-none : goal.returns-then-eq-2-clause-none
returns-then-eq-2-clause-none c = some_named c.args.name.now Imiss (search rules)

pub returns-then-eq-3-clause-none : goal.returns-then-eq-3-clause-none
returns-then-eq-3-clause-none c = some_named c.args.name.now Dmiss (search rules)

pub returns-then-eq-4-clause-none : goal.returns-then-eq-4-clause-none
returns-then-eq-4-clause-none c = some_named c.args.name.now Branchmp (search rules)
