-- A whole change keeps the others whole.
use Rattle.std.proofs.Common.{rules}
use Rattle.store_io.specs.Changes.{Adds}
use Rattle.store_io.proofs.History.{added_whole}
use Rattle.store_io.proofs.changes.add.Goals as goal

pub returns-clause-whole : goal.returns-clause-whole
returns-clause-whole c =
    let more : Adds c.args.changes.now.items c.push.new.self.items c.args.name.now c.args.outcome = search rules in
    λ whole. added_whole more whole
