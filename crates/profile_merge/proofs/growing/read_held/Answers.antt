-- What the readers read, of either kind.
use Rattle.epoch_store.specs.Databases.{head_of}
use Rattle.profile_merge.proofs.PartsSoFar.{known_holds, unknown_holds}
use Rattle.profile_merge.proofs.growing.read_held.Goals as goal

pub returns-in-Known-clause-held : goal.returns-in-Known-clause-held
returns-in-Known-clause-held g c = rw c.in-Known.is (λ files told. known_holds (head_of c.args.db.now) files c.in-Known.epoch c.in-Known.image c.in-Known.event c.read_known.result (c.read_known.ensures.profile files told))

pub returns-in-Unknown-clause-held : goal.returns-in-Unknown-clause-held
returns-in-Unknown-clause-held g c = rw c.in-Unknown.is (λ files told. unknown_holds (head_of c.args.db.now) files c.in-Unknown.epoch c.in-Unknown.event c.read_unknown.result (c.read_unknown.ensures.profile files told))
