-- Once the run is finished nothing happens; a poll makes no call of the store.
use Rattle.replay_drive.proofs.StepsTaken.{stored_rests, taken_none}
use Rattle.replay_drive.proofs.replays.Replay.step.Goals as goal

pub returns-then-self-clause-taken : goal.returns-then-self-clause-taken
returns-then-self-clause-taken g c = λ trace run first_epoch steps taken.
    let next = taken_none trace run first_epoch steps c.args.step c.args.self.now.lanes.items c.args.self.now.sides.items c.args.self.now.daemon c.args.self.now.finished taken.finished c.if-self.true taken.stands in
    record { fit = taken.fit; stands = next.stands; finished = next.finished_is }

pub returns-in-Poll-clause-stores : goal.returns-in-Poll-clause-stores
returns-in-Poll-clause-stores g c = λ trace run first_epoch steps rest begin start taken stored.
    stored_rests g.D.Store.files g.D.Store.faults g.D.Store.moment g.D.Store.left_since trace run first_epoch _ begin start c.args.store.now c.args.self.now c.poll.new.self stored (c.poll.ensures.leaves trace taken.stands.trace_is)

pub returns-in-Advance-clause-stores : goal.returns-in-Advance-clause-stores
returns-in-Advance-clause-stores g c = rw c.in-Advance.is c.advance.ensures.stores
