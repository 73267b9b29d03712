-- One round more was taken; once the run is finished the others do nothing.
use Rattle.std.proofs.Common.{◌∙◌, arith}
use Rattle.replay_drive.proofs.StepsMany.{round_stored, round_taken, rounds_over, under_way}
use Rattle.replay_drive.proofs.replays.Replay.rounds.Goals as goal

pub returns-then-self-clause-taken : goal.returns-then-self-clause-taken
returns-then-self-clause-taken g c =
    rounds_over c.args.self.now c.loop.self c.loop.counter c.args.count c.args.round.now (omega (arith, c.loop-test.true, c.loop.auto.counter-end)) c.if-self.true c.loop.invariant.taken

pub loop-preserved : goal.loop-preserved
loop-preserved g c =
    let taken = round_taken c.args.self.now c.loop.self c.steps.new.self c.loop.counter c.args.round.now c.loop.invariant.taken c.steps.ensures.taken in
    record {
      under = under_way c.args.self.now c.steps.new.self _ c.requires taken;
      taken = taken;
      stores = round_stored g.D.Store.files g.D.Store.faults g.D.Store.moment g.D.Store.left_since c.args.self.now c.loop.self c.steps.new.self c.args.store.now c.loop.store c.steps.new.store c.loop.counter c.args.count c.args.round.now
          (omega (arith, c.loop-test.true, c.loop.auto.counter-end)) c.loop.invariant.taken c.loop.invariant.stores c.steps.ensures.stores;
      origin = c.steps.ensures.origin ∙ c.loop.invariant.origin;
    }
