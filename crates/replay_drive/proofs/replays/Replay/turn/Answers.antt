-- A turn is that step of the run.
use Rattle.std.proofs.Common.{ap, length, arith}
use Rattle.std.proofs.lemmas.List.{with_items_is}
use Rattle.sample_key.specs.declared.losses.Pace.TheVariants.{Free}
use Rattle.replay_drive.proofs.StepsTaken.{halves_length, taken_turn}
use Rattle.replay_drive.proofs.Among.{as_many}
use Rattle.replay_drive.proofs.replays.Replay.turn.Goals as goal

pub returns-clause-taken : goal.returns-clause-taken
returns-clause-taken c = λ trace run first_epoch steps taken.
    let next = taken_turn trace run first_epoch steps c.args.self.now.lanes.items _ c.turn_at.new.lanes c.args.self.now.sides.items _ c.turn_at.new.sides c.args.self.now.daemon c.args.cpu c.args.self.now.finished
    c.deref_mut.ensures.value c.deref_mut-2.ensures.value taken.finished c.requires.going taken.stands
    (λ daemon all. c.turn_at.ensures.turned Free trace daemon all) c.turn_at.ensures.halves (λ all. c.turn_at.ensures.players Free trace all) in
    let many = as_many Free trace 0 c.turn_at.new.lanes c.turn_at.new.sides next.stands.players in
    let were = as_many Free trace 0 c.args.self.now.lanes.items c.args.self.now.sides.items taken.stands.players in
    let same = halves_length c.turn_at.new.sides c.deref_mut-2.result.now c.turn_at.ensures.halves in
    let here = ap length c.deref_mut-2.ensures.value in
    let lanes = with_items_is c.args.self.now.lanes c.turn_at.new.lanes (omega (arith, many, were, same, here, c.args.self.now.lanes.ok.0)) in
    let sides = with_items_is c.args.self.now.sides c.turn_at.new.sides (omega (arith, same, here, c.args.self.now.sides.ok.0)) in
    record { fit = taken.fit; stands = rw (lanes, sides) next.stands; finished = next.finished_is }
