use Rattle.lane_side.specs.Insides.{parts_of}
use Rattle.lane_side.proofs.PlainCalls.{handed_any0, handed_any1, one_left}
use Rattle.lane_side.proofs.plain_lane.PlainSideLaneSide.hand_buffer.Goals as goal

pub invariant_of-self : goal.invariant_of-self
invariant_of-self c =
    (handed_any0 (parts_of c.self.inside) c.args.b c.args.parcel c.args.self.now c.hand.new.self c.push.new.self c.note.new.self
    c.if-b-eq0.true c.self.view_is c.requires.may c.self.invariant c.hand.ensures c.push.ensures c.note.ensures).0

pub invariant_of-self-else-b-eq0 : goal.invariant_of-self-else-b-eq0
invariant_of-self-else-b-eq0 c =
    (handed_any1 (parts_of c.self.inside) c.args.b c.args.parcel c.args.self.now c.hand-else-b-eq0.new.self c.push.new.self c.note.new.self
    (one_left c.args.b c.requires.number c.if-b-eq0.false) c.self.view_is c.requires.may c.self.invariant c.hand-else-b-eq0.ensures c.push.ensures c.note.ensures).0

pub returns-then-b-eq0-clause-far : goal.returns-then-b-eq0-clause-far
returns-then-b-eq0-clause-far c =
    (handed_any0 (parts_of c.self.inside) c.args.b c.args.parcel c.args.self.now c.hand.new.self c.push.new.self c.note.new.self
    c.if-b-eq0.true c.self.view_is c.requires.may c.self.invariant c.hand.ensures c.push.ensures c.note.ensures).2

pub returns-else-b-eq0-clause-far : goal.returns-else-b-eq0-clause-far
returns-else-b-eq0-clause-far c =
    (handed_any1 (parts_of c.self.inside) c.args.b c.args.parcel c.args.self.now c.hand-else-b-eq0.new.self c.push.new.self c.note.new.self
    (one_left c.args.b c.requires.number c.if-b-eq0.false) c.self.view_is c.requires.may c.self.invariant c.hand-else-b-eq0.ensures c.push.ensures c.note.ensures).2

pub returns-then-b-eq0-clause-seen : goal.returns-then-b-eq0-clause-seen
returns-then-b-eq0-clause-seen c =
    (handed_any0 (parts_of c.self.inside) c.args.b c.args.parcel c.args.self.now c.hand.new.self c.push.new.self c.note.new.self
    c.if-b-eq0.true c.self.view_is c.requires.may c.self.invariant c.hand.ensures c.push.ensures c.note.ensures).1

pub returns-else-b-eq0-clause-seen : goal.returns-else-b-eq0-clause-seen
returns-else-b-eq0-clause-seen c =
    (handed_any1 (parts_of c.self.inside) c.args.b c.args.parcel c.args.self.now c.hand-else-b-eq0.new.self c.push.new.self c.note.new.self
    (one_left c.args.b c.requires.number c.if-b-eq0.false) c.self.view_is c.requires.may c.self.invariant c.hand-else-b-eq0.ensures c.push.ensures c.note.ensures).1
