use Rattle.std.proofs.Common.{◌∙◌, ap}
use Rattle.lane_side.specs.Tallies.{Tallies}
use Rattle.lane_side.specs.Tallied.{tallied}
use Rattle.lane_side.specs.Insides.{parts_of}
use Rattle.lane_side.specs.declared.call_log.Call.TheVariants.{Pass}
use Rattle.driver_model.specs.Table.{Table}
use Rattle.lane_side.proofs.PlainCalls.{handed_any2}
use Rattle.lane_side.proofs.plain_lane.PlainSideLaneSide.hand_table.Goals as goal

pub invariant_of-self : goal.invariant_of-self
invariant_of-self c =
    let p = parts_of c.self.inside in
    (handed_any2 p c.args.parcel c.args.self.now c.hand.new.self c.push.new.self c.note-2.new.self
    c.self.view_is c.requires c.self.invariant c.hand.ensures c.push.ensures
    (c.note-2.ensures ∙ ap (λ (t : Tallies). record t { turn = c.of.result.value.turn }) c.note.ensures ∙ ap (λ (t : Table). record (tallied p.tallies Pass) { turn = t.turn }) c.of.ensures)).0

pub returns-clause-far : goal.returns-clause-far
returns-clause-far c =
    let p = parts_of c.self.inside in
    (handed_any2 p c.args.parcel c.args.self.now c.hand.new.self c.push.new.self c.note-2.new.self
    c.self.view_is c.requires c.self.invariant c.hand.ensures c.push.ensures
    (c.note-2.ensures ∙ ap (λ (t : Tallies). record t { turn = c.of.result.value.turn }) c.note.ensures ∙ ap (λ (t : Table). record (tallied p.tallies Pass) { turn = t.turn }) c.of.ensures)).2
