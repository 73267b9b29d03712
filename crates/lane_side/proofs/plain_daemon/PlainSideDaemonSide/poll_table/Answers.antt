use Rattle.std.proofs.Common.{◌∙◌, ap}
use Rattle.lane_side.specs.Tallies.{Tallies}
use Rattle.lane_side.specs.Tallied.{tallied}
use Rattle.lane_side.specs.Insides.{parts_of}
use Rattle.lane_side.specs.declared.call_log.Call.TheVariants.{Try}
use Rattle.driver_model.specs.Table.{Table}
use Rattle.lane_side.proofs.PlainCalls.{taken_any}
use Rattle.lane_side.proofs.plain_daemon.PlainSideDaemonSide.poll_table.Goals as goal

pub returns-in-Parcel-clause-polls : goal.returns-in-Parcel-clause-polls
returns-in-Parcel-clause-polls c =
    let p = parts_of c.self.inside in let w = c.word-word.result in
    (taken_any p c.args.self.now c.poll.new.self c.note-in-Parcel.new.self c.in-Parcel.parcel w c.self.view_is c.self.invariant c.word-word.ensures c.in-Parcel.ensures.cell
    (c.note-in-Parcel.ensures ∙ ap (λ (t : Tallies). record t { far_turn = c.of.result.value.turn }) c.note.ensures ∙ ap (λ (t : Table). record (tallied p.tallies (Try 2 w)) { far_turn = t.turn }) c.of.ensures) c.in-Parcel.ensures.answer).1
