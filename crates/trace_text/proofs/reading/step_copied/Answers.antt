use Rattle.std.proofs.Common.{◌+◌, sym, ap, arith}
use Rattle.std.specs.Io.KnownBytes.{prepend_known}
use Rattle.trace_text.specs.State.{said_in_body}
use Rattle.trace_model.specs.Grammar.{why_no_form}
use Rattle.trace_text.proofs.BodySteps.{no_end, stage_is}
use Rattle.trace_text.proofs.Walking.{stops_stopped, stops_long}
use Rattle.trace_text.proofs.Phasing.{body_stepped, halted, halted_at, within_at, within_of}
use Rattle.trace_text.proofs.reading.step_copied.Goals as goal

pub returns-in-Ok-clause-taken : goal.returns-in-Ok-clause-taken
returns-in-Ok-clause-taken g c = body_stepped c.in-Ok.taken (prepend_known c.args.input.now.reader (g.S.Source.left c.args.source.now)) (prepend_known c.next.new.self.reader (g.S.Source.left c.next.new.source)) c.args.body.now c.take_line.new.self c.next.new.self.line.items c.deref.result.now c.deref.ensures.value (rw c.in-Finished.is at c.in_ok-ending.ensures.line) c.in-Ok.ensures.taken

pub returns-in-Err-clause-stops : goal.returns-in-Err-clause-stops
returns-in-Err-clause-stops g c = halted (prepend_known c.args.input.now.reader (g.S.Source.left c.args.source.now)) (prepend_known c.next.new.self.reader (g.S.Source.left c.next.new.source)) (said_in_body c.args.body.now) c.next.new.self.line.items c.deref.result.now c.args.input.now.number c.next.new.self.number c.in-Err.refusal c.refused.result c.deref.ensures.value c.in_ok-ending.ensures.number (rw c.in-Finished.is at c.in_ok-ending.ensures.line) c.in-Err.ensures.refused c.refused.ensures

pub returns-in-Unfinished-clause-stops : goal.returns-in-Unfinished-clause-stops
returns-in-Unfinished-clause-stops g c = halted_at (prepend_known c.args.input.now.reader (g.S.Source.left c.args.source.now)) (said_in_body c.args.body.now) c.args.input.now.number c.next.new.self.number _ c.bad.result c.bad.ensures
    (stops_stopped (prepend_known c.args.input.now.reader (g.S.Source.left c.args.source.now)) (prepend_known c.next.new.self.reader (g.S.Source.left c.next.new.source)) c.next.new.self.line.items (said_in_body c.args.body.now) c.args.input.now.number c.next.new.self.number c.in_ok-ending.ensures.number (rw c.in-Unfinished.is at c.in_ok-ending.ensures.line) (no_end c.args.body.now))

pub returns-in-TooLong-clause-stops : goal.returns-in-TooLong-clause-stops
returns-in-TooLong-clause-stops g c = halted_at (prepend_known c.args.input.now.reader (g.S.Source.left c.args.source.now)) (said_in_body c.args.body.now) c.args.input.now.number c.next.new.self.number _ c.bad-in-TooLong.result c.bad-in-TooLong.ensures
    (stops_long (prepend_known c.args.input.now.reader (g.S.Source.left c.args.source.now)) (prepend_known c.next.new.self.reader (g.S.Source.left c.next.new.source)) c.next.new.self.line.items (said_in_body c.args.body.now) c.args.input.now.number c.next.new.self.number _ c.in_ok-ending.ensures.number (rw c.in-TooLong.is at c.in_ok-ending.ensures.line) (sym (ap why_no_form (stage_is c.args.body.now))))

pub returns-in-Err-clause-within : goal.returns-in-Err-clause-within
returns-in-Err-clause-within g c = within_of (c.args.input.now.number + 1) c.next.new.self.number c.in-Err.refusal c.refused.result c.refused.ensures (omega (arith, c.in_ok-ending.ensures.number))

pub returns-in-Unfinished-clause-within : goal.returns-in-Unfinished-clause-within
returns-in-Unfinished-clause-within g c = within_at (c.args.input.now.number + 1) c.next.new.self.number _ c.bad.result c.bad.ensures (omega (arith, c.in_ok-ending.ensures.number))

pub returns-in-TooLong-clause-within : goal.returns-in-TooLong-clause-within
returns-in-TooLong-clause-within g c = within_at (c.args.input.now.number + 1) c.next.new.self.number _ c.bad-in-TooLong.result c.bad-in-TooLong.ensures (omega (arith, c.in_ok-ending.ensures.number))
