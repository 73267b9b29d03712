use Rattle.std.proofs.Common.{sym, ap, ◌∙◌}
use Rattle.std.specs.Io.KnownBytes.{prepend_known}
use Rattle.trace_text.specs.State.{said_with_steps}
use Rattle.std.proofs.lemmas.Bool.{eqb-false}
use Rattle.std.proofs.Common.{◌+◌, length, arith}
use Rattle.trace_model.specs.Grammar.{why_no_form}
use Rattle.trace_text.proofs.ScheduleSteps.{ended, stage_behind}
use Rattle.trace_text.proofs.Walking.{stops_unfinished, stops_long}
use Rattle.trace_text.proofs.Phasing.{schedule_stepped, halted, halted_at, within_at, within_of}
use Rattle.trace_text.proofs.reading.step_schedule.Goals as goal

pub returns-in-Ok-clause-more : goal.returns-in-Ok-clause-more
returns-in-Ok-clause-more g c = schedule_stepped (prepend_known c.args.input.now.reader (g.S.Source.left c.args.source.now)) (prepend_known c.next.new.self.reader (g.S.Source.left c.next.new.source)) c.args.body.now c.args.steps.now.items c.take_step.new.steps.items c.next.new.self.line.items c.deref.result.now c.deref.ensures.value (rw c.in-Finished.is at c.in_ok-ending.ensures.line) c.in-Ok.ensures.taken.0 c.in-Ok.ensures.taken.1

pub returns-in-Err-clause-stops : goal.returns-in-Err-clause-stops
returns-in-Err-clause-stops g c = halted (prepend_known c.args.input.now.reader (g.S.Source.left c.args.source.now)) (prepend_known c.next.new.self.reader (g.S.Source.left c.next.new.source)) (said_with_steps c.args.body.now c.args.steps.now.items) c.next.new.self.line.items c.deref.result.now c.args.input.now.number c.next.new.self.number c.in-Err.refusal c.refused.result c.deref.ensures.value c.in_ok-ending.ensures.number (rw c.in-Finished.is at c.in_ok-ending.ensures.line) c.in-Err.ensures.refused c.refused.ensures

pub returns-else-is_empty-clause-stops : goal.returns-else-is_empty-clause-stops
returns-else-is_empty-clause-stops g c = halted_at (prepend_known c.args.input.now.reader (g.S.Source.left c.args.source.now)) (said_with_steps c.args.body.now c.args.steps.now.items) c.args.input.now.number c.next.new.self.number _ c.bad.result c.bad.ensures
    (stops_unfinished (prepend_known c.args.input.now.reader (g.S.Source.left c.args.source.now)) (prepend_known c.next.new.self.reader (g.S.Source.left c.next.new.source)) c.next.new.self.line.items (said_with_steps c.args.body.now c.args.steps.now.items) c.args.input.now.number c.next.new.self.number c.in_ok-ending.ensures.number (rw c.in-Unfinished.is at c.in_ok-ending.ensures.line)
    (λ e. eqb-false _ 0 (sym c.is_empty.ensures ∙ c.if-is_empty.false) (c.next.new.self.line.ok.0 ∙ ap length e)) (ended c.args.body.now c.args.steps.now.items))

pub returns-in-TooLong-clause-stops : goal.returns-in-TooLong-clause-stops
returns-in-TooLong-clause-stops g c = halted_at (prepend_known c.args.input.now.reader (g.S.Source.left c.args.source.now)) (said_with_steps c.args.body.now c.args.steps.now.items) c.args.input.now.number c.next.new.self.number _ c.bad-in-TooLong.result c.bad-in-TooLong.ensures
    (stops_long (prepend_known c.args.input.now.reader (g.S.Source.left c.args.source.now)) (prepend_known c.next.new.self.reader (g.S.Source.left c.next.new.source)) c.next.new.self.line.items (said_with_steps c.args.body.now c.args.steps.now.items) c.args.input.now.number c.next.new.self.number _ c.in_ok-ending.ensures.number (rw c.in-TooLong.is at c.in_ok-ending.ensures.line) (sym (ap why_no_form (stage_behind c.args.body.now c.args.steps.now.items))))

pub returns-in-Err-clause-within : goal.returns-in-Err-clause-within
returns-in-Err-clause-within g c = within_of (c.args.input.now.number + 1) c.next.new.self.number c.in-Err.refusal c.refused.result c.refused.ensures (omega (arith, c.in_ok-ending.ensures.number))

pub returns-else-is_empty-clause-within : goal.returns-else-is_empty-clause-within
returns-else-is_empty-clause-within g c = within_at (c.args.input.now.number + 1) c.next.new.self.number _ c.bad.result c.bad.ensures (omega (arith, c.in_ok-ending.ensures.number))

pub returns-in-TooLong-clause-within : goal.returns-in-TooLong-clause-within
returns-in-TooLong-clause-within g c = within_at (c.args.input.now.number + 1) c.next.new.self.number _ c.bad-in-TooLong.result c.bad-in-TooLong.ensures (omega (arith, c.in_ok-ending.ensures.number))
