use Rattle.std.proofs.Common.{ap, refl, ◌∙◌, ◌+◌, [], arith}
use Rattle.std.specs.Io.KnownBytes.{prepend_known}
use Rattle.trace_model.specs.declared.limits.TheConstants.{MOST_STEPS}
use Rattle.trace_text.specs.State.{said_with_steps}
use Rattle.std.proofs.lemmas.Result.{err_from_is_err_and}
use Rattle.trace_text.proofs.Walking.{went_on}
use Rattle.trace_text.proofs.Phasing.{halts_on, within_more}
use Rattle.trace_text.proofs.reading.read_schedule.Goals as goal

pub returns-in_err-more-clause-stops : goal.returns-in_err-more-clause-stops
returns-in_err-more-clause-stops g c = let p = err_from_is_err_and c.from_residual.result c.from_residual.ensures.1 in
    rw (p.1, p.2) (halts_on (prepend_known c.args.input.now.reader (g.S.Source.left c.args.source.now)) (prepend_known c.loop.input.reader (g.S.Source.left c.loop.source)) (said_with_steps c.args.body.now []) (said_with_steps c.args.body.now c.loop.steps.items) c.loop.counter c.args.input.now.number c.loop.input.number c.in_err-more.field-0.0 c.loop.invariant.went c.loop.invariant.number c.in_err-more.ensures.stops)

pub loop-preserved : goal.loop-preserved
loop-preserved g c = let t = rw c.in-true.is at c.in_ok-more.ensures.more in let n = rw c.in-true.is at c.in_ok-more.ensures.count in record {
  steps = t.0;
  count = n ∙ ap (λ k. k + 1) c.loop.invariant.count;
  went = went_on (prepend_known c.args.input.now.reader (g.S.Source.left c.args.source.now)) (prepend_known c.loop.input.reader (g.S.Source.left c.loop.source)) (prepend_known c.step_schedule.new.input.reader (g.S.Source.left c.step_schedule.new.source)) (said_with_steps c.args.body.now []) (said_with_steps c.args.body.now c.loop.steps.items) (said_with_steps c.args.body.now c.step_schedule.new.steps.items) c.loop.counter 1 (c.loop.counter + 1) c.loop.invariant.went t.1 refl;
  number = omega (arith, c.in_ok-more.ensures.number, c.loop.invariant.number);
  faults = c.in_ok-more.ensures.faults ∙ c.loop.invariant.faults;
}

pub returns-in_err-more-clause-within : goal.returns-in_err-more-clause-within
returns-in_err-more-clause-within g c = let p = err_from_is_err_and c.from_residual.result c.from_residual.ensures.1 in
    rw (p.1, p.2) (within_more (c.loop.input.number + 1) (c.args.input.now.number + 1 + MOST_STEPS) c.in_err-more.field-0.0 (omega (arith, c.loop.invariant.number, c.loop-test.true)) c.in_err-more.ensures.within)
