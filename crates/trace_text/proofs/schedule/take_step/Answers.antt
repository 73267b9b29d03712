use Rattle.std.proofs.Common.{◌∙◌}
use Rattle.std.proofs.lemmas.Result.{err_from_is_err_and}
use Rattle.trace_text.specs.Forms.{step_shown}
use Rattle.trace_text.proofs.ScheduleSteps.{by_step_form, step_taken}
use Rattle.trace_text.proofs.schedule.take_step.Goals as goal

pub returns-in_err-step-clause-refused : goal.returns-in_err-step-clause-refused
returns-in_err-step-clause-refused c = let p = err_from_is_err_and c.from_residual.result c.from_residual.ensures.1 in
    rw (p.1, p.2) (by_step_form c.args.body.now c.args.steps.now.items c.args.line.now (step_shown c.in-Some.form) c.in-Some.ensures ∙ c.in_err-step.ensures.judged)

pub returns-clause-taken : goal.returns-clause-taken
returns-clause-taken c = step_taken c.args.body.now c.args.steps.now.items c.push.new.self.items c.args.line.now (step_shown c.in-Some.form) c.in_ok-step.step c.in-Some.ensures c.in_ok-step.ensures.judged c.in_ok-step.ensures.passes c.requires c.in_ok-push.ensures.items
