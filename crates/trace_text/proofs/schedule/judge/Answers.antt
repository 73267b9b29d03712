use Rattle.std.proofs.Common.{◌∙◌}
use Rattle.trace_text.specs.State.{said_with_steps}
use Rattle.trace_model.specs.Recording.{step_said}
use Rattle.trace_text.specs.Forms.{step_shown}
use Rattle.trace_text.proofs.BodySteps.{unread, against, good, passing}
use Rattle.trace_text.proofs.ScheduleSteps.{step_context, step_aligned, step_titled}
use Rattle.trace_text.proofs.schedule.judge.Goals as goal

pub returns-in_default-clause-judged : goal.returns-in_default-clause-judged
returns-in_default-clause-judged c = unread (said_with_steps c.args.body.now c.args.steps.now.items) (step_shown c.args.form.now) c.is_spelled.result c.why_not_read.result c.in_default.ensures c.is_spelled.ensures c.why_not_read.ensures

pub returns-in-Some-against-clause-judged : goal.returns-in-Some-against-clause-judged
returns-in-Some-against-clause-judged c = against (said_with_steps c.args.body.now c.args.steps.now.items) (step_shown c.args.form.now) (step_said c.in-Some.step) c.in-Some.ensures c.in-Some-against.why
    (step_aligned c.in-Some.step) (step_titled c.in-Some.step) (c.in-Some-against.ensures ∙ step_context c.args.body.now c.args.steps.now.items c.len.result c.in-Some.step c.requires (c.len.ensures ∙ c.args.steps.now.ok.0))

pub returns-in-None-clause-judged : goal.returns-in-None-clause-judged
returns-in-None-clause-judged c = good (said_with_steps c.args.body.now c.args.steps.now.items) (step_shown c.args.form.now) (step_said c.in-Some.step) c.in-Some.ensures
    (step_aligned c.in-Some.step) (step_titled c.in-Some.step) (c.in-None.ensures ∙ step_context c.args.body.now c.args.steps.now.items c.len.result c.in-Some.step c.requires (c.len.ensures ∙ c.args.steps.now.ok.0))

pub returns-in-None-clause-passes : goal.returns-in-None-clause-passes
returns-in-None-clause-passes c = passing (said_with_steps c.args.body.now c.args.steps.now.items) (step_shown c.args.form.now) (step_said c.in-Some.step) c.in-Some.ensures
    (step_aligned c.in-Some.step) (step_titled c.in-Some.step) (c.in-None.ensures ∙ step_context c.args.body.now c.args.steps.now.items c.len.result c.in-Some.step c.requires (c.len.ensures ∙ c.args.steps.now.ok.0))
