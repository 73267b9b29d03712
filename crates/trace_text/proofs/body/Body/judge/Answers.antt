use Rattle.trace_text.specs.State.{said_in_body}
use Rattle.trace_text.specs.Forms.{body_shown, values_shown}
use Rattle.trace_text.proofs.BodySteps.{unread, unaligned, untitled, against, good, passing}
use Rattle.trace_text.proofs.body.Body.judge.Goals as goal

pub returns-in_default-clause-judged : goal.returns-in_default-clause-judged
returns-in_default-clause-judged c = unread (said_in_body c.args.self.now) (body_shown c.args.form.now) c.is_spelled.result c.why_not_read.result c.in_default.ensures c.is_spelled.ensures c.why_not_read.ensures

pub returns-then-not-is_aligned-clause-judged : goal.returns-then-not-is_aligned-clause-judged
returns-then-not-is_aligned-clause-judged c = unaligned (said_in_body c.args.self.now) (body_shown c.args.form.now) (values_shown c.in-Some.values) c.in-Some.ensures c.if-not-is_aligned.ensures

pub returns-then-not-is_titled-clause-judged : goal.returns-then-not-is_titled-clause-judged
returns-then-not-is_titled-clause-judged c = untitled (said_in_body c.args.self.now) (body_shown c.args.form.now) (values_shown c.in-Some.values) c.in-Some.ensures c.if-not-is_aligned.ensures c.if-not-is_titled.ensures

pub returns-in-Some-context-clause-judged : goal.returns-in-Some-context-clause-judged
returns-in-Some-context-clause-judged c = against (said_in_body c.args.self.now) (body_shown c.args.form.now) (values_shown c.in-Some.values) c.in-Some.ensures c.in-Some-context.why c.if-not-is_aligned.ensures c.if-not-is_titled.ensures c.in-Some-context.ensures

pub returns-in-None-clause-judged : goal.returns-in-None-clause-judged
returns-in-None-clause-judged c = good (said_in_body c.args.self.now) (body_shown c.args.form.now) (values_shown c.in-Some.values) c.in-Some.ensures c.if-not-is_aligned.ensures c.if-not-is_titled.ensures c.in-None.ensures

pub returns-in-None-clause-passes : goal.returns-in-None-clause-passes
returns-in-None-clause-passes c = passing (said_in_body c.args.self.now) (body_shown c.args.form.now) (values_shown c.in-Some.values) c.in-Some.ensures c.if-not-is_aligned.ensures c.if-not-is_titled.ensures c.in-None.ensures
