use Rattle.std.proofs.Common.{◌∙◌}
use Rattle.std.proofs.lemmas.Result.{err_from_is_err_and}
use Rattle.trace_text.specs.Forms.{body_shown, values_shown}
use Rattle.trace_text.proofs.BodySteps.{by_form, by_no_form, takes}
use Rattle.trace_text.proofs.body.Body.take_by_fields.Goals as goal

pub returns-in_default-clause-refused : goal.returns-in_default-clause-refused
returns-in_default-clause-refused c = by_no_form c.args.self.now c.args.line.now c.in_default.ensures

pub returns-in_err-values-clause-refused : goal.returns-in_err-values-clause-refused
returns-in_err-values-clause-refused c = let p = err_from_is_err_and c.from_residual.result c.from_residual.ensures.1 in
    rw (p.1, p.2) (by_form c.args.self.now c.args.line.now (body_shown c.in-Some.form) c.in-Some.ensures ∙ c.in_err-values.ensures.judged)

pub returns-clause-taken : goal.returns-clause-taken
returns-clause-taken c = takes c.in_ok-taken.taken c.args.self.now c.add.new.self c.args.line.now (body_shown c.in-Some.form) (values_shown c.in_ok-values.values) c.in-Some.ensures c.in_ok-values.ensures.judged c.in_ok-taken.ensures
