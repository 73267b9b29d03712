use Rattle.std.specs.Prelude.{IfErr}
use Rattle.std.proofs.Common.{subst}
use Rattle.trace_model.specs.Grammar.{verdict}
use Rattle.trace_text.specs.declared.body.Body.{Body}
use Rattle.trace_text.specs.Progress.{IsRefusal}
use Rattle.trace_text.specs.State.{said_in_body}
use Rattle.trace_text.proofs.body.Body.take_line.Goals as goal

pub returns-else-branch-clause-refused : goal.returns-else-branch-clause-refused
returns-else-branch-clause-refused c = subst (λ (b : Body). IfErr c.take_by_fields.result (IsRefusal (verdict (said_in_body b) c.args.line.now)))
    (rw c.if-branch.false at c.in_ok-take_sample.ensures) c.take_by_fields.ensures.refused
