use Rattle.std.proofs.Common.{ap, refl, sym, ◌∙◌, []}
use Rattle.trace_model.specs.Grammar.{verdict_of_form}
use Rattle.trace_text.specs.Forms.{header_shown}
use Rattle.trace_text.specs.Judging.{size_shown}
use Rattle.trace_text.proofs.BodySteps.{unread, good, passing}
use Rattle.trace_text.proofs.headers.sizes_of.Goals as goal

pub returns-in_default-read_sizes-clause-judged : goal.returns-in_default-read_sizes-clause-judged
returns-in_default-read_sizes-clause-judged c = ap (λ o. verdict_of_form [] o) (sym c.in-Some.ensures) ∙ unread [] (header_shown c.in-Some.form) c.is_spelled.result c.why_not_read.result c.in_default-read_sizes.ensures c.is_spelled.ensures c.why_not_read.ensures

pub returns-clause-judged : goal.returns-clause-judged
returns-clause-judged c = ap (λ o. verdict_of_form [] o) (sym c.in-Some.ensures) ∙ good [] (header_shown c.in-Some.form) (size_shown c.in-Some-read_sizes.sizes) c.in-Some-read_sizes.ensures refl refl refl

pub returns-clause-passes : goal.returns-clause-passes
returns-clause-passes c = passing [] (header_shown c.in-Some.form) (size_shown c.in-Some-read_sizes.sizes) c.in-Some-read_sizes.ensures refl refl refl
