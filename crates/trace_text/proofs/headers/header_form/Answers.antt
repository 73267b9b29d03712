use Rattle.std.proofs.Common.{ap, ◌∙◌}
use Rattle.std.specs.Option.{option_map}
use Rattle.trace_text.specs.Forms.{header_shown}
use Rattle.trace_text.proofs.Cutting.{header_cut_short, nine_fields, cut_four_on}
use Rattle.trace_text.proofs.headers.header_form.Goals as goal

pub returns-in_err-back : goal.returns-in_err-back
returns-in_err-back c = ap (option_map header_shown) c.from_residual-in_err-back.ensures
    ∙ header_cut_short c.args.line.now c.in-Some.behind.now _ _ _ _ (cut_four_on c.in_ok-front.ensures c.in-Some.is) c.in_err-back.ensures

pub returns-in-Some-rest : goal.returns-in-Some-rest
returns-in-Some-rest c = nine_fields c.args.line.now c.in-Some.behind.now c.in-Some-rest.field-0.now _ _ _ _ _ _ _ _
    (cut_four_on c.in_ok-front.ensures c.in-Some.is) (cut_four_on c.in_ok-back.ensures c.in-Some-rest.is)
