use Rattle.text_num.proofs.Cutting.{cut_on, then_cut}
use Rattle.trace_text.proofs.Cutting.{six_fields}
use Rattle.trace_text.proofs.body_lines.body_form.Goals as goal

pub returns-in-Some-after_d : goal.returns-in-Some-after_d
returns-in-Some-after_d c = six_fields c.args.line.now c.in-Some-after_d.field-0.now
    c.cut_field.result.0.now c.cut_field-2.result.0.now c.cut_field-3.result.0.now c.cut_field-4.result.0.now c.cut_field-5.result.0.now
    (then_cut (cut_on 32 c.cut_field.ensures c.in-Some.is) (then_cut (cut_on 32 c.cut_field-2.ensures c.in-Some-after_a.is)
    (then_cut (cut_on 32 c.cut_field-3.ensures c.in-Some-after_b.is) (then_cut (cut_on 32 c.cut_field-4.ensures c.in-Some-after_c.is)
    (cut_on 32 c.cut_field-5.ensures c.in-Some-after_d.is)))))
