use Rattle.text_num.proofs.Cutting.{cut_on, then_cut}
use Rattle.trace_text.proofs.Cutting.{four_fields}
use Rattle.trace_text.proofs.schedule.step_form.Goals as goal

pub returns-in-Some-after_cell : goal.returns-in-Some-after_cell
returns-in-Some-after_cell c = four_fields c.args.line.now c.in-Some-after_cell.field-0.now
    c.cut_field.result.0.now c.cut_field-2.result.0.now c.cut_field-3.result.0.now
    (then_cut (cut_on 32 c.cut_field.ensures c.in-Some.is) (then_cut (cut_on 32 c.cut_field-2.ensures c.in-Some-after_cpu.is) (cut_on 32 c.cut_field-3.ensures c.in-Some-after_cell.is)))
