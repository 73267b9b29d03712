use Rattle.text_num.proofs.Cutting.{cut_on, then_cut}
use Rattle.symbol_ranges.proofs.Cutting.{five_fields}
use Rattle.symbol_ranges.proofs.fields.fields_of.Goals as goal

pub returns-in-Some-after_name : goal.returns-in-Some-after_name
returns-in-Some-after_name c = five_fields c.args.line.now c.in-Some-after_name.field-0.now c.cut_field.result.0.now c.cut_field-2.result.0.now c.cut_field-3.result.0.now c.cut_field-4.result.0.now
    (then_cut (cut_on 32 c.cut_field.ensures c.in-Some.is) (then_cut (cut_on 32 c.cut_field-2.ensures c.in-Some-after_start.is) (then_cut (cut_on 32 c.cut_field-3.ensures c.in-Some-after_length.is) (cut_on 32 c.cut_field-4.ensures c.in-Some-after_name.is))))
