use Rattle.std.proofs.Common.{sym, ◌∙◌}
use Rattle.trace_text.proofs.FieldValues.{table_told}
use Rattle.trace_text.proofs.fields.table_size.Goals as goal

pub returns-then-is_table_size : goal.returns-then-is_table_size
returns-then-is_table_size c = table_told c.args.text.now c.in_ok-n.n (sym c.in_ok-n.ensures) (sym c.is_table_size.ensures.test ∙ c.if-is_table_size.true)
