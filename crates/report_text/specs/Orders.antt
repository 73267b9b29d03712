-- The laws of the two orders.
use Rattle.std.specs.Cmp.{IsTotalOrder}
use Rattle.std.proofs.lemmas.Cmp.{nat_cmp_total, nat_list_cmp_total, on_total, then_total, back_total}
use Rattle.report_text.specs.declared.rows.Row.{Row}
use Rattle.report_text.specs.Labels.{image_of, procedure_of, kind_of, last_of, label_cmp, row_cmp}

pub label_total : IsTotalOrder label_cmp
label_total = then_total (on_total last_of nat_cmp_total) (then_total (on_total image_of nat_list_cmp_total) (then_total (on_total procedure_of nat_list_cmp_total) (on_total kind_of nat_cmp_total)))

pub row_total : IsTotalOrder row_cmp
row_total = then_total (on_total (λ (row : Row). row.count) (back_total nat_cmp_total)) (on_total (λ (row : Row). row.label) label_total)
