use Rattle.std.proofs.Common.{arith}
use Rattle.report_text.proofs.Lines.{sum_taken, some_here}
use Rattle.report_text.proofs.texts.put_lines.Goals as goal

pub overflow_add-up_to : goal.overflow_add-up_to
overflow_add-up_to c =
    let items = c.args.rows.now in
    let next = sum_taken items c.row-item.result c.loop-row.row-index c.loop-row.up_to c.args.total (omega arith) c.row-item.is c.loop-row.invariant.sum in
    omega arith

pub put_line-requires-clause-some : goal.put_line-requires-clause-some
put_line-requires-clause-some c =
    let items = c.args.rows.now in
    let next = sum_taken items c.row-item.result c.loop-row.row-index c.loop-row.up_to c.args.total (omega arith) c.row-item.is c.loop-row.invariant.sum in
    let some = some_here items c.row-item.result c.loop-row.row-index c.requires.some (omega arith) c.row-item.is in
    omega arith
