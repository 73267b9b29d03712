use Rattle.std.proofs.Common.{arith}
use Rattle.csv.specs.Writing.{text_written}
use Rattle.report_text.specs.Csvs.{records_after}
use Rattle.report_text.proofs.Lines.{sum_taken, record_taken}
use Rattle.report_text.proofs.csvs.put_rows.Goals as goal

pub overflow_add-up_to : goal.overflow_add-up_to
overflow_add-up_to g c =
    let items = c.args.rows.now in
    let next = sum_taken items c.row-item.result c.loop-row.row-index c.loop-row.up_to c.args.total (omega arith) c.row-item.is c.loop-row.invariant.sum in
    omega arith

pub loop-row-preserved : goal.loop-row-preserved
loop-row-preserved g c =
    let items = c.args.rows.now in
    record {
      ready = c.in_ok-put_row.ensures.ready;
      bytes = record_taken c.args.procedures items c.row-item.result c.loop-row.row-index c.loop-row.up_to c.args.total
          (text_written g.W.Write.contents c.args.writer.now) (text_written g.W.Write.contents c.loop-row.writer) (text_written g.W.Write.contents c.put_row.new.writer)
          (records_after c.args.procedures c.args.total 0 c.args.rows.now) (omega arith) c.row-item.is c.in_ok-put_row.ensures.bytes c.loop-row.invariant.bytes;
      sum = sum_taken items c.row-item.result c.loop-row.row-index c.loop-row.up_to c.args.total (omega arith) c.row-item.is c.loop-row.invariant.sum;
    }
