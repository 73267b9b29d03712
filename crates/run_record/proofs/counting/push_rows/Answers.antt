use Rattle.std.proofs.Common.{refl}
use Rattle.run_record.proofs.TallyLaws.{rows_more}
use Rattle.run_record.proofs.counting.push_rows.Goals as goal

pub loop-event-preserved : goal.loop-event-preserved
loop-event-preserved c =
    let here = rw c.row_of.ensures.row at c.in_ok-push_row.ensures in
    record {
      events = refl;
      rows = rows_more c.args.r.now c.args.cpu c.loop-event.event-index _ c.args.rows.now.items c.loop-event.rows.items c.push_row.new.rows.items c.loop-event-test.true c.loop-event.invariant.rows here;
    }
