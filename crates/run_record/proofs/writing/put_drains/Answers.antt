use Rattle.std.proofs.Common.{subst}
use Rattle.var_bytes.specs.Forms.{Appends}
use Rattle.var_bytes.proofs.Appending.{appends_item}
use Rattle.database_model.specs.Runs.{Drained}
use Rattle.database_model.specs.SegmentForm.{drain}
use Rattle.run_record.proofs.writing.put_drains.Goals as goal

pub loop-d-preserved : goal.loop-d-preserved
loop-d-preserved c =
    appends_item (λ before. drain) c.args.drains.now c.loop-d.d-index c.d-item.result c.args.out.now.items c.loop-d.out.items c.put_drain.new.out.items c.loop-d-test.true c.loop-d.invariant
    (subst (λ (x : Drained). Appends drain c.loop-d.out.items c.put_drain.new.out.items x) c.d-item.is c.in_ok-put_drain.ensures)
