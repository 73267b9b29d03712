use Rattle.std.proofs.Common.{sym}
use Rattle.std.proofs.lemmas.Result.{err_from_is_err_and}
use Rattle.var_bytes.proofs.FormLaws.{repeat_goes_on, repeat_ends}
use Rattle.database_model.specs.SegmentForm.{next_loss}
use Rattle.run_record.proofs.Steps.{loss_read}
use Rattle.run_record.proofs.LossLaws.{least_index-push}
use Rattle.run_record.proofs.reading_losses.losses_of.Goals as goal

pub returns-in_err-loss-clause-value : goal.returns-in_err-loss-clause-value
returns-in_err-loss-clause-value c =
    let p = err_from_is_err_and c.from_residual.result c.from_residual.ensures.1 in
    let here = loss_read c.loop.losses.items c.loop.least c.args.bytes.now c.loop.at _ c.loop.invariant.least c.in_err-loss.ensures.value in
    rw (p.1, p.2) (repeat_ends next_loss c.args.count c.loop.counter c.loop.losses.items c.args.bytes.now c.loop.at c.in_err-loss.field-0.0.at _ c.loop-test.true here c.loop.invariant.told)

pub loop-preserved : goal.loop-preserved
loop-preserved c =
    let here = loss_read c.loop.losses.items c.loop.least c.args.bytes.now c.loop.at _ c.loop.invariant.least c.in_ok-loss.ensures.value in
    record {
      least = rw c.in_ok-push.ensures.items (sym (least_index-push c.loop.losses.items c.in_ok-loss.loss));
      within = c.in_ok-loss.ensures.within;
      told = rw c.in_ok-push.ensures.items (repeat_goes_on next_loss c.args.count c.loop.counter c.loop.losses.items c.args.bytes.now c.loop.at c.in_ok-loss.loss c.in_ok-loss.after _ c.loop-test.true here c.loop.invariant.told);
    }
