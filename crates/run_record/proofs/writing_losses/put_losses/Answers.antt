use Rattle.std.proofs.Common.{◌∙◌, take, arith}
use Rattle.var_bytes.proofs.Appending.{appends_item}
use Rattle.database_model.specs.SegmentForm.{next_loss}
use Rattle.run_record.proofs.LossLaws.{at_place}
use Rattle.run_record.proofs.Parts.{loss_written}
use Rattle.run_record.proofs.writing_losses.put_losses.Goals as goal

pub loop-loss-preserved : goal.loop-loss-preserved
loop-loss-preserved c =
    appends_item next_loss c.args.losses.now c.loop-loss.loss-index _ c.args.out.now.items c.loop-loss.out.items c.put_numbers.new.out.items c.loop-loss-test.true c.loop-loss.invariant
    (loss_written (take c.loop-loss.loss-index c.args.losses.now) _ c.loop-loss.out.items c.put_numbers.new.out.items c.from-code.result (at_place c.args.losses.now c.loop-loss.loss-index _ c.requires c.loop-loss-test.true)
    (c.in_ok-put_numbers.ensures.wide 2 0 (omega arith)) (c.in_ok-put_numbers.ensures.wide 3 0 (omega arith)) (c.from-code.ensures ∙ c.code.ensures) c.in_ok-put_numbers.ensures.ok)
