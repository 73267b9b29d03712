use Rattle.std.proofs.Common.{[], take}
use Rattle.var_bytes.specs.Forms.{repeat, Appends}
use Rattle.database_model.specs.SegmentForm.{next_loss}
use Rattle.run_record.proofs.writing_losses.put_losses.Given as goal

abbrev pub invariant-loop-loss : goal.invariant-loop-loss
invariant-loop-loss l = Appends (repeat next_loss l.loss-index []) l.fn.out.items l.out.items (take l.loss-index l.losses)
