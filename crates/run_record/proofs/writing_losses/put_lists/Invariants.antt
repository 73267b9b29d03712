use Rattle.std.proofs.Common.{[], take, map}
use Rattle.var_bytes.specs.Forms.{repeat, Appends}
use Rattle.database_model.specs.SegmentForm.{processor}
use Rattle.run_record.proofs.writing_losses.put_lists.Given as goal

abbrev pub invariant-loop-losses : goal.invariant-loop-losses
invariant-loop-losses l = Appends (repeat (λ before. processor) l.losses-index []) l.fn.out.items l.out.items (take l.losses-index (map (λ v. v.items) l.lists))
