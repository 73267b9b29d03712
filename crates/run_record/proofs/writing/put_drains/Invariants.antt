use Rattle.std.proofs.Common.{[], take}
use Rattle.var_bytes.specs.Forms.{repeat, Appends}
use Rattle.database_model.specs.SegmentForm.{drain}
use Rattle.run_record.proofs.writing.put_drains.Given as goal

abbrev pub invariant-loop-d : goal.invariant-loop-d
invariant-loop-d l = Appends (repeat (λ before. drain) l.d-index []) l.fn.out.items l.out.items (take l.d-index l.drains)
