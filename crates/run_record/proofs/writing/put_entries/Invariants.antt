use Rattle.std.proofs.Common.{[], take}
use Rattle.std.specs.List.{zip}
use Rattle.var_bytes.specs.Forms.{repeat, Appends}
use Rattle.database_model.specs.SegmentForm.{flagged_entry}
use Rattle.run_record.proofs.writing.put_entries.Given as goal

abbrev pub invariant-loop-i : goal.invariant-loop-i
invariant-loop-i l = Appends (repeat (λ before. flagged_entry) l.i []) l.fn.out.items l.out.items (take l.i (zip l.entries l.known))
