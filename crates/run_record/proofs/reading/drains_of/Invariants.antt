use Rattle.std.proofs.Common.{◌≡◌, ◌-◌, ◌≤◌, [], length}
use Rattle.var_bytes.specs.Forms.{repeat}
use Rattle.var_bytes.specs.Reading.{take_form}
use Rattle.database_model.specs.SegmentForm.{drain}
use Rattle.run_record.proofs.reading.drains_of.Given as goal

abbrev pub invariant-loop : goal.invariant-loop
invariant-loop l =
    record {
      within : l.at ≤ length l.bytes;
      told : take_form (repeat (λ before. drain) (l.count - l.counter) l.drains.items) l.bytes l.at ≡ take_form (repeat (λ before. drain) l.count []) l.bytes l.fn.at;
    }
