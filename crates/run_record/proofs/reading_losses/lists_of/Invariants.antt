use Rattle.std.proofs.Common.{◌≡◌, ◌-◌, ◌≤◌, [], length, map}
use Rattle.var_bytes.specs.Forms.{repeat}
use Rattle.var_bytes.specs.Reading.{take_form}
use Rattle.database_model.specs.SegmentForm.{processor}
use Rattle.run_record.proofs.reading_losses.lists_of.Given as goal

abbrev pub invariant-loop : goal.invariant-loop
invariant-loop l =
    record {
      within : l.at ≤ length l.bytes;
      told : take_form (repeat (λ before. processor) (l.count - l.counter) (map (λ v. v.items) l.lists.items)) l.bytes l.at ≡ take_form (repeat (λ before. processor) l.count []) l.bytes l.fn.at;
    }
