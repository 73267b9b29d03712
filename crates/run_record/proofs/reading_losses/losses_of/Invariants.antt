use Rattle.std.proofs.Common.{◌≡◌, ◌-◌, ◌≤◌, [], length}
use Rattle.var_bytes.specs.Forms.{repeat}
use Rattle.var_bytes.specs.Reading.{take_form}
use Rattle.database_model.specs.SegmentForm.{next_loss, least_index}
use Rattle.run_record.proofs.reading_losses.losses_of.Given as goal

abbrev pub invariant-loop : goal.invariant-loop
invariant-loop l =
    record {
      least : l.least ≡ least_index l.losses.items;
      within : l.at ≤ length l.bytes;
      told : take_form (repeat next_loss (l.count - l.counter) l.losses.items) l.bytes l.at ≡ take_form (repeat next_loss l.count []) l.bytes l.fn.at;
    }
