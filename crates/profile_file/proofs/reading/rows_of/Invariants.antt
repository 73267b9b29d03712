use Rattle.std.proofs.Common.{◌≡◌, ◌-◌, ◌^◌, ◌≤◌, [], length}
use Rattle.var_bytes.specs.Forms.{repeat}
use Rattle.var_bytes.specs.Reading.{take_form}
use Rattle.database_model.specs.ProfileForm.{next_row, last_position, least_distance}
use Rattle.profile_file.proofs.reading.rows_of.Given as goal

abbrev pub invariant-loop : goal.invariant-loop
invariant-loop l =
    record {
      last : l.last ≡ last_position l.profile;
      least : l.least ≡ least_distance l.profile;
      small : l.last ≤ 2 ^ 62 - 1;
      within : l.at ≤ length l.bytes;
      told : take_form (repeat next_row (l.count - l.counter) l.profile) l.bytes l.at ≡ take_form (repeat next_row l.count []) l.bytes l.fn.at;
    }
