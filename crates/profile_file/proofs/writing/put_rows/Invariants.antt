use Rattle.std.proofs.Common.{◌≡◌, ◌++◌, [], take}
use Rattle.var_bytes.specs.Numbers.{spell}
use Rattle.var_bytes.specs.Forms.{fields_after}
use Rattle.database_model.specs.ProfileForm.{row_fields, last_position}
use Rattle.profile_file.proofs.writing.put_rows.Given as goal

abbrev pub invariant-loop-row : goal.invariant-loop-row
invariant-loop-row l =
    record {
      last : l.last ≡ last_position (take l.row-index l.rows);
      text : l.out.items ≡ l.fn.out.items ++ spell (fields_after row_fields [] (take l.row-index l.rows));
    }
