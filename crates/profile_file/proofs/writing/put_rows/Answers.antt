use Rattle.std.proofs.Common.{ap, sym, ◌∙◌, take}
use Rattle.std.proofs.lemmas.List.{take_more}
use Rattle.database_model.specs.declared.profiles.ProfileRow.{ProfileRow}
use Rattle.database_model.specs.ProfileForm.{last_position}
use Rattle.std.proofs.Common.{List}
use Rattle.profile_file.proofs.Rows.{last_before, last_position-push}
use Rattle.profile_file.proofs.ProfileLaws.{put_more}
use Rattle.profile_file.proofs.writing.put_rows.Goals as goal

pub overflow_sub-position : goal.overflow_sub-position
overflow_sub-position c = rw c.loop-row.invariant.last (last_before c.args.rows.now c.loop-row.row-index _ c.requires c.loop-row-test.true)

pub loop-row-preserved : goal.loop-row-preserved
loop-row-preserved c =
    record {
      last = sym (ap (λ (rows : List ProfileRow). last_position rows) (take_more c.args.rows.now c.loop-row.row-index _ c.loop-row-test.true) ∙ last_position-push (take c.loop-row.row-index c.args.rows.now) _);
      text = c.in_ok-put_numbers.ensures.ok ∙ put_more c.args.rows.now c.loop-row.row-index _ c.loop-row.out.items c.args.out.now.items c.loop-row.last c.loop-row-test.true c.loop-row.invariant.last c.loop-row.invariant.text;
    }
