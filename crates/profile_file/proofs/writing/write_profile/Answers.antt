use Rattle.profile_file.proofs.ProfileLaws.{is_written}
use Rattle.profile_file.proofs.writing.write_profile.Goals as goal

pub returns : goal.returns
returns c =
    let head = rw c.new-out.ensures.items at c.in_ok-put_numbers.ensures.ok in
    rw (← c.rows-rows.ensures.list) (is_written c.put_rows.new.out.items c.put_numbers.new.out.items c.rows-rows.result.now c.rows-rows.ensures.rising head c.in_ok-put_rows.ensures)
