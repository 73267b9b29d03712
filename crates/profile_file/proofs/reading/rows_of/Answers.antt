use Rattle.std.proofs.Common.{◌≡◌, ◌+◌, ◌*◌, sym, arith}
use Rattle.std.proofs.lemmas.Result.{err_from_is_err_and}
use Rattle.var_bytes.proofs.FormLaws.{repeat_goes_on, repeat_ends}
use Rattle.database_model.specs.ProfileForm.{next_row}
use Rattle.profile_file.proofs.Rows.{row_above, last_position-push, least_distance-push}
use Rattle.profile_file.proofs.Steps.{row_read, is_row_at}
use Rattle.profile_file.proofs.reading.rows_of.Goals as goal

pub returns-in_err-row-clause-value : goal.returns-in_err-row-clause-value
returns-in_err-row-clause-value c =
    let p = err_from_is_err_and c.from_residual-in_err-row.result c.from_residual-in_err-row.ensures.1 in
    let here = row_read c.loop.profile c.loop.least c.loop.last c.args.bytes.now c.loop.at _ c.loop.invariant.least c.loop.invariant.last c.in_err-row.ensures.value in
    rw (p.1, p.2) (repeat_ends next_row c.args.count c.loop.counter c.loop.profile c.args.bytes.now c.loop.at c.in_err-row.field-0.0.at _ c.loop-test.true here c.loop.invariant.told)

pub push-requires-clause-above : goal.push-requires-clause-above
push-requires-clause-above c =
    let rise = rw c.profile.view_is at c.profile.invariant in
    row_above c.loop.profile c.in_ok-row.row rise (is_row_at c.loop.profile c.in_ok-row.row c.loop.least c.loop.last c.loop.invariant.least c.loop.invariant.last c.in_ok-row.ensures.row)

pub loop-preserved : goal.loop-preserved
loop-preserved c =
    let here = row_read c.loop.profile c.loop.least c.loop.last c.args.bytes.now c.loop.at _ c.loop.invariant.least c.loop.invariant.last c.in_ok-row.ensures.value in
    let is = c.in_ok-row.ensures.row in
    let offset : c.in_ok-row.row.offset ≡ 4 * (c.loop.last + is.distance) = is.offset in
    record {
      last = rw c.in_ok-push.ensures (sym (last_position-push c.loop.profile c.in_ok-row.row));
      least = rw c.in_ok-push.ensures (sym (least_distance-push c.loop.profile c.in_ok-row.row));
      small = omega (arith, is.near);
      within = c.in_ok-row.ensures.within;
      told = rw c.in_ok-push.ensures (repeat_goes_on next_row c.args.count c.loop.counter c.loop.profile c.args.bytes.now c.loop.at c.in_ok-row.row c.in_ok-row.after _ c.loop-test.true here c.loop.invariant.told);
    }
