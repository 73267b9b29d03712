-- No row has a next one that it does not come before.
use Rattle.std.proofs.Common.{◌∙◌, sym}
use Rattle.database_state.proofs.Rising.{last_rises}
use Rattle.database_state.proofs.rows.is_rising.Goals as goal

pub returns : goal.returns
returns g c = sym (last_rises g.R.Placed.before c.args.rows.now c.loop-i.i c.loop-i-test.false c.loop-i.auto.i) ∙ c.loop-i.invariant
