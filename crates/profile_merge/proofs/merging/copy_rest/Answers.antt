-- The next row lies above those that are out.
use Rattle.std.proofs.Common.{sym, subst}
use Rattle.database_model.specs.Ranges.{AreRows}
use Rattle.profile_merge.proofs.MergeSteps.{next_pushable}
use Rattle.profile_merge.proofs.merging.copy_rest.Goals as goal

pub push-requires-clause-row : goal.push-requires-clause-row
push-requires-clause-row c = (next_pushable c.args.rows.now c.loop-i.i c.loop-i.out _ c.loop-i-test.true (subst AreRows (sym c.loop-i.invariant) c.requires.rows)).0

pub push-requires-clause-above : goal.push-requires-clause-above
push-requires-clause-above c = (next_pushable c.args.rows.now c.loop-i.i c.loop-i.out _ c.loop-i-test.true (subst AreRows (sym c.loop-i.invariant) c.requires.rows)).1
