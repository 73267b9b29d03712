-- The row of the offset, if it is there, is behind.
use Rattle.std.proofs.Common.{drop}
use Rattle.profile_merge.proofs.Rows.{rows_behind}
use Rattle.profile_merge.proofs.MergeSteps.{past_taken}
use Rattle.profile_merge.proofs.merging.put_sum.Goals as goal

pub held_at-held-requires : goal.held_at-held-requires
held_at-held-requires c = record { rows = rows_behind c.args.out.now (drop c.args.at c.args.rows.now) c.requires.rows }

pub returns-clause-rest : goal.returns-clause-rest
returns-clause-rest c = past_taken c.args.offset c.args.at c.held_at-held.result c.past.result c.args.rows.now (rows_behind c.args.out.now (drop c.args.at c.args.rows.now) c.requires.rows) c.held_at-held.ensures.held c.past.ensures
