-- The sums so far are merged.
use Rattle.profile_merge.proofs.MergeSteps.{MergedTo}
use Rattle.profile_merge.proofs.merging.merged.Given as goal

abbrev pub invariant-loop-offset : goal.invariant-loop-offset
invariant-loop-offset l = MergedTo l.rows l.sums l.out l.at l.offset-iterator
