-- The rows so far are copied.
use Rattle.profile_merge.proofs.MergeSteps.{CopiedSoFar}
use Rattle.profile_merge.proofs.merging.copy_below.Given as goal

abbrev pub invariant-loop-i : goal.invariant-loop-i
invariant-loop-i l = CopiedSoFar l.offset l.rows l.fn.at l.i l.fn.out l.out
