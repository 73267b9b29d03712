-- The profiles so far have their parts.
use Rattle.profile_merge.proofs.PartsSoFar.{PartsSoFar}
use Rattle.profile_merge.proofs.parts.parts_of.Given as goal

abbrev pub invariant-loop-owner : goal.invariant-loop-owner
invariant-loop-owner l = PartsSoFar l.numbers l.gathered l.owner-iterator l.parts.entries
