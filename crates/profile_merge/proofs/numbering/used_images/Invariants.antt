-- The profiles so far have marked their images.
use Rattle.profile_merge.proofs.Marks.{MarkedSoFar}
use Rattle.profile_merge.proofs.numbering.used_images.Given as goal

abbrev pub invariant-loop-owner : goal.invariant-loop-owner
invariant-loop-owner l = MarkedSoFar l.images l.gathered l.owner-iterator l.used.items
