-- The images so far have their numbers.
use Rattle.std.proofs.Common.{◌≡◌, length}
use Rattle.profile_merge.proofs.Numbers.{NumberedSoFar}
use Rattle.profile_merge.proofs.numbering.number_images.Given as goal

abbrev pub invariant-loop-i : goal.invariant-loop-i
invariant-loop-i l = (l.count ≡ length l.held) × NumberedSoFar l.held l.used l.names l.fresh.items l.numbers.items l.i
