use Rattle.std.proofs.Common.{◌≡◌, ◌++◌, drop}
use Rattle.direct_counts.proofs.ranks.copied.Given as goal

abbrev pub invariant-loop-image : goal.invariant-loop-image
invariant-loop-image l = l.names.items ++ drop l.image-index l.images ≡ l.images
