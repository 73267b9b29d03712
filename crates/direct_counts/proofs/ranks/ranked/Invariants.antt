use Rattle.std.proofs.Common.{◌≡◌}
use Rattle.std.specs.List.Sorted.{IsPermutation}
use Rattle.direct_counts.proofs.Ranking.{RanksSoFar}
use Rattle.direct_counts.proofs.ranks.ranked.Given as goal

abbrev pub invariant-loop-image : goal.invariant-loop-image
invariant-loop-image l = RanksSoFar l.images l.names.items l.ranks.items l.image-index
