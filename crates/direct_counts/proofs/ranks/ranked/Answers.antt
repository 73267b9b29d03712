use Rattle.std.proofs.Common.{◌<◌, length, arith, sym}
use Rattle.std.proofs.lemmas.List.Sorted.{Contains-permutation}
use Rattle.direct_counts.proofs.Ranking.{one_rank_more}
use Rattle.direct_counts.proofs.ranks.ranked.Goals as goal

pub rank_of-requires-clause-member : goal.rank_of-requires-clause-member
rank_of-requires-clause-member c =
    let images = c.args.images.now in
    let bound : c.loop-image.image-index < length images = omega arith in
    rw c.deref.ensures.value (Contains-permutation images c.in_ok-names.names.items c.image-item.result c.in_ok-names.ensures.whole (c.loop-image.image-index, bound, sym c.image-item.is))

pub loop-image-preserved : goal.loop-image-preserved
loop-image-preserved c =
    let images = c.args.images.now in
    let names = c.in_ok-names.names.items in
    let bound : c.loop-image.image-index < length images = omega arith in
    let rank = rw c.deref.ensures.value at c.rank_of.ensures.rank in
    let named = rw c.deref.ensures.value at c.rank_of.ensures.named in
    rw c.in_ok-push.ensures.items (one_rank_more images names c.loop-image.ranks.items c.loop-image.image-index c.rank_of.result c.image-item.result c.loop-image.invariant bound rank named c.image-item.is)
