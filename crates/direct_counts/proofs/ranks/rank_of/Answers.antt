use Rattle.std.proofs.Common.{rules}
use Rattle.std.specs.Ordering.{is_lt, nat_cmp}
use Rattle.std.specs.Cmp.Lexicographic.{slice_cmp}
use Rattle.std.proofs.lemmas.List.Sorted.{IsPartitionPoint-from_clause}
use Rattle.direct_counts.proofs.Ranking.{names_part, name_found}
use Rattle.direct_counts.proofs.ranks.rank_of.Goals as goal

pub returns-clause-rank : goal.returns-clause-rank
returns-clause-rank c =
    let names = c.args.names.now in
    let name = c.args.image.now in
    let point = IsPartitionPoint-from_clause (λ other. is_lt (slice_cmp nat_cmp other name)) _ _ c.partition_point.ensures.partitioned (names_part names name c.requires.sorted) (λ a r q k. search rules) in
    (name_found names name c.partition_point.result c.requires.sorted c.requires.member point).rank

pub returns-clause-named : goal.returns-clause-named
returns-clause-named c =
    let names = c.args.names.now in
    let name = c.args.image.now in
    let point = IsPartitionPoint-from_clause (λ other. is_lt (slice_cmp nat_cmp other name)) _ _ c.partition_point.ensures.partitioned (names_part names name c.requires.sorted) (λ a r q k. search rules) in
    (name_found names name c.partition_point.result c.requires.sorted c.requires.member point).named
