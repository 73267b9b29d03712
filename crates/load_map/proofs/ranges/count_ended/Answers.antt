use Rattle.std.proofs.Common.{leb, rules}
use Rattle.std.proofs.lemmas.List.Sorted.{IsPartitionPoint-from_clause}
use Rattle.load_map.proofs.Halving.{halves, counted_at}
use Rattle.load_map.proofs.ranges.count_ended.Goals as goal

pub returns-clause-count : goal.returns-clause-count
returns-clause-count c =
    let ranges = c.args.ranges.now in
    let point = IsPartitionPoint-from_clause (λ r. leb r.end c.args.pc) _ _ c.partition_point.ensures.partitioned (halves c.args.pc ranges c.requires) (λ a r q k. search rules) in
    counted_at c.args.pc c.partition_point.result ranges c.partition_point.ensures.bound point
