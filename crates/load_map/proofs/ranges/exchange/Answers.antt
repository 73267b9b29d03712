use Rattle.std.proofs.Common.{◌≡◌, true, drop, ap, sym, ◌∙◌, rules}
use Rattle.std.specs.Option.{option_to_list}
use Rattle.load_map.specs.Ranges.{ended_by, is_free_to}
use Rattle.load_map.proofs.Applying.{on_ok}
use Rattle.load_map.proofs.Halving.{tail_at}
use Rattle.load_map.proofs.Inserting.{free_is}
use Rattle.load_map.proofs.ranges.exchange.Goals as goal

pub returns-then-is_free_to-clause-exchanged : goal.returns-then-is_free_to-clause-exchanged
returns-then-is_free_to-clause-exchanged c =
    let ranges = c.args.ranges.now.items in
    let n = c.count_ended-first.result in
    let first : n ≡ ended_by c.args.base ranges = search rules in
    let free : is_free_to c.args.end (drop n ranges) ≡ true = ap (is_free_to c.args.end) (sym (tail_at n ranges c.deref-2.result.now c.deref-2.ensures.value)) ∙ (sym c.is_free_to.ensures ∙ c.if-is_free_to.true) in
    on_ok c.insert_some.result c.insert_some.ensures.inserted
    (free_is c.args.base c.args.end n (option_to_list c.args.new) ranges c.insert_some.new.ranges.items c.requires.order c.requires.rising first free)
