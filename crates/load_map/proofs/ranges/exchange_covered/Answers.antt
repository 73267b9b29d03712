use Rattle.std.proofs.Common.{◌≡◌, ◌++◌, [], List, length, map, ap, sym, ◌∙◌, arith, rules, drop, take, ◌+◌, ◌≤◌, min}
use Rattle.std.specs.Option.{option_to_list}
use Rattle.std.specs.Iterator.{Drains}
use Rattle.std.specs.Vec.Iter.{into_iter_items, into_iter_len, into_iter_steps}
use Rattle.std.proofs.lemmas.List.{map-id}
use Rattle.std.proofs.lemmas.Iterator.{items_from_drains}
use Rattle.std.proofs.lemmas.Iterator.Adapters.{YieldsList-from_vec}
use Rattle.load_map.specs.Ranges.{left_of, right_of, ended_by}
use Rattle.load_map.proofs.Halving.{tail_at, ended_more, exchange_is}
use Rattle.load_map.proofs.ranges.exchange_covered.Goals as goal

drained : {A Z : Type 0} (s : _) (all xs : List A) → into_iter_items s ≡ all → into_iter_len s ≡ length all → Drains (into_iter_steps {X = A} {Z = Z}) s xs → xs ≡ all
drained s all xs items len d = sym (map-id xs) ∙ items_from_drains {v = λ x. x} xs (d.1.0, d.1.1, λ _. (d.0, d.1.2)) (YieldsList-from_vec all items len)

pub splice-requires-clause-start_le_end : goal.splice-requires-clause-start_le_end
splice-requires-clause-start_le_end c =
    let ranges = c.args.ranges.now.items in
    let first : c.count_ended-first.result ≡ ended_by c.args.base ranges = search rules in
    let last : c.count_ended-last.result ≡ ended_by c.args.end ranges = search rules in
    let bound : c.count_ended-first.result ≤ length ranges = search rules in
    omega (arith, ended_more c.args.base c.args.end ranges (omega arith), c.args.ranges.now.ok.0)

pub returns-clause-exchanged : goal.returns-clause-exchanged
returns-clause-exchanged c =
    let ranges = c.args.ranges.now.items in
    let n = c.count_ended-first.result in
    let m = c.count_ended-last.result in
    let first : n ≡ ended_by c.args.base ranges = search rules in
    let last : m ≡ ended_by c.args.end ranges = search rules in
    let bound : m ≤ length ranges = search rules in
    let left : option_to_list c.left_of.result ≡ left_of c.args.base (drop n ranges) = c.left_of.ensures ∙ ap (left_of c.args.base) (tail_at n ranges c.deref-3.result.now c.deref-3.ensures.value) in
    let right : option_to_list c.right_of.result ≡ right_of c.args.end (drop m ranges) = c.right_of.ensures ∙ ap (right_of c.args.end) (tail_at m ranges c.deref-4.result.now c.deref-4.ensures.value) in
    let middle : c.push_some-3.new.out.items ≡ (([] ++ left_of c.args.base (drop n ranges)) ++ option_to_list c.args.new) ++ right_of c.args.end (drop m ranges) = search rules in
    let h = c.in_ok-splice.ensures.items in
    let xs : h.1 ≡ c.push_some-3.new.out.items = drained h.0 c.push_some-3.new.out.items h.1 h.2.0 (h.2.1 ∙ c.push_some-3.new.out.ok.0) h.3 in
    let behind : c.next_of-behind.result ≡ min (m + 1) (length ranges) = c.next_of-behind.ensures ∙ ap (λ i. min (m + 1) i) (c.len.ensures ∙ c.args.ranges.now.ok.0) in
    exchange_is c.args.base c.args.end n m (option_to_list c.args.new) ranges c.push_some-3.new.out.items c.splice.new.self.items c.requires.rising first last bound middle
    (h.4 ∙ (ap (λ l. take n ranges ++ (l ++ drop c.next_of-behind.result ranges)) xs ∙ ap (λ i. take n ranges ++ (c.push_some-3.new.out.items ++ drop i ranges)) behind))
