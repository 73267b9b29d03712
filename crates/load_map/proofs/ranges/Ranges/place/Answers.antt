use Rattle.std.proofs.Common.{◌≡◌, drop, ap, sym, ◌∙◌, rules}
use Rattle.load_map.specs.Ranges.{RangesFrom, first_place, place_in, ended_by}
use Rattle.load_map.proofs.Halving.{tail_at, halved_place}
use Rattle.load_map.proofs.Rising.{drop_rises}
use Rattle.load_map.proofs.ranges.Ranges.place.Goals as goal

pub first_place-requires : goal.first_place-requires
first_place-requires c =
    let ranges = c.self.inside.list.items in
    let n = c.count_ended-first.result in
    rw (tail_at n ranges c.deref-2.result.now c.deref-2.ensures.value) (drop_rises 0 n ranges c.self.invariant)

pub returns-clause-place : goal.returns-clause-place
returns-clause-place c =
    let ranges = c.self.inside.list.items in
    let n = c.count_ended-first.result in
    let count : n ≡ ended_by c.args.pc ranges = search rules in
    let found : c.first_place.result ≡ first_place (drop n ranges) c.args.pc = c.first_place.ensures.place ∙ ap (λ l. first_place l c.args.pc) (tail_at n ranges c.deref-2.result.now c.deref-2.ensures.value) in
    let placed : place_in ranges c.args.pc ≡ first_place (drop n ranges) c.args.pc = halved_place c.args.pc 0 ranges c.self.invariant ∙ ap (λ i. first_place (drop i ranges) c.args.pc) (sym count) in
    found ∙ (sym placed ∙ ap (λ l. place_in l c.args.pc) c.self.view_is)
