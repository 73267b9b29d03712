use Rattle.std.proofs.Common.{ap, sym, subst, ◌∙◌}
use Rattle.std.specs.Prelude.{IfSome}
use Rattle.std.specs.Arc.{arc_value}
use Rattle.turn_cell.specs.Handoff.{IsLeft}
use Rattle.turn_cell.proofs.CellSteps.{sets_down, joins, ends, left, rest_out}
use Rattle.turn_cell.proofs.Readying.{ready}
use Rattle.turn_cell.proofs.cell_ends.close.Goals as goal

pub load-requires : goal.load-requires
load-requires g c =
    let r = ready _ _ _ c.lane.invariant.same c.lane.invariant.words (ap (λ t. t.shared.table_id) c.deref.ensures) in
    let one = ap (λ e. e.cell) c.daemon.view_is ∙ (sym c.requires ∙ sym (ap (λ e. e.cell) c.lane.view_is)) in
    (one ∙ r.0, r.1, sets_down g.V.Kept.keeps g.V.Kept.returns _ _ _ _ _ c.daemon.invariant.role c.daemon.invariant.out)

pub join_seat-requires : goal.join_seat-requires
join_seat-requires g c =
    let r = ready _ _ _ c.lane.invariant.same c.lane.invariant.words (ap (λ t. t.shared.table_id) c.deref.ensures) in
    let one = ap (λ e. e.cell) c.daemon.view_is ∙ (sym c.requires ∙ sym (ap (λ e. e.cell) c.lane.view_is)) in
    let down = c.load.ensures.2 in
    (r.0, c.load.ensures.0 ∙ (one ∙ r.0), down.1 ∙ rest_out _ _ c.daemon.invariant.out, r.1, joins g.V.Kept.keeps g.V.Kept.returns _ _ _ _ _ c.lane.invariant.role (ap (λ v. v.role) down.0))

pub load-word-requires : goal.load-word-requires
load-word-requires g c =
    let r = ready _ _ _ c.lane.invariant.same c.lane.invariant.words (ap (λ t. t.shared.table_id) c.deref.ensures) in
    (c.join_seat.ensures.0 ∙ r.0, r.1, ends g.V.Kept.keeps g.V.Kept.returns _ _ _ c.lane.inside.seat.me.0 c.load.new.seat.me.0 c.join_seat.new.seat.me c.lane.inside.seat.me.1 c.join_seat.ensures.2 c.lane.invariant.out)

pub returns-clause-value : goal.returns-clause-value
returns-clause-value g c =
    let keeps = g.V.Kept.keeps in
    let returns = g.V.Kept.returns in
    let lane = c.lane.inside.seat.me in
    let word = c.load-word.result in
    let told = left keeps returns (arc_value c.lane.inside.table).shared.key lane.0 c.load.new.seat.me.0 c.daemon.inside.seat.me.0 c.join_seat.new.seat.me c.load-word.new.seat.me lane.1 word c.exchange.result
    c.join_seat.ensures.2 c.load.ensures.2.0 c.lane.invariant.key c.load-word.ensures.2 c.exchange.ensures.2 in
    subst (λ e. IfSome c.into_value-value.result (λ value. IsLeft keeps returns e.key e.handed c.args.daemon.taken word value)) c.lane.view_is
    (subst (λ e. IfSome c.into_value-value.result (λ value. IsLeft keeps returns (arc_value c.lane.inside.table).shared.key lane.0.handed e.taken word value)) c.daemon.view_is
    (subst (λ o. IfSome o (λ value. IsLeft keeps returns (arc_value c.lane.inside.table).shared.key lane.0.handed c.daemon.inside.seat.me.0.taken word value)) (sym c.into_value-value.ensures) told))
