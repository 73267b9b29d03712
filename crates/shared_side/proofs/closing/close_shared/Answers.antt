use Rattle.std.proofs.Common.{ℕ}
use Rattle.driver_model.specs.Table.{entries_in}
use Rattle.driver_model.specs.Handover.{IsHandover, IsBell, rung_of}
use Rattle.shared_side.specs.Carrying.{batch_in}
use Rattle.shared_side.proofs.Handing.{handed_over, bell_over, at_views}
use Rattle.shared_side.proofs.closing.close_shared.Goals as goal

pub returns-clause-first : goal.returns-clause-first
returns-clause-first c =
    let x = c.lane.inside.first in let y = c.daemon.inside.first in let w = c.close-first.result.word in
    at_views (λ s t. (given : ℕ) × IsHandover s.seen.first.handed t.far.first.taken given w s.seen.first.holds t.far.first.holds) c.lane.view_is c.daemon.view_is
    (y.backs, handed_over (batch_in (λ b. b.entries)) x.handed y.taken y.backs w x.holds y.holds c.close-first.ensures.handoff)

pub returns-clause-second : goal.returns-clause-second
returns-clause-second c =
    let x = c.lane.inside.second in let y = c.daemon.inside.second in let w = c.close-second.result.word in
    at_views (λ s t. (given : ℕ) × IsHandover s.seen.second.handed t.far.second.taken given w s.seen.second.holds t.far.second.holds) c.lane.view_is c.daemon.view_is
    (y.backs, handed_over (batch_in (λ b. b.entries)) x.handed y.taken y.backs w x.holds y.holds c.close-second.ensures.handoff)

pub returns-clause-third : goal.returns-clause-third
returns-clause-third c =
    let x = c.lane.inside.third in let y = c.daemon.inside.third in let w = c.close-third.result.word in
    at_views (λ s t. (given : ℕ) × IsHandover s.seen.third.handed t.far.third.taken given w s.seen.third.holds t.far.third.holds) c.lane.view_is c.daemon.view_is
    (y.backs, handed_over (batch_in entries_in) x.handed y.taken y.backs w x.holds y.holds c.close-third.ensures.handoff)

pub returns-clause-bell : goal.returns-clause-bell
returns-clause-bell c =
    let d = c.daemon.invariant in let m = c.meet.ensures in let r = c.daemon.inside.bell.rungs in
    at_views (λ s t. IsBell t.far.rungs (rung_of t.far.rungs) s.seen.heard) c.lane.view_is c.daemon.view_is
    (bell_over r c.lane.inside.bell.heard c.note.result.value d.rising d.bound c.note.ensures.note.1 m.below m.rung)
