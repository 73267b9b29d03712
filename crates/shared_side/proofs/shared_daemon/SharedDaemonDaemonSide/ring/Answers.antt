use Rattle.std.proofs.Common.{◌≤◌, sym, ap, subst, arith}
use Rattle.atomic_table.specs.Seated.{TableId}
use Rattle.driver_model.specs.Handover.{rung_of}
use Rattle.shared_side.specs.Shown.{AreKeys}
use Rattle.shared_side.proofs.Rung.{same_last, rings_on}
use Rattle.shared_side.proofs.shared_daemon.SharedDaemonDaemonSide.ring.Goals as goal

pub ring-requires-clause-rising : goal.ring-requires-clause-rising
ring-requires-clause-rising c =
    omega (arith, same_last c.self.inside.bell.rungs, ap (λ s. rung_of s.far.rungs) c.self.view_is, c.requires.later)

pub invariant_of-self : goal.invariant_of-self
invariant_of-self c =
    let later : rung_of c.self.inside.bell.rungs ≤ c.args.value = omega (arith, ap (λ s. rung_of s.far.rungs) c.self.view_is, c.requires.later) in
    let i = c.self.invariant in
    let more = rings_on c.self.inside.bell.rungs c.ring.new.self.rungs c.args.value i.rising later c.requires.bound c.ring.ensures.rungs in
    let s = c.self.inside in
    record { keys = subst (λ (t : TableId). AreKeys s.first.key s.second.key s.third.key t) (sym c.ring.ensures.stays.0) i.keys; rising = more.0; bound = more.1 }
