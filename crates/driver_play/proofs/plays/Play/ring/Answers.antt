use Rattle.std.proofs.Common.{◌∙◌, ap, arith}
use Rattle.driver_model.specs.Handover.{FarSide, rung_of}
use Rattle.lane_side.proofs.Bells.{last-push}
use Rattle.driver_play.specs.Plays.{Both}
use Rattle.driver_play.proofs.Playing.{plays_rung}
use Rattle.driver_play.proofs.plays.Play.ring.Goals as goal

pub ring-requires-clause-bound : goal.ring-requires-clause-bound
ring-requires-clause-bound c =
    omega (arith, c.requires.few, c.self.invariant.few, ap (λ (b : Both). b.requests) c.self.view_is)

pub invariant_of-self : goal.invariant_of-self
invariant_of-self c =
    let s = c.self.inside.side in
    plays_rung c.invariant_is_kept.ensures.polls c.self.inside.requests c.self.inside.lane s c.ring.new.self c.args.value s.seen.first.tries c.self.invariant
    (omega (arith, c.requires.few, ap (λ (b : Both). b.requests) c.self.view_is)) c.ring.ensures.seen c.ring.ensures.far c.ring.ensures.fixed

pub returns-clause-rungs : goal.returns-clause-rungs
returns-clause-rungs c = ap (λ (f : FarSide). rung_of f.rungs) c.ring.ensures.far ∙ last-push 0 c.self.inside.side.far.rungs c.args.value
