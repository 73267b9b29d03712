use Rattle.std.proofs.Common.{◌≤◌, sym, subst}
use Rattle.driver_model.specs.Handover.{rung_of}
use Rattle.lane_side.specs.Tallies.{Tallies}
use Rattle.lane_side.specs.Plain.{Plain, IsPlain}
use Rattle.lane_side.specs.Insides.{parts_of}
use Rattle.lane_side.proofs.PlainLemmas.{rang_plain}
use Rattle.lane_side.proofs.plain_daemon.PlainSideDaemonSide.ring.Goals as goal

pub invariant_of-self : goal.invariant_of-self
invariant_of-self c =
    let p = parts_of c.self.inside in let w = c.args.value in
    subst (λ (t : Tallies). IsPlain (record p { bell = w; tallies = t })) (sym c.note.ensures)
    (rang_plain p w (subst (λ (z : Plain). rung_of z.far.rungs ≤ w) (sym c.self.view_is) c.requires.later) c.requires.bound c.self.invariant)
