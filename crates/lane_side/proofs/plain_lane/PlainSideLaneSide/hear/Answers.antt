use Rattle.std.proofs.Common.{sym, subst}
use Rattle.lane_side.specs.Tallies.{Tallies}
use Rattle.lane_side.specs.Plain.{IsPlain}
use Rattle.lane_side.specs.Insides.{parts_of}
use Rattle.lane_side.proofs.PlainLemmas.{heard_plain}
use Rattle.lane_side.proofs.plain_lane.PlainSideLaneSide.hear.Goals as goal

pub invariant_of-self : goal.invariant_of-self
invariant_of-self c =
    let p = parts_of c.self.inside in
    subst (λ (t : Tallies). IsPlain (record p { tallies = t })) (sym c.note.ensures) (heard_plain p c.self.invariant)
