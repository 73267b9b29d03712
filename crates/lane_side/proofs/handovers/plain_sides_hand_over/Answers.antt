use Rattle.std.proofs.Common.{subst}
use Rattle.lane_side.specs.Handing.{HandsOver}
use Rattle.lane_side.specs.Insides.{parts_of}
use Rattle.lane_side.specs.Plain.{Plain}
use Rattle.lane_side.proofs.PlainHanding.{plain_over}
use Rattle.lane_side.proofs.handovers.plain_sides_hand_over.Goals as goal

pub returns : goal.returns
returns c = subst (λ (z : Plain). HandsOver z.seen z.far) c.side.view_is (plain_over (parts_of c.side.inside) c.side.invariant)
