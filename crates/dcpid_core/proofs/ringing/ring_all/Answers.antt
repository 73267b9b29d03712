-- Each side is rung as it was.
use Rattle.driver_model.specs.Handover.{rung_of}
use Rattle.lane_side.specs.Plain.{Plain}
use Rattle.dcpid_core.specs.Collection.{MayRing, rang}
use Rattle.dcpid_core.proofs.Bells.{next_holds, next_set}
use Rattle.std.proofs.Common.{◌≤◌, arith}
use Rattle.dcpid_core.proofs.ringing.ring_all.Goals as goal

pub ring-requires-clause-later : goal.ring-requires-clause-later
ring-requires-clause-later g c =
    next_holds {A = Plain} (λ side. record { seen = g.T.Endpoint.seen side; far = g.T.Endpoint.far side; fixed = g.T.Endpoint.fixed side }) (rang c.args.value) (λ side. rung_of side.far.rungs ≤ c.args.value) c.args.sides.now c.loop-i.sides c.loop-i.i c.index-sides-i.result (omega arith) c.loop-i.invariant c.requires.later

pub ring-requires-clause-evenly : goal.ring-requires-clause-evenly
ring-requires-clause-evenly g c =
    next_holds {A = Plain} (λ side. record { seen = g.T.Endpoint.seen side; far = g.T.Endpoint.far side; fixed = g.T.Endpoint.fixed side }) (rang c.args.value) MayRing c.args.sides.now c.loop-i.sides c.loop-i.i c.index-sides-i.result (omega arith) c.loop-i.invariant c.requires.evenly

pub loop-i-preserved : goal.loop-i-preserved
loop-i-preserved g c =
    next_set {A = Plain} (λ side. record { seen = g.T.Endpoint.seen side; far = g.T.Endpoint.far side; fixed = g.T.Endpoint.fixed side }) (rang c.args.value) c.args.sides.now c.loop-i.sides c.loop-i.i c.index-sides-i.result c.ring.new.self (omega arith) c.loop-i.invariant
    (λ k. record { seen = c.ring.ensures.seen k; far = c.ring.ensures.far k; fixed = c.ring.ensures.fixed k })
