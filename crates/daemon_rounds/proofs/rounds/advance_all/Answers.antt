-- An advance keeps what the daemon knows of its sides, and the store.
use Rattle.std.proofs.Common.{refl, sym, ◌∙◌, subst, List}
use Rattle.lane_side.specs.Plain.{Plain}
use Rattle.dcpid_core.specs.Advancing.{advance_of}
use Rattle.dcpid_core.specs.Collection.{views}
use Rattle.replay_drive.proofs.AdvanceStands.{outcome_went}
use Rattle.daemon_rounds.specs.Going.{IsOver}
use Rattle.daemon_rounds.specs.Sides.{AreIdle}
use Rattle.daemon_rounds.proofs.AdvancingKnows.{over_then}
use Rattle.daemon_rounds.proofs.AdvancingSides.{fixed_stays, idle_rang_if}
use Rattle.daemon_rounds.proofs.Early.{advance_early}
use Rattle.daemon_rounds.proofs.Storing.{advance_gone}
use Rattle.daemon_rounds.proofs.rounds.advance_all.Goals as goal

pub returns-clause-goes : goal.returns-clause-goes
returns-clause-goes g c = λ pace trace begin start until knows keeps.
    advance_gone g.D.Store.files g.D.Store.faults g.D.Store.moment g.D.Store.left_since
    (record { advances = c.laws.ensures.advances; counts = c.laws.ensures.counts; books = c.laws.ensures.books; collects = c.laws.ensures.collects })
    pace trace begin start c.args.store.now c.advance.new.store until c.args.daemon.now c.advance.new.self _ _ c.advance.result knows c.advance.ensures.advances c.advance.ensures.rings keeps

pub returns-clause-idle : goal.returns-clause-idle
returns-clause-idle g c =
    subst (λ (ss : List Plain). AreIdle ss) (sym c.advance.ensures.rings)
    (idle_rang_if (advance_of c.args.daemon.now).ring (views g.T.Endpoint.seen g.T.Endpoint.far g.T.Endpoint.fixed c.args.sides.now) c.requires.ready)

pub returns-clause-over : goal.returns-clause-over
returns-clause-over g c = λ is.
    let k = c.requires.going in
    let went = outcome_went g.D.Store.files g.D.Store.faults g.D.Store.moment g.D.Store.left_since c.args.daemon.now c.advance.new.self (advance_of c.args.daemon.now) c.args.store.now c.advance.new.store _ refl c.advance.ensures.advances.outcome in
    subst (λ (ss : List Plain). IsOver c.advance.new.self ss) (sym c.advance.ensures.rings)
    (over_then (record { advances = c.laws.ensures.advances; counts = c.laws.ensures.counts; books = c.laws.ensures.books; collects = c.laws.ensures.collects })
    k.0 k.1 k.2 k.3 k.4 c.args.daemon.now c.advance.new.self _ k.5 went (sym c.advance.ensures.advances.answer_is ∙ is))

pub returns-clause-fixed : goal.returns-clause-fixed
returns-clause-fixed g c =
    fixed_stays g.T.Endpoint.seen g.T.Endpoint.far g.T.Endpoint.fixed (advance_of c.args.daemon.now).ring c.args.sides.now c.advance.new.sides c.advance.ensures.rings

pub returns-clause-early : goal.returns-clause-early
returns-clause-early g c =
    advance_early g.D.Store.files g.D.Store.faults g.D.Store.moment g.D.Store.left_since c.args.daemon.now c.advance.new.self _ c.args.store.now c.advance.new.store _ c.requires.going c.advance.ensures.advances
