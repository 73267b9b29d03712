-- Each round keeps what the rounds before it left, and the last one finishes the run.
use Rattle.std.proofs.Common.{sym, ◌∙◌, subst, List}
use Rattle.std.proofs.lemmas.List.{with_items_is}
use Rattle.shared_side.specs.Shown.{Shown}
use Rattle.daemon_rounds.specs.Going.{IsGoing, IsOver}
use Rattle.run_drive.specs.Running.{plain_sides}
use Rattle.run_drive.proofs.Driving.{as_many, finishes_then, goes_under_way, round_over, stays_under_way}
use Rattle.run_drive.proofs.going.drive.Goals as goal

pub go_round-requires-clause-going : goal.go_round-requires-clause-going
go_round-requires-clause-going g c =
    subst (λ (z : List Shown). IsGoing c.loop.daemon (plain_sides z)) (sym c.deref_mut.ensures.value)
    (goes_under_way g.D.Store.files g.D.Store.faults g.D.Store.moment g.D.Store.left_since c.loop.daemon c.loop.sides.items c.loop.store
    (stays_under_way g.D.Store.files g.D.Store.faults g.D.Store.moment g.D.Store.left_since c.args.daemon.now c.loop.daemon c.args.sides.now.items c.loop.sides.items c.args.store.now c.loop.store
    c.loop.invariant.since c.requires.going))

pub returns-in-Finished-clause-finishes : goal.returns-in-Finished-clause-finishes
returns-in-Finished-clause-finishes g c =
    let e = c.go_round.ensures in
    let i = c.loop.invariant in
    let back = with_items_is c.loop.sides c.go_round.new.sides (as_many c.loop.sides.items c.deref_mut.result.now c.go_round.new.sides c.loop.sides.len c.deref_mut.ensures.value c.loop.sides.ok.0 e.fixed) in
    let r = round_over g.D.Store.files g.D.Store.faults g.D.Store.moment g.D.Store.left_since c.args.daemon.now c.loop.daemon c.go_round.new.daemon
    c.args.sides.now.items c.loop.sides.items c.deref_mut.result.now c.go_round.new.sides _ c.args.store.now c.loop.store c.go_round.new.store
    c.deref_mut.ensures.value back i.since i.early i.fixed e.goes e.early e.idle e.fixed in
    finishes_then g.D.Store.files g.D.Store.faults g.D.Store.moment g.D.Store.left_since c.args.daemon.now c.go_round.new.daemon c.args.sides.now.items _ c.args.store.now c.go_round.new.store
    r.since (subst (λ (z : List Shown). IsOver c.go_round.new.daemon (plain_sides z)) (sym back) (e.over c.in-Finished.is)) r.early

pub loop-preserved-in-Went : goal.loop-preserved-in-Went
loop-preserved-in-Went g c =
    let e = c.go_round.ensures in
    let i = c.loop.invariant in
    let back = with_items_is c.loop.sides c.go_round.new.sides (as_many c.loop.sides.items c.deref_mut.result.now c.go_round.new.sides c.loop.sides.len c.deref_mut.ensures.value c.loop.sides.ok.0 e.fixed) in
    let r = round_over g.D.Store.files g.D.Store.faults g.D.Store.moment g.D.Store.left_since c.args.daemon.now c.loop.daemon c.go_round.new.daemon
    c.args.sides.now.items c.loop.sides.items c.deref_mut.result.now c.go_round.new.sides _ c.args.store.now c.loop.store c.go_round.new.store
    c.deref_mut.ensures.value back i.since i.early i.fixed e.goes e.early e.idle e.fixed in
    record {
      can_next = tt;
      finite = tt;
      since = r.since;
      early = r.early;
      idle = r.idle;
      runners = λ works have. c.step_here.ensures.runs works (i.runners works have);
      fixed = r.fixed;
      origin = e.origin ∙ i.origin;
    }

pub loop-preserved : goal.loop-preserved
loop-preserved g c =
    let e = c.go_round.ensures in
    let i = c.loop.invariant in
    let back = with_items_is c.loop.sides c.go_round.new.sides (as_many c.loop.sides.items c.deref_mut.result.now c.go_round.new.sides c.loop.sides.len c.deref_mut.ensures.value c.loop.sides.ok.0 e.fixed) in
    let r = round_over g.D.Store.files g.D.Store.faults g.D.Store.moment g.D.Store.left_since c.args.daemon.now c.loop.daemon c.go_round.new.daemon
    c.args.sides.now.items c.loop.sides.items c.deref_mut.result.now c.go_round.new.sides _ c.args.store.now c.loop.store c.go_round.new.store
    c.deref_mut.ensures.value back i.since i.early i.fixed e.goes e.early e.idle e.fixed in
    record {
      can_next = tt;
      finite = tt;
      since = r.since;
      early = r.early;
      idle = r.idle;
      runners = λ works have. c.step_here.ensures.runs works (i.runners works have);
      fixed = r.fixed;
      origin = e.origin ∙ i.origin;
    }
