-- The lanes come back from their threads, the daemon has finished, and the end is told of both.
use Rattle.std.proofs.Common.{arith, sym, ◌∙◌, ◌+◌, subst, ℕ}
use Rattle.lane_threads.specs.Ending.{HasRoomFor}
use Rattle.lane_threads.specs.Promising.{IsOfWork, Runs}
use Rattle.lane_threads.specs.Working.{IsEnded}
use Rattle.run_drive.proofs.Scoped.{has_begun, has_joined, is_joining, pairs_length, under_way}
use Rattle.run_drive.proofs.going.go.Goals as goal

pub drive-requires-clause-going : goal.drive-requires-clause-going
drive-requires-clause-going g c =
    let r = c.requires.ready in
    under_way g.D.Store.files g.D.Store.faults g.D.Store.moment g.D.Store.left_since r.0 r.1 r.2 c.args.store.now c.args.daemon c.args.sides.items
    (has_begun g.D.Store.files g.D.Store.faults g.D.Store.moment g.D.Store.left_since c.new_daemons_know.ensures r.0 r.1 r.2 c.args.store.now c.args.waiting.items c.args.sides.items c.args.daemon r.3)

pub drive-requires-clause-idle : goal.drive-requires-clause-idle
drive-requires-clause-idle g c =
    let r = c.requires.ready in
    (has_begun g.D.Store.files g.D.Store.faults g.D.Store.moment g.D.Store.left_since c.new_daemons_know.ensures r.0 r.1 r.2 c.args.store.now c.args.waiting.items c.args.sides.items c.args.daemon r.3).idle

pub end_all-works-requires : goal.end_all-works-requires
end_all-works-requires g c =
    let r = c.requires.ready.3 in
    let run = c.drive.ensures.runners r.works (c.start_all-runners.ensures r.works r.wait) in
    (c.requires.rooms.works.0, omega (arith, c.requires.rooms.works.1, pairs_length Runs r.works c.drive.new.runners.items run, pairs_length IsOfWork r.works c.args.waiting.items r.wait))

pub end-requires-clause-joined : goal.end-requires-clause-joined
end-requires-clause-joined g c =
    let r = c.requires.ready in
    let joined = has_joined g.D.Store.files g.D.Store.faults g.D.Store.moment g.D.Store.left_since c.new_daemons_know.ensures
    r.0 r.1 r.2 c.args.store.now c.drive.new.store c.args.waiting.items c.args.sides.items c.drive.new.sides.items c.args.daemon c.drive.new.daemon c.end_all-works.result.items
    (λ works wait. c.end_all-works.ensures works (c.drive.ensures.runners works (c.start_all-runners.ensures works wait))) c.drive.ensures.fixed c.drive.ensures.finishes r.3 in
    (r.0, r.1, r.2.runs + 1, r.2.epoch, is_joining g.D.Store.files g.D.Store.faults g.D.Store.moment g.D.Store.left_since r.0 r.1 r.2 c.args.store.now c.drive.new.store c.drive.new.daemon c.end_all-works.result.items c.drive.new.sides.items joined)

pub end-requires-clause-room : goal.end-requires-clause-room
end-requires-clause-room g c =
    let r = c.requires.ready.3 in
    let ended = c.end_all-works.ensures r.works (c.drive.ensures.runners r.works (c.start_all-runners.ensures r.works r.wait)) in
    subst (λ (n : ℕ). HasRoomFor n c.args.rooms.ended)
    (sym (pairs_length IsOfWork r.works c.args.waiting.items r.wait) ∙ pairs_length IsEnded r.works c.end_all-works.result.items ended) c.requires.rooms.ended

pub returns-clause-run : goal.returns-clause-run
returns-clause-run g c = λ pace trace begin ready.
    c.end.ensures.run pace trace begin c.args.store.now (has_joined g.D.Store.files g.D.Store.faults g.D.Store.moment g.D.Store.left_since c.new_daemons_know.ensures
    pace trace begin c.args.store.now c.drive.new.store c.args.waiting.items c.args.sides.items c.drive.new.sides.items c.args.daemon c.drive.new.daemon c.end_all-works.result.items
    (λ works wait. c.end_all-works.ensures works (c.drive.ensures.runners works (c.start_all-runners.ensures works wait))) c.drive.ensures.fixed c.drive.ensures.finishes ready)

pub returns-clause-leaves : goal.returns-clause-leaves
returns-clause-leaves g c = λ pace trace begin ready.
    c.end.ensures.leaves pace trace begin c.args.store.now (has_joined g.D.Store.files g.D.Store.faults g.D.Store.moment g.D.Store.left_since c.new_daemons_know.ensures
    pace trace begin c.args.store.now c.drive.new.store c.args.waiting.items c.args.sides.items c.drive.new.sides.items c.args.daemon c.drive.new.daemon c.end_all-works.result.items
    (λ works wait. c.end_all-works.ensures works (c.drive.ensures.runners works (c.start_all-runners.ensures works wait))) c.drive.ensures.fixed c.drive.ensures.finishes ready)
