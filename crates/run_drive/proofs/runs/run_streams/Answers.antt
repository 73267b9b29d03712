-- Want of memory before the first thread; what is ready for the scope, and what comes out of it.
use Rattle.std.proofs.Common.{◌∙◌, ℕ, length, subst, rules, of_calls}
use Rattle.std.proofs.lemmas.Result.{err_from_is_err_and}
use Rattle.sample_key.specs.declared.losses.Pace.{Pace}
use Rattle.trace_model.specs.Recording.{Recording}
use Rattle.trace_outline.specs.Views.{viewed}
use Rattle.database_state.specs.Heads.{Head}
use Rattle.epoch_store.specs.Databases.{head_of}
use Rattle.run_drive.specs.Outcomes.{GivesRun, LeavesRun}
use Rattle.run_drive.specs.Running.{IsReady}
use Rattle.run_drive.specs.Rooms.{HaveRoomFor}
use Rattle.run_drive.proofs.Whole.{as_many_wait, gives_if_ok, grows_plainly, is_ready, none_begun}
use Rattle.run_drive.proofs.runs.run_streams.Goals as goal

pub returns-in_err-works-clause-leaves : goal.returns-in_err-works-clause-leaves
returns-in_err-works-clause-leaves g c =
    let p = err_from_is_err_and c.from_residual.result c.from_residual.ensures.1 in
    rw (p.1, p.2) (none_begun g.D.Store.files g.D.Store.faults g.D.Store.moment g.D.Store.left_since c.records_are_valid.ensures.so_far c.args.pace (viewed c.args.trace.now) (head_of c.args.db) c.args.store.now c.views_are_fit.ensures)

pub returns-in_err-rooms-clause-leaves : goal.returns-in_err-rooms-clause-leaves
returns-in_err-rooms-clause-leaves g c =
    let p = err_from_is_err_and c.from_residual-in_err-rooms.result c.from_residual-in_err-rooms.ensures.1 in
    rw (p.1, p.2) (none_begun g.D.Store.files g.D.Store.faults g.D.Store.moment g.D.Store.left_since c.records_are_valid.ensures.so_far c.args.pace (viewed c.args.trace.now) (head_of c.args.db) c.args.store.now c.views_are_fit.ensures)

pub returns-in_err-waiting-clause-leaves : goal.returns-in_err-waiting-clause-leaves
returns-in_err-waiting-clause-leaves g c =
    let p = err_from_is_err_and c.from_residual-in_err-waiting.result c.from_residual-in_err-waiting.ensures.1 in
    rw (p.1, p.2) (none_begun g.D.Store.files g.D.Store.faults g.D.Store.moment g.D.Store.left_since c.records_are_valid.ensures.so_far c.args.pace (viewed c.args.trace.now) (head_of c.args.db) c.args.store.now c.views_are_fit.ensures)

pub returns-in_err-daemon-clause-leaves : goal.returns-in_err-daemon-clause-leaves
returns-in_err-daemon-clause-leaves g c =
    let p = err_from_is_err_and c.from_residual-in_err-daemon.result c.from_residual-in_err-daemon.ensures.1 in
    rw (p.1, p.2) (none_begun g.D.Store.files g.D.Store.faults g.D.Store.moment g.D.Store.left_since c.records_are_valid.ensures.so_far c.args.pace (viewed c.args.trace.now) (head_of c.args.db) c.args.store.now c.views_are_fit.ensures)

pub scoped-result-requires : goal.scoped-result-requires
scoped-result-requires g c =
    let trace = viewed c.args.trace.now in
    let head = head_of c.args.db in
    let ready : IsReady c.args.pace trace head c.in_ok-waiting.waiting.items c.in_ok-works.field-0.sides.items c.in_ok-daemon.daemon =
    is_ready c.args.pace trace head c.in_ok-works.field-0.works.items c.in_ok-waiting.waiting.items c.in_ok-works.field-0.sides.items c.in_ok-daemon.daemon c.views_are_fit.ensures
    c.in_ok-works.ensures.count c.in_ok-works.ensures.start c.in_ok-waiting.ensures c.in_ok-daemon.ensures in
    let may : (at : Pace) × (of : Recording) × (begin : Head) × IsReady at of begin c.in_ok-waiting.waiting.items c.in_ok-works.field-0.sides.items c.in_ok-daemon.daemon = (c.args.pace, trace, head, ready) in
    let room : HaveRoomFor (length c.in_ok-waiting.waiting.items) c.in_ok-rooms.rooms =
    subst (λ (n : ℕ). HaveRoomFor n c.in_ok-rooms.rooms) (c.len.ensures ∙ c.in_ok-works.field-0.sides.ok.0 ∙ as_many_wait c.args.pace trace head c.in_ok-waiting.waiting.items c.in_ok-works.field-0.sides.items c.in_ok-daemon.daemon ready) c.in_ok-rooms.ensures in
    search (of_calls, may, room)

pub returns-clause-run : goal.returns-clause-run
returns-clause-run g c =
    let trace = viewed c.args.trace.now in
    let head = head_of c.args.db in
    let ready : IsReady c.args.pace trace head c.in_ok-waiting.waiting.items c.in_ok-works.field-0.sides.items c.in_ok-daemon.daemon =
    is_ready c.args.pace trace head c.in_ok-works.field-0.works.items c.in_ok-waiting.waiting.items c.in_ok-works.field-0.sides.items c.in_ok-daemon.daemon c.views_are_fit.ensures
    c.in_ok-works.ensures.count c.in_ok-works.ensures.start c.in_ok-waiting.ensures c.in_ok-daemon.ensures in
    let gives : (at : Pace) (of : Recording) (begin : Head) → IsReady at of begin c.in_ok-waiting.waiting.items c.in_ok-works.field-0.sides.items c.in_ok-daemon.daemon → GivesRun at of begin c.scoped-result.result.0 =
    search rules in
    gives_if_ok c.args.pace trace head c.scoped-result.result.0 (gives c.args.pace trace head ready)

pub returns-clause-leaves : goal.returns-clause-leaves
returns-clause-leaves g c =
    let trace = viewed c.args.trace.now in
    let head = head_of c.args.db in
    let ready : IsReady c.args.pace trace head c.in_ok-waiting.waiting.items c.in_ok-works.field-0.sides.items c.in_ok-daemon.daemon =
    is_ready c.args.pace trace head c.in_ok-works.field-0.works.items c.in_ok-waiting.waiting.items c.in_ok-works.field-0.sides.items c.in_ok-daemon.daemon c.views_are_fit.ensures
    c.in_ok-works.ensures.count c.in_ok-works.ensures.start c.in_ok-waiting.ensures c.in_ok-daemon.ensures in
    let leaves : (at : Pace) (of : Recording) (begin : Head) → IsReady at of begin c.in_ok-waiting.waiting.items c.in_ok-works.field-0.sides.items c.in_ok-daemon.daemon
    → LeavesRun g.D.Store.files g.D.Store.faults g.D.Store.moment g.D.Store.left_since at of begin c.args.store.now c.scoped-result.result.1.now c.scoped-result.result.0 = search rules in
    let left = leaves c.args.pace trace head ready in
    search (rules, left)

pub returns-clause-plain : goal.returns-clause-plain
returns-clause-plain g c = λ exact.
    let trace = viewed c.args.trace.now in
    let head = head_of c.args.db in
    let ready : IsReady c.args.pace trace head c.in_ok-waiting.waiting.items c.in_ok-works.field-0.sides.items c.in_ok-daemon.daemon =
    is_ready c.args.pace trace head c.in_ok-works.field-0.works.items c.in_ok-waiting.waiting.items c.in_ok-works.field-0.sides.items c.in_ok-daemon.daemon c.views_are_fit.ensures
    c.in_ok-works.ensures.count c.in_ok-works.ensures.start c.in_ok-waiting.ensures c.in_ok-daemon.ensures in
    let gives : (at : Pace) (of : Recording) (begin : Head) → IsReady at of begin c.in_ok-waiting.waiting.items c.in_ok-works.field-0.sides.items c.in_ok-daemon.daemon → GivesRun at of begin c.scoped-result.result.0 =
    search rules in
    let leaves : (at : Pace) (of : Recording) (begin : Head) → IsReady at of begin c.in_ok-waiting.waiting.items c.in_ok-works.field-0.sides.items c.in_ok-daemon.daemon
    → LeavesRun g.D.Store.files g.D.Store.faults g.D.Store.moment g.D.Store.left_since at of begin c.args.store.now c.scoped-result.result.1.now c.scoped-result.result.0 = search rules in
    let l = c.laws.ensures in
    let grown = grows_plainly g.D.Store.files g.D.Store.faults g.D.Store.moment g.D.Store.left_since (record { plain = l.plain; adds = l.adds; all = l.all; known = l.known; unknown = l.unknown })
    c.args.pace trace head c.args.store.now c.scoped-result.result.1.now c.scoped-result.result.0 c.views_are_fit.ensures exact (gives c.args.pace trace head ready) (leaves c.args.pace trace head ready) in
    search (rules, grown)
