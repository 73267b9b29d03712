-- What the end answers, and what it leaves of the store.
use Rattle.std.proofs.Common.{map, subst, sym, List}
use Rattle.std.proofs.lemmas.Result.{err_from_is_err_and}
use Rattle.sample_key.specs.declared.losses.Loss.{Loss}
use Rattle.trace_model.specs.Recording.{Recording}
use Rattle.dcpid_core.specs.Finishing.{AreLossesOf}
use Rattle.run_drive.proofs.EndsJoined.{losses_fit}
use Rattle.run_drive.proofs.EndsStore.{err_leaves, ok_leaves}
use Rattle.run_drive.proofs.EndsRecorded.{outcome_is}
use Rattle.run_drive.proofs.ending.end.Goals as goal

pub finish-requires-clause-losses : goal.finish-requires-clause-losses
finish-requires-clause-losses g c =
    let trace = c.requires.joined.1 in
    let j = c.requires.joined.4 in
    subst (λ (t : Recording). AreLossesOf t.cpus (map (λ v. v.items) c.close_all-losses.result.losses.items)) (sym j.knows.trace_is)
    (subst (λ (z : List (List Loss)). AreLossesOf trace.cpus z) (sym c.close_all-losses.ensures.losses)
    (losses_fit c.requires.joined.0 trace c.args.works.items c.args.sides.items
    (record { fit = j.fit; count = j.count; ended = j.ended; closed = c.close_all-losses.ensures.closed })))

pub returns-clause-run : goal.returns-clause-run
returns-clause-run g c = λ pace trace begin start h.
    let l = c.laws.ensures in
    outcome_is g.D.Store.files g.D.Store.faults g.D.Store.moment g.D.Store.left_since
    (record { closes = l.closes; fronts = l.fronts; collects = l.collects; one = l.one; all = l.all; cut = l.cut; exact = l.exact })
    pace trace begin start c.args.store.now c.finish.new.store c.args.daemon c.args.works.items c.args.sides.items _ _
    (record { fit = h.fit; count = h.count; ended = h.ended; closed = c.close_all-losses.ensures.closed })
    h.finished c.close_all-losses.ensures.losses c.close_all-losses.ensures.stats c.in_ok-kept.ensures.finishes

pub returns-clause-leaves : goal.returns-clause-leaves
returns-clause-leaves g c = λ pace trace begin start h.
    ok_leaves g.D.Store.files g.D.Store.faults g.D.Store.moment g.D.Store.left_since
    pace trace begin start c.args.store.now c.finish.new.store c.args.daemon c.args.works.items c.args.sides.items _ c.in_ok-kept.kept
    (record { fit = h.fit; count = h.count; ended = h.ended; closed = c.close_all-losses.ensures.closed }) h.finished c.in_ok-kept.ensures.finishes

pub returns-in_err-kept-clause-run : goal.returns-in_err-kept-clause-run
returns-in_err-kept-clause-run g c = λ pace trace begin start h.
    let p = err_from_is_err_and c.from_residual.result c.from_residual.ensures.1 in
    rw p.1 tt

pub returns-in_err-kept-clause-leaves : goal.returns-in_err-kept-clause-leaves
returns-in_err-kept-clause-leaves g c = λ pace trace begin start h.
    let l = c.laws.ensures in
    let p = err_from_is_err_and c.from_residual.result c.from_residual.ensures.1 in
    rw (p.1, p.2) (err_leaves g.D.Store.files g.D.Store.faults g.D.Store.moment g.D.Store.left_since
    (record { closes = l.closes; fronts = l.fronts; collects = l.collects; one = l.one; all = l.all; cut = l.cut; exact = l.exact })
    pace trace begin start c.args.store.now c.finish.new.store c.args.daemon c.args.works.items c.args.sides.items _ _
    (record { fit = h.fit; count = h.count; ended = h.ended; closed = c.close_all-losses.ensures.closed })
    h.finished c.close_all-losses.ensures.losses c.in_err-kept.ensures.finishes)
