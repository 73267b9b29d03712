-- The change was made and committed, or one of the two calls failed.
use Rattle.std.proofs.lemmas.Result.{err_from_is_err_and}
use Rattle.epoch_store.specs.Databases.{head_of}
use Rattle.dcpid_core.specs.Storing.{Part}
use Rattle.dcpid_core.proofs.PartStored.{IsChangeOf, part_committed, part_not_committed, part_not_made}
use Rattle.dcpid_core.proofs.storing.store_part.Goals as goal

pub returns-in_err-change-clause-failed : goal.returns-in_err-change-clause-failed
returns-in_err-change-clause-failed g c =
    let p = err_from_is_err_and c.from_residual.result c.from_residual.ensures.1 in
    rw (p.1, p.2) (λ records gathers.
    part_not_made {D = g.row.D.Denot} g.D.Store.files g.D.Store.faults g.D.Store.moment g.D.Store.left_since _ c.in_err-change.field-0.0 c.args.store.now c.change_of.new.store
    c.in_err-change.ensures.reads c.in_err-change.ensures.cause
    (λ f told. c.in_err-change.ensures.fails f told records c.args.segment.drains gathers)
    (λ f other told stops. c.in_err-change.ensures.answers f other told records c.args.segment.drains gathers stops))

pub returns-in-Ok-clause-committed : goal.returns-in-Ok-clause-committed
returns-in-Ok-clause-committed g c = λ records gathers.
    let part : Part = record { images = c.args.images.now; records = records; head = head_of c.args.db.now; epoch = c.args.epoch; segment = c.args.segment } in
    let made : IsChangeOf g.D.Store.files g.D.Store.faults g.D.Store.moment g.D.Store.left_since part c.in_ok-change.change c.args.store.now c.change_of.new.store = record {
      segment_is = c.in_ok-change.ensures.part.0;
      epoch_is = c.in_ok-change.ensures.part.1;
      range = c.args.db.now.range;
      fits = c.in_ok-change.ensures.fits c.requires.follows;
      grows = c.in_ok-change.ensures.grows records c.args.segment.drains gathers;
      head = c.in_ok-change.ensures.head records c.args.segment.drains gathers;
      sound = λ f fault told stops. c.in_ok-change.ensures.answers f fault told records c.args.segment.drains gathers stops;
      reads = c.in_ok-change.ensures.reads;
      count = c.in_ok-change.ensures.cause;
    } in
    part_committed {D = g.row.D.Denot} g.D.Store.files g.D.Store.faults g.D.Store.moment g.D.Store.left_since part c.in_ok-change.change (head_of c.commit.new.db) c.args.store.now c.change_of.new.store c.commit.new.store
    made c.in-Ok.ensures.head c.in-Ok.ensures.files c.in-Ok.ensures.room c.in-Ok.ensures.any_moment c.in-Ok.ensures.after c.in-Ok.ensures.cause

pub returns-in-Err-Fault-clause-failed : goal.returns-in-Err-Fault-clause-failed
returns-in-Err-Fault-clause-failed g c = λ records gathers.
    let part : Part = record { images = c.args.images.now; records = records; head = head_of c.args.db.now; epoch = c.args.epoch; segment = c.args.segment } in
    let made : IsChangeOf g.D.Store.files g.D.Store.faults g.D.Store.moment g.D.Store.left_since part c.in_ok-change.change c.args.store.now c.change_of.new.store = record {
      segment_is = c.in_ok-change.ensures.part.0;
      epoch_is = c.in_ok-change.ensures.part.1;
      range = c.args.db.now.range;
      fits = c.in_ok-change.ensures.fits c.requires.follows;
      grows = c.in_ok-change.ensures.grows records c.args.segment.drains gathers;
      head = c.in_ok-change.ensures.head records c.args.segment.drains gathers;
      sound = λ f fault told stops. c.in_ok-change.ensures.answers f fault told records c.args.segment.drains gathers stops;
      reads = c.in_ok-change.ensures.reads;
      count = c.in_ok-change.ensures.cause;
    } in
    part_not_committed {D = g.row.D.Denot} g.D.Store.files g.D.Store.faults g.D.Store.moment g.D.Store.left_since part c.in_ok-change.change c.in-Err-Fault.fault c.args.store.now c.change_of.new.store c.commit.new.store
    made (rw c.in-Err-Fault.field-0-is at c.in-Err-Fault.ensures.room) (rw c.in-Err-Fault.field-0-is at c.in-Err-Fault.ensures.untouched) (rw c.in-Err-Fault.field-0-is at c.in-Err-Fault.ensures.cause) c.in-Err-Fault.ensures.any_moment c.in-Err-Fault.ensures.present
