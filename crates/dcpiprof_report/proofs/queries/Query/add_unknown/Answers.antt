use Rattle.std.proofs.Common.{arith, ◌≡◌, ◌<◌, ◌≤◌, List, Some, length, subst, ◌∙◌}
use Rattle.std.specs.Prelude.{slice_index_or}
use Rattle.std.proofs.lemmas.Result.{err_from_is_err_and}
use Rattle.store_io.proofs.Chains.{reads_then}
use Rattle.sample_key.specs.Events.{code_of}
use Rattle.database_state.specs.declared.rows.UnknownRow.{UnknownRow}
use Rattle.database_state.specs.Rows.{unknown_row, unknown_ref}
use Rattle.database_state.proofs.RowOrders.{unknown_order}
use Rattle.dcpiprof_report.specs.Reading.{is_unknown_wanted}
use Rattle.dcpiprof_report.specs.Sums.{unknown_count}
use Rattle.dcpiprof_report.proofs.Taken.{found_here, here_is, row_read, row_stopped, all_read}
use Rattle.dcpiprof_report.proofs.queries.Query.add_unknown.Goals as goal

no_row : UnknownRow
no_row = record { epoch = 0; event = 0; g = 0 }

pub take_unknown-requires-clause-found : goal.take_unknown-requires-clause-found
unfolding no_row
take_unknown-requires-clause-found g c =
    let items = c.unknown_rows-row-items.result.now in
    let row = slice_index_or items c.loop-row.row-index no_row in
    let within : c.loop-row.row-index < length items = omega arith in
    subst (λ (l : List UnknownRow). unknown_row l row.epoch row.event ≡ Some row) c.unknown_rows-row-items.ensures.list
    (found_here unknown_order items row c.loop-row.row-index c.unknown_rows-row-items.ensures.rising within (here_is items c.loop-row.row-index no_row within))

pub returns-in_err-take_unknown-clause-told : goal.returns-in_err-take_unknown-clause-told
unfolding no_row
returns-in_err-take_unknown-clause-told g c = λ files told.
    let items = c.unknown_rows-row-items.result.now in
    let i = c.loop-row.row-index in
    let row = slice_index_or items i no_row in
    let within : i < length items = omega arith in
    let p = err_from_is_err_and c.from_residual.result c.from_residual.ensures.1 in
    rw (p.1, p.2, ← c.unknown_rows-row-items.ensures.list)
    (row_stopped files unknown_ref (is_unknown_wanted c.args.self.now.epochs (code_of c.args.self.now.event)) (unknown_count files c.args.self.now.epochs (code_of c.args.self.now.event)) items row i
    c.args.sums.now.entries c.loop-row.sums.entries _ within (here_is items i no_row within) (c.loop-row.invariant.told files told) (c.in_err-take_unknown.ensures.told files (c.loop-row.invariant.reads.files ∙ told)))

pub loop-row-preserved : goal.loop-row-preserved
unfolding no_row
loop-row-preserved g c =
    let items = c.unknown_rows-row-items.result.now in
    let i = c.loop-row.row-index in
    let row = slice_index_or items i no_row in
    let within : i < length items = omega arith in
    record {
      told = λ files told. row_read files unknown_ref (is_unknown_wanted c.args.self.now.epochs (code_of c.args.self.now.event)) (unknown_count files c.args.self.now.epochs (code_of c.args.self.now.event)) items row i
          c.args.sums.now.entries c.loop-row.sums.entries c.take_unknown.new.sums.entries within (here_is items i no_row within) (c.loop-row.invariant.told files told) (c.in_ok-take_unknown.ensures.told files (c.loop-row.invariant.reads.files ∙ told));
      room = omega (arith, c.in_ok-take_unknown.ensures.room, c.loop-row.invariant.room);
      labels = λ all. c.in_ok-take_unknown.ensures.labels (c.loop-row.invariant.labels all);
      reads = reads_then c.loop-row.invariant.reads c.in_ok-take_unknown.ensures.reads;
      faults = c.in_ok-take_unknown.ensures.cause ∙ c.loop-row.invariant.faults;
      origin = c.in_ok-take_unknown.ensures.origin ∙ c.loop-row.invariant.origin;
    }

pub returns-clause-told : goal.returns-clause-told
returns-clause-told g c = λ files told.
    let items = c.unknown_rows-row-items.result.now in
    let past : length items ≤ c.loop-row.row-index = omega arith in
    rw (← c.unknown_rows-row-items.ensures.list)
    (all_read files unknown_ref (is_unknown_wanted c.args.self.now.epochs (code_of c.args.self.now.event)) (unknown_count files c.args.self.now.epochs (code_of c.args.self.now.event)) items c.loop-row.row-index
    c.args.sums.now.entries c.loop-row.sums.entries past (c.loop-row.invariant.told files told))
