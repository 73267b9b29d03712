use Rattle.std.proofs.Common.{arith, ◌≡◌, ◌<◌, ◌≤◌, List, Some, length, subst, ◌∙◌}
use Rattle.std.specs.Prelude.{slice_index_or}
use Rattle.std.specs.Option.{option_copied}
use Rattle.std.proofs.lemmas.Result.{err_from_is_err_and}
use Rattle.store_io.proofs.Chains.{reads_then}
use Rattle.sample_key.specs.Events.{code_of}
use Rattle.database_state.specs.declared.rows.KnownRow.{KnownRow}
use Rattle.database_state.specs.Rows.{known_row, known_ref}
use Rattle.epoch_store.specs.Databases.{head_of}
use Rattle.database_state.proofs.RowOrders.{known_order}
use Rattle.dcpiprof_report.specs.Reading.{is_known_wanted}
use Rattle.dcpiprof_report.specs.Sums.{known_count}
use Rattle.dcpiprof_report.proofs.Taken.{found_here, here_is, row_read, row_stopped, all_read}
use Rattle.dcpiprof_report.proofs.queries.Query.add_known.Goals as goal

no_row : KnownRow
no_row = record { epoch = 0; image = 0; event = 0; g = 0 }

pub take_known-requires-clause-found : goal.take_known-requires-clause-found
unfolding no_row
take_known-requires-clause-found g c =
    let items = c.known_rows-row-items.result.now in
    let row = slice_index_or items c.loop-row.row-index no_row in
    let within : c.loop-row.row-index < length items = omega arith in
    subst (λ (l : List KnownRow). known_row l row.epoch row.image row.event ≡ Some row) c.known_rows-row-items.ensures.list
    (found_here known_order items row c.loop-row.row-index c.known_rows-row-items.ensures.rising within (here_is items c.loop-row.row-index no_row within))

pub returns-in_err-take_known-clause-told : goal.returns-in_err-take_known-clause-told
unfolding no_row
returns-in_err-take_known-clause-told g c = λ files told.
    let items = c.known_rows-row-items.result.now in
    let i = c.loop-row.row-index in
    let row = slice_index_or items i no_row in
    let within : i < length items = omega arith in
    let p = err_from_is_err_and c.from_residual.result c.from_residual.ensures.1 in
    rw (p.1, p.2, ← c.known_rows-row-items.ensures.list)
    (row_stopped files known_ref (is_known_wanted c.args.self.now.epochs (code_of c.args.self.now.event)) (known_count files (head_of c.args.self.now.db.now).names (option_copied c.args.self.now.symbols) c.args.self.now.epochs (code_of c.args.self.now.event)) items row i
    c.args.sums.now.entries c.loop-row.sums.entries _ within (here_is items i no_row within) (c.loop-row.invariant.told files told) (c.in_err-take_known.ensures.told files (c.loop-row.invariant.reads.files ∙ told)))

pub loop-row-preserved : goal.loop-row-preserved
unfolding no_row
loop-row-preserved g c =
    let items = c.known_rows-row-items.result.now in
    let i = c.loop-row.row-index in
    let row = slice_index_or items i no_row in
    let within : i < length items = omega arith in
    record {
      told = λ files told. row_read files known_ref (is_known_wanted c.args.self.now.epochs (code_of c.args.self.now.event)) (known_count files (head_of c.args.self.now.db.now).names (option_copied c.args.self.now.symbols) c.args.self.now.epochs (code_of c.args.self.now.event)) items row i
          c.args.sums.now.entries c.loop-row.sums.entries c.take_known.new.sums.entries within (here_is items i no_row within) (c.loop-row.invariant.told files told) (c.in_ok-take_known.ensures.told files (c.loop-row.invariant.reads.files ∙ told));
      room = omega (arith, c.in_ok-take_known.ensures.room, c.loop-row.invariant.room);
      labels = λ all. c.in_ok-take_known.ensures.labels (c.loop-row.invariant.labels all);
      reads = reads_then c.loop-row.invariant.reads c.in_ok-take_known.ensures.reads;
      faults = c.in_ok-take_known.ensures.cause ∙ c.loop-row.invariant.faults;
      origin = c.in_ok-take_known.ensures.origin ∙ c.loop-row.invariant.origin;
    }

pub returns-clause-told : goal.returns-clause-told
returns-clause-told g c = λ files told.
    let items = c.known_rows-row-items.result.now in
    let past : length items ≤ c.loop-row.row-index = omega arith in
    rw (← c.known_rows-row-items.ensures.list)
    (all_read files known_ref (is_known_wanted c.args.self.now.epochs (code_of c.args.self.now.event)) (known_count files (head_of c.args.self.now.db.now).names (option_copied c.args.self.now.symbols) c.args.self.now.epochs (code_of c.args.self.now.event)) items c.loop-row.row-index
    c.args.sums.now.entries c.loop-row.sums.entries past (c.loop-row.invariant.told files told))
