use Rattle.std.proofs.Common.{arith, ◌≡◌, ℕ, ◌+◌, cond, List, Some, sym, ap, subst, ◌∙◌}
use Rattle.std.specs.Prelude.{is_some}
use Rattle.std.proofs.lemmas.Result.{err_from_is_err_and}
use Rattle.sample_key.specs.Events.{code_of}
use Rattle.database_model.specs.declared.profiles.ProfileRow.{ProfileRow}
use Rattle.database_state.specs.Rows.{unknown_row, unknown_ref}
use Rattle.epoch_store.specs.Databases.{head_of}
use Rattle.report_text.specs.declared.labels.Label.TheVariants.{Unknown}
use Rattle.dcpiprof_report.specs.Counting.{counted_where}
use Rattle.dcpiprof_report.specs.Sums.{held, most_counted, told_rows}
use Rattle.dcpiprof_report.proofs.Taken.{stopped, read_ok, sum_most, all_unknown, room_left}
use Rattle.dcpiprof_report.proofs.queries.Query.add_unknown_row.Goals as goal

pub returns-in_err-profile-clause-told : goal.returns-in_err-profile-clause-told
returns-in_err-profile-clause-told g c = λ files told.
    let row = c.args.row in
    let rows = (head_of c.args.self.now.db.now).unknown in
    let found : unknown_row rows row.epoch (code_of c.args.self.now.event) ≡ Some row = subst (λ (v : ℕ). unknown_row rows row.epoch v ≡ Some row) c.requires.event c.requires.found in
    let p = err_from_is_err_and c.from_residual.result c.from_residual.ensures.1 in
    rw (p.1, p.2) (stopped unknown_ref files (unknown_row rows row.epoch (code_of c.args.self.now.event)) row _ found (c.in_err-profile.ensures.profile files told))

pub count_of-requires : goal.count_of-requires
count_of-requires g c = let most = sum_most c.rows.result.now c.rows.ensures.rising in omega (arith, most)

pub add_unknown-requires : goal.add_unknown-requires
add_unknown-requires g c = let most = sum_most c.rows.result.now c.rows.ensures.rising in omega (arith, c.requires.room, c.count_of.ensures, most)

pub returns-clause-told : goal.returns-clause-told
returns-clause-told g c = λ files told.
    let row = c.args.row in
    let rows = (head_of c.args.self.now.db.now).unknown in
    let found : unknown_row rows row.epoch (code_of c.args.self.now.event) ≡ Some row = subst (λ (v : ℕ). unknown_row rows row.epoch v ≡ Some row) c.requires.event c.requires.found in
    let read = read_ok unknown_ref files (unknown_row rows row.epoch (code_of c.args.self.now.event)) row c.in_ok-profile.profile found (c.in_ok-profile.ensures.profile files told) in
    let listed : c.rows.result.now ≡ told_rows files (unknown_ref row) = c.rows.ensures.list ∙ sym read.1 in (
      read.0,
      λ test ties.
          c.in_ok-add_unknown.ensures.counts test ties
          ∙ ap (λ (n : ℕ). held test c.args.sums.now.entries + cond (test Unknown) n 0) c.count_of.ensures
          ∙ ap (λ (n : ℕ). held test c.args.sums.now.entries + n) (sym (all_unknown test c.rows.result.now))
          ∙ ap (λ (l : List ProfileRow). held test c.args.sums.now.entries + counted_where test (λ pc. Unknown) l) listed,
    )

pub returns-clause-room : goal.returns-clause-room
returns-clause-room g c =
    let most = sum_most c.rows.result.now c.rows.ensures.rising in
    room_left c.args.sums.now.entries c.add_unknown.new.sums.entries (λ test. cond (test Unknown) c.count_of.result 0) most_counted
    c.in_ok-add_unknown.ensures.counts (omega (arith, c.count_of.ensures, most))

pub returns-clause-labels : goal.returns-clause-labels
returns-clause-labels g c = λ all. c.in_ok-add_unknown.ensures.labels (is_some c.args.self.now.symbols) all
