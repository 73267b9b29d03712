use Rattle.std.proofs.Common.{arith, ◌≡◌, ℕ, ◌+◌, List, Some, None, sym, ap, subst, ◌∙◌}
use Rattle.std.specs.Prelude.{slice_get}
use Rattle.std.specs.Option.{option_copied}
use Rattle.std.proofs.lemmas.Result.{err_from_is_err_and}
use Rattle.sample_key.specs.Events.{code_of}
use Rattle.image_catalog.specs.Images.{text_at}
use Rattle.database_model.specs.declared.profiles.ProfileRow.{ProfileRow}
use Rattle.database_state.specs.Rows.{known_row, known_ref}
use Rattle.epoch_store.specs.Databases.{head_of}
use Rattle.dcpiprof_report.specs.Counting.{counted_where, label_at}
use Rattle.dcpiprof_report.specs.Sums.{held, most_counted, told_rows}
use Rattle.dcpiprof_report.proofs.Taken.{stopped, read_ok, image_there, image_is, sum_most, room_left}
use Rattle.dcpiprof_report.proofs.queries.Query.add_known_row.Goals as goal

pub returns-in_err-profile-clause-told : goal.returns-in_err-profile-clause-told
returns-in_err-profile-clause-told g c = λ files told.
    let row = c.args.row in
    let rows = (head_of c.args.self.now.db.now).known in
    let found : known_row rows row.epoch row.image (code_of c.args.self.now.event) ≡ Some row = subst (λ (v : ℕ). known_row rows row.epoch row.image v ≡ Some row) c.requires.event c.requires.found in
    let p = err_from_is_err_and c.from_residual.result c.from_residual.ensures.1 in
    rw (p.1, p.2) (stopped known_ref files (known_row rows row.epoch row.image (code_of c.args.self.now.event)) row _ found (c.in_err-profile.ensures.profile files told))

pub unreachable-requires : goal.unreachable-requires
unreachable-requires g c =
    let none : slice_get (head_of c.args.self.now.db.now).names c.args.row.image ≡ None = ap (λ l. slice_get l c.args.row.image) (sym c.catalog.ensures) ∙ sym c.name.ensures ∙ ap option_copied c.in_default.is in
    image_there (head_of c.args.self.now.db.now).names c.args.row.image c.requires.image none

pub add_rows-requires : goal.add_rows-requires
add_rows-requires g c = let most = sum_most c.rows.result.now c.rows.ensures.rising in omega (arith, c.requires.room, most)

pub returns-clause-told : goal.returns-clause-told
returns-clause-told g c = λ files told.
    let row = c.args.row in
    let rows = (head_of c.args.self.now.db.now).known in
    let found : known_row rows row.epoch row.image (code_of c.args.self.now.event) ≡ Some row = subst (λ (v : ℕ). known_row rows row.epoch row.image v ≡ Some row) c.requires.event c.requires.found in
    let read = read_ok known_ref files (known_row rows row.epoch row.image (code_of c.args.self.now.event)) row c.in_ok-profile.profile found (c.in_ok-profile.ensures.profile files told) in
    let listed : c.rows.result.now ≡ told_rows files (known_ref row) = c.rows.ensures.list ∙ sym read.1 in
    let names = (head_of c.args.self.now.db.now).names in
    let symbols = option_copied c.args.self.now.symbols in
    let there : Some c.in-Some.image.now ≡ slice_get names row.image = sym (ap option_copied c.in-Some.is) ∙ c.name.ensures ∙ ap (λ l. slice_get l row.image) c.catalog.ensures in
    let named : text_at names row.image ≡ c.in-Some.image.now = image_is names row.image c.in-Some.image.now there in (
      read.0,
      λ test ties.
          c.in_ok-add_rows.ensures.counts test ties
          ∙ ap (λ (name : List ℕ). held test c.args.sums.now.entries + counted_where test (label_at symbols name) c.rows.result.now) (sym named)
          ∙ ap (λ (l : List ProfileRow). held test c.args.sums.now.entries + counted_where test (label_at symbols (text_at names row.image)) l) listed,
    )

pub returns-clause-room : goal.returns-clause-room
returns-clause-room g c =
    room_left c.args.sums.now.entries c.add_rows.new.sums.entries (λ test. counted_where test (label_at (option_copied c.args.self.now.symbols) c.in-Some.image.now) c.rows.result.now) most_counted
    c.in_ok-add_rows.ensures.counts (sum_most c.rows.result.now c.rows.ensures.rising)
