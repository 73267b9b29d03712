use Rattle.std.proofs.Common.{ap, ◌∙◌}
use Rattle.std.specs.Option.{option_copied}
use Rattle.std.proofs.lemmas.Result.{err_from_is_err_and}
use Rattle.sample_key.specs.Events.{code_of}
use Rattle.epoch_store.specs.Databases.{head_of}
use Rattle.dcpiprof_report.specs.Reading.{first_bad, known_wanted, unknown_wanted, wanted}
use Rattle.dcpiprof_report.specs.Sums.{held, known_counts, unknown_counts}
use Rattle.dcpiprof_report.proofs.Taken.{stopped_on, first_of_both, good_of_both, both_counted}
use Rattle.dcpiprof_report.proofs.queries.Query.sums.Goals as goal

pub returns-in_err-add_known-clause-told : goal.returns-in_err-add_known-clause-told
returns-in_err-add_known-clause-told g c = λ files told.
    let head = head_of c.args.self.now.db.now in
    let known = known_wanted c.args.self.now.epochs (code_of c.args.self.now.event) head.known in
    let unknown = unknown_wanted c.args.self.now.epochs (code_of c.args.self.now.event) head.unknown in
    let p = err_from_is_err_and c.from_residual.result c.from_residual.ensures.1 in
    rw (p.1, p.2) (stopped_on (first_bad files known) (first_bad files (wanted head c.args.self.now.epochs (code_of c.args.self.now.event))) _ (λ file is. first_of_both files known unknown file is) (c.in_err-add_known.ensures.told files told))

pub returns-in_err-add_unknown-clause-told : goal.returns-in_err-add_unknown-clause-told
returns-in_err-add_unknown-clause-told g c = λ files told.
    let head = head_of c.args.self.now.db.now in
    let known = known_wanted c.args.self.now.epochs (code_of c.args.self.now.event) head.known in
    let unknown = unknown_wanted c.args.self.now.epochs (code_of c.args.self.now.event) head.unknown in
    let none = c.in_ok-add_known.ensures.told files told in
    let p = err_from_is_err_and c.from_residual-in_err-add_unknown.result c.from_residual-in_err-add_unknown.ensures.1 in
    rw (p.1, p.2) (stopped_on (first_bad files unknown) (first_bad files (wanted head c.args.self.now.epochs (code_of c.args.self.now.event))) _ (λ file is. good_of_both files known unknown none.0 ∙ is) (c.in_err-add_unknown.ensures.told files (c.in_ok-add_known.ensures.reads.files ∙ told)))

pub returns-clause-told : goal.returns-clause-told
returns-clause-told g c = λ files told.
    let head = head_of c.args.self.now.db.now in
    let known = known_wanted c.args.self.now.epochs (code_of c.args.self.now.event) head.known in
    let unknown = unknown_wanted c.args.self.now.epochs (code_of c.args.self.now.event) head.unknown in
    let first = c.in_ok-add_known.ensures.told files told in
    let second = c.in_ok-add_unknown.ensures.told files (c.in_ok-add_known.ensures.reads.files ∙ told) in (
      good_of_both files known unknown first.0 ∙ second.0,
      λ test ties.
          both_counted (held test c.new-sums.result.entries) (held test c.add_known.new.sums.entries) (held test c.add_unknown.new.sums.entries)
          (known_counts files head (option_copied c.args.self.now.symbols) c.args.self.now.epochs (code_of c.args.self.now.event) test) (unknown_counts files head c.args.self.now.epochs (code_of c.args.self.now.event) test)
          (ap (held test) c.new-sums.ensures.empty) (first.1 test ties) (second.1 test ties),
    )
