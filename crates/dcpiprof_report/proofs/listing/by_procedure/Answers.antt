use Rattle.std.proofs.Common.{true, Some, ◌∙◌}
use Rattle.sample_key.specs.Events.{code_of}
use Rattle.epoch_store.specs.Databases.{head_of}
use Rattle.dcpiprof_report.proofs.Sites.{holds}
use Rattle.dcpiprof_report.proofs.listing.by_procedure.Goals as goal

pub returns-clause-listed : goal.returns-clause-listed
returns-clause-listed g c = λ files told have.
    let sums = c.in_ok-sums.ensures.told files told in (
      sums.0,
      record {
        order = c.in_ok-rows.ensures.order;
        counts = λ label. c.in_ok-rows.ensures.counts label ∙ holds files (head_of c.args.db.now) (Some c.args.symbols.now) c.args.epochs (code_of c.args.event) c.in_ok-sums.sums.entries have sums.1 label;
      },
    )

pub returns-clause-sums : goal.returns-clause-sums
returns-clause-sums g c = (c.in_ok-rows.ensures.labels true c.in_ok-sums.ensures.labels).0

pub returns-clause-labels : goal.returns-clause-labels
returns-clause-labels g c = (c.in_ok-rows.ensures.labels true c.in_ok-sums.ensures.labels).1
