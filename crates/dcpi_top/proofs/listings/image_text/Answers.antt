use Rattle.std.proofs.Common.{◌∙◌}
use Rattle.dcpi_top.specs.declared.commands.Command.TheVariants.{ProfImage}
use Rattle.dcpi_top.specs.Streams.{seen}
use Rattle.dcpi_top.proofs.Listed.{image_read, image_stopped}
use Rattle.dcpi_top.proofs.Passing.{refuses}
use Rattle.dcpi_top.proofs.listings.image_text.Goals as goal

pub returns-in_err-rows-clause-gives : goal.returns-in_err-rows-clause-gives
returns-in_err-rows-clause-gives g c input unread = refuses (λ text. text.items) (ProfImage c.args.epochs c.args.event c.args.csv)
    input (seen g.D.Store.files g.D.Store.faults c.args.store.now c.by_image.new.store) _ _ c.from_residual-in_err-rows.ensures.1
    (λ refusal is. image_stopped c.args.epochs c.args.event c.args.csv input
    (seen g.D.Store.files g.D.Store.faults c.args.store.now c.by_image.new.store) _ _ _ _ refusal unread
    (record {
      opened = c.in_ok-db.ensures.head;
      there = c.in_ok-check_epochs.ensures;
      files = c.in_ok-db.ensures.reads.files;
      counted = c.in_ok-db.ensures.cause;
    })
    (record { stopped = c.in_err-rows.ensures.listed; cause = c.in_err-rows.ensures.cause }) is)

pub returns-clause-gives : goal.returns-clause-gives
returns-clause-gives g c input unread = (
  image_read _ _ _
      (seen g.D.Store.files g.D.Store.faults c.args.store.now c.by_image.new.store) _ _ _ c.in_ok-rows.rows _
      (record {
        opened = c.in_ok-db.ensures.head;
        there = c.in_ok-check_epochs.ensures;
        files = c.in_ok-db.ensures.reads.files;
        counted = c.in_ok-db.ensures.cause;
      })
      (record {
        sums = c.in_ok-rows.ensures.sums;
        order = c.in_ok-rows.ensures.order;
        labels = c.in_ok-rows.ensures.labels;
        listed = c.in_ok-rows.ensures.listed;
        printed = c.in_ok-text.ensures;
      }),
  (unread.faults, c.in_ok-rows.ensures.cause ∙ c.in_ok-db.ensures.cause),
)
