use Rattle.std.proofs.Common.{◌∙◌}
use Rattle.dcpi_top.specs.declared.commands.Command.TheVariants.{Runs}
use Rattle.dcpi_top.specs.Listings.{IsRunsTextOf, bad_segment}
use Rattle.dcpi_top.specs.Streams.{seen}
use Rattle.dcpi_top.proofs.Listed.{runs_stopped, ends, whole_read}
use Rattle.dcpi_top.proofs.Passing.{refuses}
use Rattle.dcpi_top.proofs.listings.runs_of.Goals as goal

pub returns-in_err-text-clause-gives : goal.returns-in_err-text-clause-gives
returns-in_err-text-clause-gives g c input unread = refuses (λ text. text.items) Runs
    input (seen g.D.Store.files g.D.Store.faults c.args.store.now c.runs_text.new.store) _ _ c.from_residual-in_err-text.ensures.1
    (λ refusal is. runs_stopped input (seen g.D.Store.files g.D.Store.faults c.args.store.now c.runs_text.new.store) refusal unread
    (ends bad_segment (seen g.D.Store.files g.D.Store.faults c.args.store.now c.runs_text.new.store) _ _ _ _ refusal
    (record {
      opened = c.in_ok-db.ensures.head;
      files = c.in_ok-db.ensures.reads.files;
      counted = c.in_ok-db.ensures.cause;
    })
    (λ f told has. c.in_err-text.ensures.listed f told) c.in_err-text.ensures.cause is))

pub returns-clause-gives : goal.returns-clause-gives
returns-clause-gives g c input unread = (
  whole_read bad_segment IsRunsTextOf
      (seen g.D.Store.files g.D.Store.faults c.args.store.now c.runs_text.new.store) _ _ _ _
      (record {
        opened = c.in_ok-db.ensures.head;
        files = c.in_ok-db.ensures.reads.files;
        counted = c.in_ok-db.ensures.cause;
      })
      (λ f told has. c.in_ok-text.ensures.listed f told),
  (unread.faults, c.in_ok-text.ensures.cause ∙ c.in_ok-db.ensures.cause),
)
