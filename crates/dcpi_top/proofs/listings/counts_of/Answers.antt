use Rattle.std.proofs.Common.{◌∙◌}
use Rattle.dcpi_top.specs.declared.commands.Command.TheVariants.{Cat}
use Rattle.counts_listing.specs.Counting.{IsTextOf}
use Rattle.dcpi_top.specs.Listings.{bad_profile}
use Rattle.dcpi_top.specs.Streams.{seen}
use Rattle.dcpi_top.proofs.Listed.{cat_stopped, ends, whole_read}
use Rattle.dcpi_top.proofs.Passing.{refuses}
use Rattle.dcpi_top.proofs.listings.counts_of.Goals as goal

pub returns-in_err-text-clause-gives : goal.returns-in_err-text-clause-gives
returns-in_err-text-clause-gives g c input unread = refuses (λ text. text.items) Cat
    input (seen g.D.Store.files g.D.Store.faults c.args.store.now c.cat_text.new.store) _ _ c.from_residual-in_err-text.ensures.1
    (λ refusal is. cat_stopped input (seen g.D.Store.files g.D.Store.faults c.args.store.now c.cat_text.new.store) refusal unread
    (ends bad_profile (seen g.D.Store.files g.D.Store.faults c.args.store.now c.cat_text.new.store) _ _ _ _ refusal
    (record {
      opened = c.in_ok-db.ensures.head;
      files = c.in_ok-db.ensures.reads.files;
      counted = c.in_ok-db.ensures.cause;
    })
    c.in_err-text.ensures.printed c.in_err-text.ensures.cause is))

pub returns-clause-gives : goal.returns-clause-gives
returns-clause-gives g c input unread = (
  whole_read bad_profile IsTextOf
      (seen g.D.Store.files g.D.Store.faults c.args.store.now c.cat_text.new.store) _ _ _ _
      (record {
        opened = c.in_ok-db.ensures.head;
        files = c.in_ok-db.ensures.reads.files;
        counted = c.in_ok-db.ensures.cause;
      })
      c.in_ok-text.ensures.printed,
  (unread.faults, c.in_ok-text.ensures.cause ∙ c.in_ok-db.ensures.cause),
)
