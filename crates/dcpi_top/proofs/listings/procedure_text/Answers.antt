use Rattle.std.proofs.Common.{◌∙◌}
use Rattle.dcpi_top.specs.declared.commands.Command.TheVariants.{ProfProcedure}
use Rattle.dcpi_top.specs.Streams.{seen}
use Rattle.dcpi_top.proofs.Listed.{procedure_read, procedure_stopped}
use Rattle.dcpi_top.proofs.Passing.{refuses}
use Rattle.dcpi_top.proofs.listings.procedure_text.Goals as goal

pub returns-in_err-rows-clause-gives : goal.returns-in_err-rows-clause-gives
returns-in_err-rows-clause-gives g c = refuses (λ text. text.items) (ProfProcedure c.args.epochs c.args.event c.args.csv)
    (seen g.S.Source.left g.S.Source.faults c.args.source.now c.read_symbols.new.source) (seen g.D.Store.files g.D.Store.faults c.args.store.now c.by_procedure.new.store) _ _ c.from_residual-in_err-rows.ensures.1
    (λ refusal is. procedure_stopped c.args.epochs c.args.event c.args.csv
    (seen g.S.Source.left g.S.Source.faults c.args.source.now c.read_symbols.new.source)
    (seen g.D.Store.files g.D.Store.faults c.args.store.now c.by_procedure.new.store) _ _ _ _ refusal c.in_ok-symbols.ensures.faults
    (record { symbols = c.in_ok-symbols.symbols; reads = c.in_ok-symbols.ensures.reads; whole = c.in_ok-symbols.ensures.whole })
    (record {
      opened = c.in_ok-db.ensures.head;
      there = c.in_ok-check_epochs.ensures;
      files = c.in_ok-db.ensures.reads.files;
      counted = c.in_ok-db.ensures.cause;
    })
    (record { stopped = c.in_err-rows.ensures.listed; cause = c.in_err-rows.ensures.cause }) is)

pub returns-clause-gives : goal.returns-clause-gives
returns-clause-gives g c = (
  procedure_read _ _ _
      (seen g.S.Source.left g.S.Source.faults c.args.source.now c.read_symbols.new.source)
      (seen g.D.Store.files g.D.Store.faults c.args.store.now c.by_procedure.new.store) _ _ _ c.in_ok-symbols.symbols c.in_ok-rows.rows _
      c.in_ok-symbols.ensures.reads c.in_ok-symbols.ensures.whole
      (record {
        opened = c.in_ok-db.ensures.head;
        there = c.in_ok-check_epochs.ensures;
        files = c.in_ok-db.ensures.reads.files;
        counted = c.in_ok-db.ensures.cause;
      })
      (record {
        sums = c.in_ok-rows.ensures.sums;
        order = c.in_ok-rows.ensures.order;
        labels = c.in_ok-rows.ensures.labels;
        listed = c.in_ok-rows.ensures.listed;
        printed = c.in_ok-text.ensures;
      }),
  (c.in_ok-symbols.ensures.faults, c.in_ok-rows.ensures.cause ∙ c.in_ok-db.ensures.cause),
)
