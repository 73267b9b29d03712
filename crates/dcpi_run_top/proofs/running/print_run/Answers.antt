use Rattle.std.proofs.Common.{inr}
use Rattle.trace_lines.specs.Outlines.{outlined}
use Rattle.epoch_store.specs.Databases.{head_of}
use Rattle.dcpi_top.specs.Streams.{seen}
use Rattle.dcpi_run_top.proofs.Begun.{has_run}
use Rattle.dcpi_run_top.proofs.running.print_run.Goals as goal

pub returns-clause-serves : goal.returns-clause-serves
returns-clause-serves g c = inr (record {
  result = c.run_cut-ran.result;
  ran = has_run g.D.Store.files g.D.Store.faults g.D.Store.moment g.D.Store.left_since c.args.pace
      (seen g.S.Source.left g.S.Source.faults c.args.source.now c.begin.new.source) (outlined c.in_ok-db.field-0.trace.outline) (head_of c.in_ok-db.field-0.db)
      c.args.store.now c.begin.new.store c.run_cut-ran.new.store c.run_cut-ran.result
      c.in_ok-db.ensures.into c.in_ok-db.ensures.reads c.in_ok-db.ensures.counted
      (record { run = c.run_cut-ran.ensures.run; leaves = c.run_cut-ran.ensures.leaves; plain = c.run_cut-ran.ensures.plain });
  told = c.print_summary.ensures.told;
})
