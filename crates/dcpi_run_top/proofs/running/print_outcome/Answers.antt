use Rattle.std.proofs.Common.{◌∙◌, ap}
use Rattle.dcpi_top.specs.Streams.{seen}
use Rattle.summary_text.specs.Summaries.{summary_of}
use Rattle.dcpi_run_top.proofs.Printed.{front, whole}
use Rattle.dcpi_run_top.proofs.running.print_outcome.Goals as goal

pub returns-in_err-put_all : goal.returns-in_err-put_all
returns-in_err-put_all g c = record {
  told = front c.args.outcome.now (seen g.W.Sink.written g.W.Sink.faults c.args.out.now c.put_all.new.sink) _ c.from_residual-in_err-put_all.result
      (c.deref-2.ensures.value ∙ (c.in_ok-text.ensures ∙ ap (summary_of c.args.outcome.now.kept) c.deref.ensures.value))
      (record { later = c.in_err-put_all.ensures.cause.later; rose = c.in_err-put_all.ensures.cause.failed })
      c.in_err-put_all.ensures.prefix c.from_residual-in_err-put_all.ensures.1;
}

pub returns : goal.returns
returns g c = record {
  told = whole c.args.outcome.now (seen g.W.Sink.written g.W.Sink.faults c.args.out.now c.put_all.new.sink) _
      (c.deref-2.ensures.value ∙ (c.in_ok-text.ensures ∙ ap (summary_of c.args.outcome.now.kept) c.deref.ensures.value))
      c.in_ok-put_all.ensures.cause.kept c.in_ok-put_all.ensures.whole;
}
