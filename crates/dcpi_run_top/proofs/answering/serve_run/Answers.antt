use Rattle.std.proofs.Common.{map, string_bytes, refl, subst, sym, arith}
use Rattle.std.specs.declared.option.Option.TheVariants.{Some, None}
use Rattle.dcpi_top.specs.Answers.{Call}
use Rattle.dcpi_top.specs.Streams.{seen}
use Rattle.dcpi_top.proofs.KnownLaws.{Known}
use Rattle.dcpi_run_top.specs.Answering.{AnswersRun}
use Rattle.dcpi_run_top.proofs.Promises.{answered}
use Rattle.dcpi_run_top.proofs.answering.serve_run.Goals as goal

pub returns-in-Ok-clause-answers : goal.returns-in-Ok-clause-answers
returns-in-Ok-clause-answers g c =
    let call : Call = record {
      words = map string_bytes c.args.words.now.items;
      input = seen g.S.Source.left g.S.Source.faults c.args.source.now c.print_run.new.source;
      disk = seen g.D.Store.files g.D.Store.faults c.args.store.now c.print_run.new.store;
      output = seen g.W.Sink.written g.W.Sink.faults c.args.out.now c.print_run.new.out;
      errors = seen g.E.Sink.written g.E.Sink.faults c.args.err.now c.args.err.now;
    } in
    let laws : Known = record {
      not_both = c.laws.ensures.not_both;
      one_trace = c.laws.ensures.one_trace;
      one_refusal = c.laws.ensures.one_refusal;
      no_list = c.laws.ensures.no_list;
      one_symbol_refusal = c.laws.ensures.one_symbol_refusal;
      one_head = c.laws.ensures.one_head;
      grown = c.laws.ensures.grown;
      next_head = c.laws.ensures.next_head;
      first_heads = c.laws.ensures.first_heads;
      no_fault = c.laws.ensures.no_fault;
      no_stop = c.laws.ensures.no_stop;
    } in
    answered laws g.D.Store.files g.D.Store.faults g.D.Store.moment g.D.Store.left_since c.args.pace call c.args.store.now c.print_run.new.store
    None c.in-Ok.ensures.serves (record { same = refl; faults = refl }) (omega arith)

pub returns-in-Err-clause-answers : goal.returns-in-Err-clause-answers
returns-in-Err-clause-answers g c =
    let call : Call = record {
      words = map string_bytes c.args.words.now.items;
      input = seen g.S.Source.left g.S.Source.faults c.args.source.now c.print_run.new.source;
      disk = seen g.D.Store.files g.D.Store.faults c.args.store.now c.print_run.new.store;
      output = seen g.W.Sink.written g.W.Sink.faults c.args.out.now c.print_run.new.out;
      errors = seen g.E.Sink.written g.E.Sink.faults c.args.err.now c.tell.new.err;
    } in
    let laws : Known = record {
      not_both = c.laws.ensures.not_both;
      one_trace = c.laws.ensures.one_trace;
      one_refusal = c.laws.ensures.one_refusal;
      no_list = c.laws.ensures.no_list;
      one_symbol_refusal = c.laws.ensures.one_symbol_refusal;
      one_head = c.laws.ensures.one_head;
      grown = c.laws.ensures.grown;
      next_head = c.laws.ensures.next_head;
      first_heads = c.laws.ensures.first_heads;
      no_fault = c.laws.ensures.no_fault;
      no_stop = c.laws.ensures.no_stop;
    } in
    subst (AnswersRun g.D.Store.files g.D.Store.faults g.D.Store.moment g.D.Store.left_since c.args.pace call c.args.store.now c.print_run.new.store)
    (sym c.status.ensures)
    (answered laws g.D.Store.files g.D.Store.faults g.D.Store.moment g.D.Store.left_since c.args.pace call c.args.store.now c.print_run.new.store
    (Some c.in-Err.refusal) c.in-Err.ensures.serves c.tell.ensures.told c.tell.ensures.counts)
