use Rattle.std.proofs.Common.{rules}
use Rattle.dcpi_top.specs.Streams.{seen}
use Rattle.dcpi_top.proofs.Telling.{has_failed, told_first, told_whole}
use Rattle.dcpi_top.proofs.messages.tell.Goals as goal

pub returns-in-Ok-clause-told : goal.returns-in-Ok-clause-told
returns-in-Ok-clause-told g c = told_whole c.args.refusal.now (seen g.E.Sink.written g.E.Sink.faults c.args.err.now c.put_all.new.sink) c.put_all.result c.deref.result.now (search rules)
    (record { whole = c.put_all.ensures.whole; front = c.put_all.ensures.prefix; failed = has_failed _ _ c.put_all.ensures.cause })

pub returns-in-Err-clause-told : goal.returns-in-Err-clause-told
returns-in-Err-clause-told g c = told_first c.args.refusal.now (seen g.E.Sink.written g.E.Sink.faults c.args.err.now c.put_all-in-Err.new.sink) c.put_all-in-Err.result c.first_words.result.now c.first_words.ensures
    (record { whole = c.put_all-in-Err.ensures.whole; front = c.put_all-in-Err.ensures.prefix; failed = has_failed _ _ c.put_all-in-Err.ensures.cause })
