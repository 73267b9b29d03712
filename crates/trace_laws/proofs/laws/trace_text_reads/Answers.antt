use Rattle.trace_model.specs.Recording.{trace_text}
use Rattle.trace_model.specs.Traces.{recording_of}
use Rattle.trace_laws.proofs.Inverse.{one_trace}
use Rattle.trace_laws.proofs.Telling.{reads_again}
use Rattle.trace_laws.proofs.laws.trace_text_reads.Goals as goal

pub returns-clause-reads : goal.returns-clause-reads
returns-clause-reads c = reads_again c.one_spelling.ensures.decimal c.one_spelling.ensures.hexadecimal c.args.trace.now

pub returns-clause-alone : goal.returns-clause-alone
returns-clause-alone c other reads = one_trace (trace_text (recording_of c.args.trace.now)) other (recording_of c.args.trace.now) reads
    (reads_again c.one_spelling.ensures.decimal c.one_spelling.ensures.hexadecimal c.args.trace.now)
