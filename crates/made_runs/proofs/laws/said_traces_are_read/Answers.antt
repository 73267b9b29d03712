use Rattle.std.proofs.Common.{◌≡◌, ap, map, subst, sym}
use Rattle.text_num.specs.Lines.{text_of_lines}
use Rattle.trace_model.specs.Recording.{Reads, trace_text}
use Rattle.trace_model.specs.Said.{line_text}
use Rattle.trace_model.specs.Traces.{recording_of}
use Rattle.made_runs.specs.FirstRuns.{made_text}
use Rattle.made_runs.proofs.laws.said_traces_are_read.Goals as goal

pub returns : goal.returns
returns c = λ seed samples said unscheduled.
    let r = recording_of c.args.trace.now in
    let same : trace_text r ≡ made_text seed samples = ap (λ lines. text_of_lines (map line_text lines)) said in
    record {
      said = said;
      unscheduled = unscheduled;
      reads = subst (λ text. Reads text r) same c.trace_text_reads.ensures.reads;
      alone = λ other reads. c.trace_text_reads.ensures.alone other (subst (λ text. Reads text other) (sym same) reads);
    }
