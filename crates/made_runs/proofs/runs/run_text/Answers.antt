use Rattle.std.proofs.Common.{◌∙◌, ◌++◌, ap, sym, subst}
use Rattle.sample_key.specs.declared.losses.Pace.TheVariants.{Free}
use Rattle.trace_model.specs.Traces.{recording_of}
use Rattle.database_model.specs.Ranges.{IsRecorded}
use Rattle.run_model.specs.Running.{enough_rounds, rounds}
use Rattle.summary_text.specs.Summaries.{summary_of}
use Rattle.made_runs.proofs.runs.run_text.Goals as goal

pub summary_text-requires : goal.summary_text-requires
summary_text-requires c = let trace = recording_of c.args.trace in
    subst IsRecorded (sym c.in_ok-outcome.ensures.kept)
    (c.records_can_be_stored.ensures.tallied Free trace 1 0 (trace.schedule ++ rounds (enough_rounds trace) trace) c.traces_are_fit.ensures)

pub returns : goal.returns
returns c = c.in_ok-text.ensures ∙ ap (summary_of c.in_ok-outcome.outcome.kept) c.deref.ensures.value
    ∙ (λ i. summary_of (c.in_ok-outcome.ensures.kept i) (c.in_ok-outcome.ensures.stats i))
