-- The text of a made trace, and the summary of its run.
use Rattle.std.specs.Prelude.{◌≡◌, ℕ, List, [], map, sum_by}
use Rattle.text_num.specs.Lines.{text_of_lines}
use Rattle.sample_key.specs.declared.losses.Pace.TheVariants.{Free}
use Rattle.trace_model.specs.Said.{line_text}
use Rattle.trace_model.specs.Recording.{Reads, Recording, said_in}
use Rattle.trace_generator.specs.Generator.{made_trace}
use Rattle.driver_model.specs.Lists.{AllOf}
use Rattle.driver_model.specs.declared.plans.Stats.{Stats}
use Rattle.database_model.specs.Runs.{Recorded}
use Rattle.database_model.specs.Tally.{tally_of}
use Rattle.run_model.specs.Running.{reference_run}
use Rattle.run_model.specs.Validity.{IsValidRun, StatisticsAgree}
use Rattle.run_laws.specs.Laws.{stats_of}
use Rattle.run_rounds.specs.Rounds.{reference_record}
use Rattle.summary_text.specs.Summaries.{summary_of, taken_in}

-- the text of the trace of a seed with so many samples: each of its lines, ended by a line feed
abbrev pub made_text : ℕ → ℕ → List ℕ
made_text seed samples = text_of_lines (map line_text (made_trace seed samples))

-- the record of the first run of a trace, which begins in epoch 0
abbrev pub first_record : Recording → Recorded
first_record trace = reference_record trace 1 0

-- the statistics of this run, by processor
abbrev pub first_stats : Recording → List Stats
first_stats trace = stats_of (reference_run Free trace 0)

-- its summary
abbrev pub first_summary : Recording → List ℕ
first_summary trace = summary_of (first_record trace) (first_stats trace)

-- The trace of a seed with so many samples: it says what the definition says, and is the one trace that its text reads as.
pub record IsTraceOf (seed samples : ℕ) (trace : Recording) : Type 0 where
  pub said : said_in trace ≡ made_trace seed samples
  pub unscheduled : trace.schedule ≡ []
  pub reads : Reads (made_text seed samples) trace
  pub alone : (other : Recording) → Reads (made_text seed samples) other → other ≡ trace

-- The first run of a trace with so many samples is whole: its record is valid, its statistics agree with it, and no processor
-- lost a sample, so the total of the lost ones is 0 and that of the taken ones is this.
pub record IsWholeRun (samples : ℕ) (trace : Recording) : Type 0 where
  pub valid : IsValidRun Free trace (first_record trace)
  pub agree : StatisticsAgree trace (first_record trace) (first_stats trace)
  pub losses : AllOf (λ losses. losses ≡ []) (first_record trace).losses
  pub lost : sum_by (λ row. row.lost) (tally_of (first_record trace)) ≡ 0
  pub taken : sum_by taken_in (tally_of (first_record trace)) ≡ samples

-- The text is the summary of the first run of the trace of a seed, which is whole.
pub record IsMadeSummary (seed samples : ℕ) (text : List ℕ) : Type 0 where
  pub trace : Recording
  pub made : IsTraceOf seed samples trace
  pub run : IsWholeRun samples trace
  pub printed : text ≡ first_summary trace

-- The text is the summary of the first run of whatever the text of the trace of a seed reads as.
abbrev pub IsSummaryOfRead : ℕ → ℕ → List ℕ → Type 0
IsSummaryOfRead seed samples text = (read : Recording) → Reads (made_text seed samples) read
    → text ≡ first_summary read

-- The text is that of the trace of a seed.
pub record IsMadeText (seed samples : ℕ) (text : List ℕ) : Type 0 where
  pub trace : Recording
  pub made : IsTraceOf seed samples trace
  pub printed : text ≡ made_text seed samples

-- A trace that says what the trace of a seed says is it.
abbrev pub IsKnownByWhatItSays : Recording → Type 0
IsKnownByWhatItSays trace = (seed samples : ℕ) → said_in trace ≡ made_trace seed samples
    → trace.schedule ≡ [] → IsTraceOf seed samples trace
