-- The samples of each processor, and the records of a trace.
use Rattle.std.specs.Prelude.{ℕ, ◌+◌, ◌<◌, ◌≤◌, ◌==◌, if◌then◌else◌, List, [], ◌∷◌, length, map}
use Rattle.std.specs.List.{range_with_len}
use Rattle.sample_key.specs.declared.keys.Key.{Key}
use Rattle.sample_key.specs.declared.keys.Marked.{Marked}
use Rattle.sample_key.specs.declared.limits.TheConstants.{MOST_SAMPLES}
use Rattle.sample_key.specs.Marks.{IsRising, MarksUpTo}
use Rattle.trace_model.specs.declared.notices.Record.{Record}
use Rattle.trace_model.specs.declared.notices.Line.{Line}
use Rattle.trace_model.specs.declared.notices.Line.TheVariants.{Sample, Rec}
use Rattle.trace_model.specs.declared.notices.Step.{Step}
use Rattle.trace_model.specs.declared.notices.Step.TheVariants.{Lane, Poll, Advance}
use Rattle.trace_model.specs.Recording.{Recording}

-- the samples of a processor in these lines, each with its mark: the number of records that stand before it, where so
-- many stand before these lines
abbrev pub stream_from : ℕ → ℕ → List Line → List Marked
stream_from cpu mark [] = []
stream_from cpu mark (Sample other key ∷ lines) = if other == cpu then record { key = key; mark = mark } ∷ stream_from cpu mark lines else stream_from cpu mark lines
stream_from cpu mark (Rec notice ∷ lines) = stream_from cpu (mark + 1) lines

-- the records of these lines
abbrev pub records_from : List Line → List Record
records_from [] = []
records_from (Sample cpu key ∷ lines) = records_from lines
records_from (Rec notice ∷ lines) = notice ∷ records_from lines

-- the samples of these lines, of whatever processor
abbrev pub samples_from : List Line → List Key
samples_from [] = []
samples_from (Sample cpu key ∷ lines) = key ∷ samples_from lines
samples_from (Rec notice ∷ lines) = samples_from lines

-- a line's sample is of one of so many processors
abbrev pub names_below : ℕ → Line → Type 0
names_below cpus (Sample cpu key) = cpu < cpus
names_below cpus (Rec notice) = Unit {0}

-- a step is one of such a processor, or of the daemon
abbrev pub steps_below : ℕ → Step → Type 0
steps_below cpus (Lane cpu) = cpu < cpus
steps_below cpus (Poll cpu cell) = cpu < cpus
steps_below cpus Advance = Unit {0}

-- the samples of a processor of a trace, in the trace's order
abbrev pub stream_of : ℕ → Recording → List Marked
stream_of cpu r = stream_from cpu 0 r.lines

-- the same for each of its processors, from 0 on
abbrev pub streams_in : Recording → List (List Marked)
streams_in r = map (λ cpu. stream_of cpu r) (range_with_len 0 r.cpus)

-- the samples of a trace, in its order
abbrev pub samples_in : Recording → List Key
samples_in r = samples_from r.lines

-- the records of a trace, in its order
abbrev pub records_in : Recording → List Record
records_in r = records_from r.lines

-- marks never fall and are at most the number of records, and there are at most 2,000,000 samples
pub record IsStream (records : ℕ) (samples : List Marked) : Type 0 where
  pub rising : IsRising samples
  pub marks : MarksUpTo records samples
  pub few : length samples ≤ MOST_SAMPLES
