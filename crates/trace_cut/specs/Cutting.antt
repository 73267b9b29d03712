-- The streams of a trace, and those of its first lines.
use Rattle.std.specs.Prelude.{◌≡◌, Vec, ℕ, List, length, map}
use Rattle.std.specs.List.{range_with_len}
use Rattle.sample_key.specs.declared.keys.Marked.{Marked}
use Rattle.trace_model.specs.declared.notices.Record.{Record}
use Rattle.trace_model.specs.declared.notices.Line.{Line}
use Rattle.trace_model.specs.Recording.{Recording}
use Rattle.trace_model.specs.Streams.{IsStream, records_from, records_in, stream_from, stream_of}

-- each processor's samples are a stream: marks never fall and are at most the number of records
abbrev pub HasStreams : Recording → Type 0
HasStreams r = (cpu : ℕ) → IsStream (length (records_in r)) (stream_of cpu r)

-- the lists of samples, by processor
abbrev pub lanes_in : {A : Type 0} → List (Vec Marked A) → List (List Marked)
lanes_in lanes = map (λ lane. lane.items) lanes

-- the samples in these lines of each of so many processors, from 0 on
abbrev pub streams_from : ℕ → List Line → List (List Marked)
streams_from cpus lines = map (λ cpu. stream_from cpu 0 lines) (range_with_len 0 cpus)

-- the lines so far, and for how many processors they are cut
pub record SoFar : Type 0 where
  pub lines : List Line
  pub cpus : ℕ

-- these are the streams of these lines
pub record AreCut {A : Type 0} (lanes : List (Vec Marked A)) (records : List Record) (lines : List Line) : Type 0 where
  pub lanes_are : lanes_in lanes ≡ streams_from (length lanes) lines
  pub records_are : records ≡ records_from lines
