-- The samples of a made trace are as many as were asked for, and each is of one of its processors.
use Rattle.std.proofs.Common.{◌≡◌, ℕ, ◌+◌, ◌≤◌, Bool, true, false, cond, List, [], ◌∷◌, ◌++◌, length, map, eqb, ltb, refl, sym, ◌∙◌, ap, arith}
use Rattle.std.specs.Prelude.{count_by}
use Rattle.std.specs.List.{AllByRecursion}
use Rattle.std.proofs.lemmas.Bool.{cond-true, lt-ltb}
use Rattle.std.proofs.lemmas.List.Sums.{sum_by-cons, sum_by_push}
use Rattle.sample_key.specs.declared.keys.Marked.{Marked}
use Rattle.trace_model.specs.declared.notices.Step.{Step}
use Rattle.trace_model.specs.declared.notices.Record.{Record}
use Rattle.trace_model.specs.declared.notices.Record.TheVariants.{Scan, Load, Unload, Exec, Exit, Kernel, Drain, Merge, Epoch}
use Rattle.trace_model.specs.declared.notices.Line.{Line}
use Rattle.trace_model.specs.declared.notices.Line.TheVariants.{Sample, Rec}
use Rattle.trace_model.specs.Recording.{Recording, line_said, record_said, said_in, step_said}
use Rattle.trace_model.specs.Said.{Said, LongHeader, Ended, is_sample}
use Rattle.trace_model.specs.Streams.{names_below, samples_from, samples_in, stream_from}
use Rattle.trace_generator.specs.Generator.{made_trace, mapped_first, samples_to}
use Rattle.trace_generator.proofs.Holding.{samples_hold}
use Rattle.trace_generator.proofs.Judging.{header}
use Rattle.quiet_runs.proofs.Summing.{over, over_none, over_one}

-- a stream is one longer by a sample of its processor
one_longer : (b : Bool) (s : Marked) (stream : List Marked) → length (cond b (s ∷ stream) stream) ≡ cond b 1 0 + length stream
one_longer true s stream = omega arith
one_longer false s stream = omega arith

-- the streams of all processors are as long as there are samples
pub streams_are_all : (cpus mark : ℕ) (lines : List Line) → AllByRecursion (names_below cpus) lines
    → over cpus (λ cpu. length (stream_from cpu mark lines)) ≡ length (samples_from lines)
streams_are_all cpus mark [] named = over_none cpus
streams_are_all cpus mark (Sample other key ∷ lines) named =
    let one = over_one cpus other 1 (λ cpu. length (stream_from cpu mark (Sample other key ∷ lines))) (λ cpu. length (stream_from cpu mark lines))
    (λ cpu. one_longer (eqb other cpu) (record { key = key; mark = mark }) (stream_from cpu mark lines)) in
    let here : ◌≡◌ {A = ℕ} (cond (ltb other cpus) 1 0) 1 = cond-true (ltb other cpus) 1 0 (lt-ltb other cpus named.0) in
    omega (arith, one, here, streams_are_all cpus mark lines named.1)
streams_are_all cpus mark (Rec notice ∷ lines) named = streams_are_all cpus (mark + 1) lines named.1

-- a record says no sample
no_sample : (images : List (List ℕ)) (notice : Record) → is_sample (record_said images notice) ≡ false
no_sample images (Scan pid base size image) = refl
no_sample images (Load pid base size image) = refl
no_sample images (Unload pid base size) = refl
no_sample images (Exec pid base size image) = refl
no_sample images (Exit pid) = refl
no_sample images (Kernel base size image) = refl
no_sample images Drain = refl
no_sample images Merge = refl
no_sample images Epoch = refl

-- one for a line that says a sample
abbrev one_of : Said ℕ → ℕ
one_of said = cond (is_sample said) 1 0

lines_sampled : (images : List (List ℕ)) (lines : List Line) → count_by is_sample (map (line_said images) lines) ≡ length (samples_from lines)
lines_sampled images [] = refl
lines_sampled images (Sample cpu key ∷ lines) =
    omega (arith, sum_by-cons one_of (line_said images (Sample cpu key)) (map (line_said images) lines), lines_sampled images lines)
lines_sampled images (Rec notice ∷ lines) =
    let none : ◌≡◌ {A = ℕ} (one_of (record_said images notice)) 0 = ap (λ (t : Bool). cond t 1 0) (no_sample images notice) in
    omega (arith, sum_by-cons one_of (record_said images notice) (map (line_said images) lines), none, lines_sampled images lines)

trace_sampled : (r : Recording) → r.schedule ≡ [] → count_by is_sample (said_in r) ≡ length (samples_in r)
trace_sampled r none =
    let body = map (line_said r.images) r.lines in
    ap (λ (steps : List Step). count_by is_sample (LongHeader r.cpus r.buckets r.buffer ∷ (body ++ Ended ∷ map step_said steps))) none
    ∙ omega (
      arith,
      sum_by-cons one_of (LongHeader r.cpus r.buckets r.buffer) (body ++ Ended ∷ []),
      sum_by_push one_of body Ended,
      lines_sampled r.images r.lines,
    )

made_sampled : (seed samples : ℕ) → samples ≤ 2000000 → count_by is_sample (made_trace seed samples) ≡ samples
made_sampled seed samples few =
    omega (arith, sum_by_push one_of (header ∷ (mapped_first ++ samples_to seed samples)) Ended, (samples_hold seed samples few).samples_are)

-- a made trace has as many samples as were asked for
pub samples_are : (seed samples : ℕ) (r : Recording) → samples ≤ 2000000 → r.schedule ≡ [] → said_in r ≡ made_trace seed samples
    → length (samples_in r) ≡ samples
samples_are seed samples r few none said =
    sym (trace_sampled r none) ∙ (ap (count_by is_sample) said ∙ made_sampled seed samples few)
