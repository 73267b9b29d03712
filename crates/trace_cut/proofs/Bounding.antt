-- How many samples and records a trace has, and the order of their marks.
use Rattle.std.proofs.Common.{◌≡◌, ℕ, ◌+◌, ◌≤◌, Bool, true, false, cond, List, [], ◌∷◌, length, refl, sym, subst, arith, nat_eq}
use Rattle.sample_key.specs.declared.keys.Marked.{Marked}
use Rattle.sample_key.specs.Marks.{RisesFrom, MarksUpTo}
use Rattle.trace_model.specs.declared.notices.Line.{Line}
use Rattle.trace_model.specs.declared.notices.Line.TheVariants.{Sample, Rec}
use Rattle.trace_model.specs.Recording.{Recording}
use Rattle.trace_model.specs.Streams.{stream_from, records_from, samples_from, stream_of, records_in, IsStream}
use Rattle.trace_laws.specs.Kept.{KeepsLimits}

-- marks that rise from one number rise from each below it
rises_below : (low high : ℕ) (samples : List Marked) → low ≤ high → RisesFrom high samples → RisesFrom low samples
rises_below low high [] h r = tt
rises_below low high (s ∷ samples) h r = (omega (arith, h, r.0), r.1)

rises_by : (b : Bool) (mark : ℕ) (sample : Marked) (samples : List Marked) → sample.mark ≡ mark → RisesFrom mark samples → RisesFrom mark (cond b (sample ∷ samples) samples)
rises_by true mark sample samples e r = (omega (arith, e), subst (λ (n : ℕ). RisesFrom n samples) (sym e) r)
rises_by false mark sample samples e r = r

rises : (cpu mark : ℕ) (lines : List Line) → RisesFrom mark (stream_from cpu mark lines)
rises cpu mark [] = tt
rises cpu mark (Sample other key ∷ lines) = rises_by (nat_eq other cpu) mark (record { key = key; mark = mark }) (stream_from cpu mark lines) refl (rises cpu mark lines)
rises cpu mark (Rec notice ∷ lines) = rises_below mark (mark + 1) (stream_from cpu (mark + 1) lines) (omega arith) (rises cpu (mark + 1) lines)

upto_by : (b : Bool) (most : ℕ) (sample : Marked) (samples : List Marked) → sample.mark ≤ most → MarksUpTo most samples → MarksUpTo most (cond b (sample ∷ samples) samples)
upto_by true most sample samples h r = (h, r)
upto_by false most sample samples h r = r

upto : (cpu mark most : ℕ) (lines : List Line) → mark + length (records_from lines) ≤ most → MarksUpTo most (stream_from cpu mark lines)
upto cpu mark most [] h = tt
upto cpu mark most (Sample other key ∷ lines) h = upto_by (nat_eq other cpu) most (record { key = key; mark = mark }) (stream_from cpu mark lines) (omega (arith, h)) (upto cpu mark most lines h)
upto cpu mark most (Rec notice ∷ lines) h = upto cpu (mark + 1) most lines (omega (arith, h))

few_by : (b : Bool) (sample : Marked) (samples : List Marked) (n : ℕ) → length samples ≤ n → length (cond b (sample ∷ samples) samples) ≤ n + 1
few_by true sample samples n h = omega (arith, h)
few_by false sample samples n h = omega (arith, h)

-- a stream is no longer than the samples are many
few_samples : (cpu mark : ℕ) (lines : List Line) → length (stream_from cpu mark lines) ≤ length (samples_from lines)
few_samples cpu mark [] = omega arith
few_samples cpu mark (Sample other key ∷ lines) = omega (arith, few_by (nat_eq other cpu) (record { key = key; mark = mark }) (stream_from cpu mark lines) (length (samples_from lines)) (few_samples cpu mark lines))
few_samples cpu mark (Rec notice ∷ lines) = few_samples cpu (mark + 1) lines

pub is_stream : (r : Recording) → KeepsLimits r → (cpu : ℕ) → IsStream (length (records_in r)) (stream_of cpu r)
is_stream r limits cpu = record {
  rising = rises cpu 0 r.lines;
  marks = upto cpu 0 (length (records_from r.lines)) r.lines (omega arith);
  few = omega (arith, few_samples cpu 0 r.lines, limits.samples);
}
