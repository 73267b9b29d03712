-- A made trace has no epoch, at most 20 records that end a part, and six images.
use Rattle.std.proofs.Common.{◌≡◌, ℕ, zero, suc, ◌+◌, ◌*◌, ◌%◌, ◌≤◌, Bool, true, false, cond, List, [], ◌∷◌, ◌++◌, length, map, eqb, refl, sym, ◌∙◌, ap, subst, arith}
use Rattle.std.specs.Prelude.{count_by, unwrap_or}
use Rattle.std.specs.Option.{option_map}
use Rattle.std.proofs.lemmas.List.Sums.{sum_by-append, sum_by-cons, sum_by_push}
use Rattle.sample_key.specs.declared.keys.Key.{Key}
use Rattle.trace_model.specs.declared.notices.Step.{Step}
use Rattle.trace_model.specs.declared.notices.Record.{Record}
use Rattle.trace_model.specs.declared.notices.Record.TheVariants.{Scan, Load, Unload, Exec, Exit, Kernel, Drain, Merge, Epoch}
use Rattle.trace_model.specs.declared.notices.Line.{Line}
use Rattle.trace_model.specs.declared.notices.Line.TheVariants.{Sample, Rec}
use Rattle.trace_model.specs.Parts.{begins_epoch, ends_part}
use Rattle.trace_model.specs.Recording.{Recording, images_in_order, line_said, record_said, said_in, step_said}
use Rattle.trace_model.specs.Said.{Said, LongHeader, Drained, Merged, Ended, is_part_end, notice_of}
use Rattle.trace_model.specs.Streams.{records_from, records_in}
use Rattle.growth_model.specs.Grown.{part_count}
use Rattle.trace_generator.specs.Draws.{state_after}
use Rattle.trace_generator.specs.Generator.{every_so_often, made_trace, mapped_first, records_after, sample_from, samples_to}
use Rattle.trace_generator.proofs.Holding.{made_holds, samples_hold}
use Rattle.trace_generator.proofs.Judging.{header}
use Rattle.quiet_runs.specs.Quiet.{IsQuietTrace}
use Rattle.generator_laws.specs.Made.{IsMade}

-- a line that begins an epoch
abbrev is_epoch : Said ℕ → Bool
is_epoch said = unwrap_or (option_map begins_epoch (notice_of said)) false

epoch_said : (images : List (List ℕ)) (notice : Record) → is_epoch (record_said images notice) ≡ begins_epoch notice
epoch_said images (Scan pid base size image) = refl
epoch_said images (Load pid base size image) = refl
epoch_said images (Unload pid base size) = refl
epoch_said images (Exec pid base size image) = refl
epoch_said images (Exit pid) = refl
epoch_said images (Kernel base size image) = refl
epoch_said images Drain = refl
epoch_said images Merge = refl
epoch_said images Epoch = refl

part_said : (images : List (List ℕ)) (notice : Record) → is_part_end (record_said images notice) ≡ ends_part notice
part_said images (Scan pid base size image) = refl
part_said images (Load pid base size image) = refl
part_said images (Unload pid base size) = refl
part_said images (Exec pid base size image) = refl
part_said images (Exit pid) = refl
part_said images (Kernel base size image) = refl
part_said images Drain = refl
part_said images Merge = refl
part_said images Epoch = refl

-- what lines say is counted as their records are
lines_counted : (p : Said ℕ → Bool) (q : Record → Bool) (images : List (List ℕ)) (lines : List Line)
    → ((cpu : ℕ) (key : Key) → p (line_said images (Sample cpu key)) ≡ false) → ((notice : Record) → p (record_said images notice) ≡ q notice)
    → count_by p (map (line_said images) lines) ≡ count_by q (records_from lines)
lines_counted p q images [] s r = refl
lines_counted p q images (Sample cpu key ∷ lines) s r =
    let none : ◌≡◌ {A = ℕ} (cond (p (line_said images (Sample cpu key))) 1 0) 0 = ap (λ (t : Bool). cond t 1 0) (s cpu key) in
    omega (arith, sum_by-cons (λ x. cond (p x) 1 0) (line_said images (Sample cpu key)) (map (line_said images) lines), none, lines_counted p q images lines s r)
lines_counted p q images (Rec notice ∷ lines) s r =
    let same : ◌≡◌ {A = ℕ} (cond (p (record_said images notice)) 1 0) (cond (q notice) 1 0) = ap (λ (t : Bool). cond t 1 0) (r notice) in
    omega (arith, sum_by-cons (λ x. cond (p x) 1 0) (record_said images notice) (map (line_said images) lines), sum_by-cons (λ x. cond (q x) 1 0) notice (records_from lines), same, lines_counted p q images lines s r)

-- so are those of a trace without a schedule
trace_counted : (p : Said ℕ → Bool) (q : Record → Bool) (r : Recording) → r.schedule ≡ [] → p Ended ≡ false → ((a b c : ℕ) → p (LongHeader a b c) ≡ false)
    → ((cpu : ℕ) (key : Key) → p (line_said r.images (Sample cpu key)) ≡ false) → ((notice : Record) → p (record_said r.images notice) ≡ q notice)
    → count_by p (said_in r) ≡ count_by q (records_in r)
trace_counted p q r none e h s n =
    let body = map (line_said r.images) r.lines in
    let top : ◌≡◌ {A = ℕ} (cond (p (LongHeader r.cpus r.buckets r.buffer)) 1 0) 0 = ap (λ (t : Bool). cond t 1 0) (h r.cpus r.buckets r.buffer) in
    let last : ◌≡◌ {A = ℕ} (cond (p Ended) 1 0) 0 = ap (λ (t : Bool). cond t 1 0) e in
    ap (λ (steps : List Step). count_by p (LongHeader r.cpus r.buckets r.buffer ∷ (body ++ Ended ∷ map step_said steps))) none
    ∙ omega (
      arith,
      sum_by-cons (λ x. cond (p x) 1 0) (LongHeader r.cpus r.buckets r.buffer) (body ++ Ended ∷ []),
      sum_by_push (λ x. cond (p x) 1 0) body Ended,
      top,
      last,
      lines_counted p q r.images r.lines s n,
    )

-- ---- no epoch

often_none : (period number : ℕ) (notice : Said ℕ) → is_epoch notice ≡ false → count_by is_epoch (every_so_often period notice number) ≡ 0
often_none period number notice e = by (eqb (number % period) 0)
  where
    by : (t : Bool) → count_by is_epoch (cond t (notice ∷ []) []) ≡ 0
    by true = ap (λ (t : Bool). 0 + cond {A = ℕ} t 1 0) e
    by false = refl

samples_none : (seed n : ℕ) → count_by is_epoch (samples_to seed n) ≡ 0
samples_none seed zero = refl
samples_none seed (suc n) =
    let sample = sample_from (state_after seed (5 * n)) in
    omega (
      arith,
      sum_by-append (λ x. cond (is_epoch x) 1 0) (samples_to seed n) (sample ∷ records_after (suc n)),
      sum_by-cons (λ x. cond (is_epoch x) 1 0) sample (records_after (suc n)),
      sum_by-append (λ x. cond (is_epoch x) 1 0) (every_so_often 10000 Drained (suc n)) (every_so_often 100000 Merged (suc n)),
      samples_none seed n,
      often_none 10000 (suc n) Drained refl,
      often_none 100000 (suc n) Merged refl,
    )

first_none : count_by is_epoch mapped_first ≡ 0
first_none = refl

made_none : (seed n : ℕ) → count_by is_epoch (made_trace seed n) ≡ 0
made_none seed n =
    omega (
      arith,
      sum_by-cons (λ x. cond (is_epoch x) 1 0) header ((mapped_first ++ samples_to seed n) ++ Ended ∷ []),
      sum_by_push (λ x. cond (is_epoch x) 1 0) (mapped_first ++ samples_to seed n) Ended,
      sum_by-append (λ x. cond (is_epoch x) 1 0) mapped_first (samples_to seed n),
      first_none,
      samples_none seed n,
    )

-- ---- few parts

made_parts : (seed n : ℕ) → n ≤ 2000000 → count_by is_part_end (made_trace seed n) ≤ 20
made_parts seed n few =
    omega (arith, sum_by_push (λ x. cond (is_part_end x) 1 0) (header ∷ (mapped_first ++ samples_to seed n)) Ended, (samples_hold seed n few).parts_are)

pub is_quiet : (r : Recording) → r.images ≡ images_in_order (said_in r) → IsMade r → IsQuietTrace r
is_quiet r in_order made =
    let holds = made_holds made.seed made.samples made.few in
    let epochs = trace_counted is_epoch begins_epoch r made.unscheduled refl (λ a b c. refl) (λ cpu key. refl) (epoch_said r.images) in
    let parts = trace_counted is_part_end ends_part r made.unscheduled refl (λ a b c. refl) (λ cpu key. refl) (part_said r.images) in
    let six : length r.images ≡ 6 = ap length (in_order ∙ ap images_in_order made.said ∙ holds.1) in
    let most : part_count (records_in r) ≤ 21 = omega (arith, parts, ap (count_by is_part_end) made.said, made_parts made.seed made.samples made.few) in
    record {
      unscheduled = made.unscheduled;
      one_epoch = sym epochs ∙ ap (count_by is_epoch) made.said ∙ made_none made.seed made.samples;
      few = subst (λ (n : ℕ). n * part_count (records_in r) ≤ 4096) (sym six) (omega arith);
    }
