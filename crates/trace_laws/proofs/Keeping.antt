-- What every trace keeps whose lines are good.
use Rattle.std.proofs.Common.{◌≡◌, ℕ, ◌+◌, ◌≤◌, ◌||◌, ◌==◌, ◌^◌, Bool, true, false, cond, List, [], ◌∷◌, ◌++◌, length, map, leb, refl, sym, ap, subst, ◌∙◌, arith}
use Rattle.std.specs.List.{AllByRecursion, count_by, list_any}
use Rattle.std.proofs.lemmas.Bool.{and_parts, and_from, leb-true, leb-false, false≢true, eqb-true}
use Rattle.std.proofs.lemmas.List.Sums.{sum_by-cons}
use Rattle.sample_key.specs.declared.limits.TheConstants.{MOST_SAMPLES}
use Rattle.trace_model.specs.declared.limits.TheConstants.{MOST_BUCKETS, MOST_CPUS, MOST_ENTRIES, MOST_PARTS, MOST_RECORDS, MOST_STEPS}
use Rattle.trace_model.specs.declared.notices.Record.{Record}
use Rattle.trace_model.specs.declared.notices.Record.TheVariants.{Scan, Load, Unload, Exec, Exit, Kernel, Drain, Merge, Epoch}
use Rattle.trace_model.specs.declared.notices.Line.{Line}
use Rattle.trace_model.specs.declared.notices.Line.TheVariants.{Sample, Rec}
use Rattle.trace_model.specs.declared.notices.Step.{Step}
use Rattle.trace_model.specs.declared.notices.Step.TheVariants.{Lane, Poll, Advance}
use Rattle.trace_model.specs.Said.{Said, LongHeader, Ended, every, tested, is_within, is_aligned, is_sample, is_record, is_step, is_part_end, is_table_size}
use Rattle.trace_model.specs.Parts.{ends_part}
use Rattle.trace_model.specs.Recording.{Recording, are_good, is_named, keeps_ranges, line_said, record_said, said_in, step_said}
use Rattle.trace_model.specs.Streams.{names_below, records_from, samples_from, steps_below}
use Rattle.trace_laws.specs.Kept.{HasSizes, KeepsLimits, KeepsRanges, NamesProcessors}
use Rattle.trace_laws.proofs.Passing.{Passes, all_within, first_passes, rest_is_good, parts_limited, records_limited, samples_limited, steps_limited}

-- counts of lines

more : (kind : Said ℕ → Bool) (said : Said ℕ) (others : List (Said ℕ)) → count_by kind (said ∷ others) ≡ cond (kind said) 1 0 + count_by kind others
more kind said others = sum_by-cons (λ x. cond (kind x) 1 0) said others

is_counted : (images : List (List ℕ)) (notice : Record) → (is_record (record_said images notice) ≡ true) × (is_part_end (record_said images notice) ≡ ends_part notice)
is_counted images (Scan process base length image) = (refl, refl)
is_counted images (Load process base length image) = (refl, refl)
is_counted images (Unload process base length) = (refl, refl)
is_counted images (Exec process base length image) = (refl, refl)
is_counted images (Exit process) = (refl, refl)
is_counted images (Kernel base length image) = (refl, refl)
is_counted images Drain = (refl, refl)
is_counted images Merge = (refl, refl)
is_counted images Epoch = (refl, refl)

as_many_samples : (images : List (List ℕ)) (rest : List (Said ℕ)) (lines : List Line) → length (samples_from lines) ≤ count_by is_sample (map (line_said images) lines ++ rest)
as_many_samples images rest [] = omega arith
as_many_samples images rest (Sample cpu key ∷ lines) = omega (arith, as_many_samples images rest lines, more is_sample (line_said images (Sample cpu key)) (map (line_said images) lines ++ rest))
as_many_samples images rest (Rec notice ∷ lines) = omega (arith, as_many_samples images rest lines, more is_sample (record_said images notice) (map (line_said images) lines ++ rest))

as_many_records : (images : List (List ℕ)) (rest : List (Said ℕ)) (lines : List Line) → length (records_from lines) ≤ count_by is_record (map (line_said images) lines ++ rest)
as_many_records images rest [] = omega arith
as_many_records images rest (Sample cpu key ∷ lines) = omega (arith, as_many_records images rest lines, more is_record (line_said images (Sample cpu key)) (map (line_said images) lines ++ rest))
as_many_records images rest (Rec notice ∷ lines) = omega (arith, as_many_records images rest lines, more is_record (record_said images notice) (map (line_said images) lines ++ rest), ap {B = ℕ} (λ (b : Bool). cond b 1 0) (is_counted images notice).0)

as_many_parts : (images : List (List ℕ)) (rest : List (Said ℕ)) (lines : List Line) → count_by ends_part (records_from lines) ≤ count_by is_part_end (map (line_said images) lines ++ rest)
as_many_parts images rest [] = omega arith
as_many_parts images rest (Sample cpu key ∷ lines) = omega (arith, as_many_parts images rest lines, more is_part_end (line_said images (Sample cpu key)) (map (line_said images) lines ++ rest))
as_many_parts images rest (Rec notice ∷ lines) = omega (
  arith,
  as_many_parts images rest lines,
  more is_part_end (record_said images notice) (map (line_said images) lines ++ rest),
  sum_by-cons (λ x. cond (ends_part x) 1 0) notice (records_from lines),
  ap {B = ℕ} (λ (b : Bool). cond b 1 0) (is_counted images notice).1,
)

is_counted_step : (step : Step) → is_step (step_said step) ≡ true
is_counted_step (Lane cpu) = refl
is_counted_step (Poll cpu cell) = refl
is_counted_step Advance = refl

as_many_steps : (steps : List Step) → length steps ≤ count_by is_step (map step_said steps)
as_many_steps [] = omega arith
as_many_steps (step ∷ steps) = omega (arith, as_many_steps steps, more is_step (step_said step) (map step_said steps), ap {B = ℕ} (λ (b : Bool). cond b 1 0) (is_counted_step step))

behind : (kind : Said ℕ → Bool) (front rest : List (Said ℕ)) → count_by kind rest ≤ count_by kind (front ++ rest)
behind kind [] rest = omega arith
behind kind (said ∷ front) rest = omega (arith, behind kind front rest, more kind said (front ++ rest))

-- the limits of what is said line by line
pub limits_of : (r : Recording) → are_good [] (said_in r) ≡ true → KeepsLimits r
limits_of r good =
    let lines : List (Said ℕ) = map (line_said r.images) r.lines in
    let steps : List (Said ℕ) = map step_said r.schedule in
    let header : Said ℕ = LongHeader r.cpus r.buckets r.buffer in
    record {
      samples = omega (arith, as_many_samples r.images (Ended ∷ steps) r.lines, more is_sample header (lines ++ Ended ∷ steps), all_within is_sample MOST_SAMPLES samples_limited (said_in r) good);
      records = omega (arith, as_many_records r.images (Ended ∷ steps) r.lines, more is_record header (lines ++ Ended ∷ steps), all_within is_record MOST_RECORDS records_limited (said_in r) good);
      parts = omega (arith, as_many_parts r.images (Ended ∷ steps) r.lines, more is_part_end header (lines ++ Ended ∷ steps), all_within is_part_end MOST_PARTS parts_limited (said_in r) good);
      steps = omega (arith, as_many_steps r.schedule, more is_step Ended steps, behind is_step lines (Ended ∷ steps), more is_step header (lines ++ Ended ∷ steps), all_within is_step MOST_STEPS steps_limited (said_in r) good);
    }

-- the sizes of the header

abbrev IsSize : ℕ → Type 0
IsSize n = (1 ≤ n) × (n ≤ MOST_BUCKETS)

is_one_of : (n : ℕ) (powers : List ℕ) → AllByRecursion (λ k. IsSize (2 ^ k)) powers → list_any (λ k. n == 2 ^ k) powers ≡ true → IsSize n
is_one_of n [] sizes h = absurd (false≢true h)
is_one_of n (k ∷ powers) sizes h = if_this (n == 2 ^ k) (list_any (λ k. n == 2 ^ k) powers) (λ e. subst IsSize (sym (eqb-true n (2 ^ k) e)) sizes.0) (is_one_of n powers sizes.1) h where
  if_this : (this others : Bool) → (this ≡ true → IsSize n) → (others ≡ true → IsSize n) → (this || others) ≡ true → IsSize n
  if_this true others found else_found e = found refl
  if_this false others found else_found e = else_found e

powers_are_sizes : AllByRecursion (λ k. IsSize (2 ^ k)) (0 ∷ 1 ∷ 2 ∷ 3 ∷ 4 ∷ 5 ∷ 6 ∷ 7 ∷ 8 ∷ 9 ∷ 10 ∷ 11 ∷ 12 ∷ [])
powers_are_sizes = ((omega arith, omega arith), ((omega arith, omega arith), ((omega arith, omega arith), ((omega arith, omega arith), ((omega arith, omega arith), ((omega arith, omega arith), ((omega arith, omega arith), ((omega arith, omega arith), ((omega arith, omega arith), ((omega arith, omega arith), ((omega arith, omega arith), ((omega arith, omega arith), ((omega arith, omega arith), tt)))))))))))))

is_some_size : (n : ℕ) → is_table_size n ≡ true → IsSize n
is_some_size n h = is_one_of n (0 ∷ 1 ∷ 2 ∷ 3 ∷ 4 ∷ 5 ∷ 6 ∷ 7 ∷ 8 ∷ 9 ∷ 10 ∷ 11 ∷ 12 ∷ []) powers_are_sizes h

header_sizes : (cpus buckets buffer : ℕ) → every is_within (tested (LongHeader cpus buckets buffer)) ≡ true → (1 ≤ cpus) × (cpus ≤ MOST_CPUS) × IsSize buckets × (1 ≤ buffer) × (buffer ≤ MOST_ENTRIES)
header_sizes cpus buckets buffer h =
    let all = and_parts _ _ h in
    let others = and_parts _ _ all.1 in
    let cpus_are = and_parts (leb 1 cpus) (leb cpus MOST_CPUS) all.0 in
    let buffer_is = and_parts (leb 1 buffer) (leb buffer MOST_ENTRIES) others.1 in
    (leb-true 1 cpus cpus_are.0, leb-true cpus MOST_CPUS cpus_are.1, is_some_size buckets others.0, leb-true 1 buffer buffer_is.0, leb-true buffer MOST_ENTRIES buffer_is.1)

pub sizes_of : (r : Recording) → are_good [] (said_in r) ≡ true → HasSizes r
sizes_of r good =
    let header : Said ℕ = LongHeader r.cpus r.buckets r.buffer in
    let p = header_sizes r.cpus r.buckets r.buffer (first_passes [] header (map (line_said r.images) r.lines ++ Ended ∷ map step_said r.schedule) good).within in
    record { some_cpus = p.0; cpus = p.1; some_buckets = p.2.0; buckets = p.2.1; some_entries = p.3; entries = p.4 }

-- the ranges of the records

alike : (images : List (List ℕ)) (notice : Record) → (every is_within (tested (record_said [] notice)) ≡ every is_within (tested (record_said images notice))) × (every is_aligned (tested (record_said [] notice)) ≡ every is_aligned (tested (record_said images notice)))
alike images (Scan process base length image) = (refl, refl)
alike images (Load process base length image) = (refl, refl)
alike images (Unload process base length) = (refl, refl)
alike images (Exec process base length image) = (refl, refl)
alike images (Exit process) = (refl, refl)
alike images (Kernel base length image) = (refl, refl)
alike images Drain = (refl, refl)
alike images Merge = (refl, refl)
alike images Epoch = (refl, refl)

keeps : (before : List (Said ℕ)) (images : List (List ℕ)) (notice : Record) → Passes before (record_said images notice) → keeps_ranges notice ≡ true
keeps before images notice p = and_from (every is_within (tested (record_said [] notice))) (every is_aligned (tested (record_said [] notice))) ((alike images notice).0 ∙ p.within) ((alike images notice).1 ∙ p.aligned)

records_of : (before rest : List (Said ℕ)) (images : List (List ℕ)) (lines : List Line) → are_good before (map (line_said images) lines ++ rest) ≡ true
    → AllByRecursion (λ notice. keeps_ranges notice ≡ true) (records_from lines) × AllByRecursion (λ notice. is_named images notice ≡ true) (records_from lines)
records_of before rest images [] h = (tt, tt)
records_of before rest images (Sample cpu key ∷ lines) h =
    records_of (before ++ line_said images (Sample cpu key) ∷ []) rest images lines (rest_is_good before (line_said images (Sample cpu key)) (map (line_said images) lines ++ rest) h)
records_of before rest images (Rec notice ∷ lines) h =
    let first = first_passes before (record_said images notice) (map (line_said images) lines ++ rest) h in
    let others = records_of (before ++ record_said images notice ∷ []) rest images lines (rest_is_good before (record_said images notice) (map (line_said images) lines ++ rest) h) in
    ((keeps before images notice first, others.0), (first.titled, others.1))

-- what stands behind the header of a trace
body_is_good : (r : Recording) → are_good [] (said_in r) ≡ true → are_good (LongHeader r.cpus r.buckets r.buffer ∷ []) (map (line_said r.images) r.lines ++ Ended ∷ map step_said r.schedule) ≡ true
body_is_good r good = rest_is_good [] (LongHeader r.cpus r.buckets r.buffer) (map (line_said r.images) r.lines ++ Ended ∷ map step_said r.schedule) good

pub ranges_of : (r : Recording) → are_good [] (said_in r) ≡ true → KeepsRanges r
ranges_of r good =
    let p = records_of (LongHeader r.cpus r.buckets r.buffer ∷ []) (Ended ∷ map step_said r.schedule) r.images r.lines (body_is_good r good) in
    record { ranges = p.0; names = p.1 }

-- the processors of samples and steps

sample_below : (cpus buckets buffer : ℕ) (before : List (Said ℕ)) (images : List (List ℕ)) (line : Line) → Passes (LongHeader cpus buckets buffer ∷ before) (line_said images line) → names_below cpus line
sample_below cpus buckets buffer before images (Sample cpu key) p = leb-false cpus cpu p.has_cpu
sample_below cpus buckets buffer before images (Rec notice) p = tt

step_below : (cpus buckets buffer : ℕ) (before : List (Said ℕ)) (step : Step) → Passes (LongHeader cpus buckets buffer ∷ before) (step_said step) → steps_below cpus step
step_below cpus buckets buffer before (Lane cpu) p = leb-false cpus cpu p.has_cpu
step_below cpus buckets buffer before (Poll cpu cell) p = leb-false cpus cpu p.has_cpu
step_below cpus buckets buffer before Advance p = tt

all_steps : (cpus buckets buffer : ℕ) (before : List (Said ℕ)) (steps : List Step) → are_good (LongHeader cpus buckets buffer ∷ before) (map step_said steps) ≡ true → AllByRecursion (steps_below cpus) steps
all_steps cpus buckets buffer before [] h = tt
all_steps cpus buckets buffer before (step ∷ steps) h = (
  step_below cpus buckets buffer before step (first_passes (LongHeader cpus buckets buffer ∷ before) (step_said step) (map step_said steps) h),
  all_steps cpus buckets buffer (before ++ step_said step ∷ []) steps (rest_is_good (LongHeader cpus buckets buffer ∷ before) (step_said step) (map step_said steps) h),
)

all_lines : (cpus buckets buffer : ℕ) (before : List (Said ℕ)) (images : List (List ℕ)) (lines : List Line) (steps : List Step)
    → are_good (LongHeader cpus buckets buffer ∷ before) (map (line_said images) lines ++ Ended ∷ map step_said steps) ≡ true
    → AllByRecursion (names_below cpus) lines × AllByRecursion (steps_below cpus) steps
all_lines cpus buckets buffer before images [] steps h = (tt, all_steps cpus buckets buffer (before ++ Ended ∷ []) steps (rest_is_good (LongHeader cpus buckets buffer ∷ before) Ended (map step_said steps) h))
all_lines cpus buckets buffer before images (line ∷ lines) steps h =
    let rest = all_lines cpus buckets buffer (before ++ line_said images line ∷ []) images lines steps (rest_is_good (LongHeader cpus buckets buffer ∷ before) (line_said images line) (map (line_said images) lines ++ Ended ∷ map step_said steps) h) in
    ((sample_below cpus buckets buffer before images line (first_passes (LongHeader cpus buckets buffer ∷ before) (line_said images line) (map (line_said images) lines ++ Ended ∷ map step_said steps) h), rest.0), rest.1)

pub processors_of : (r : Recording) → are_good [] (said_in r) ≡ true → NamesProcessors r
processors_of r good = let p = all_lines r.cpus r.buckets r.buffer [] r.images r.lines r.schedule (body_is_good r good) in record { samples = p.0; steps = p.1 }
