-- What each line of a good trace passes.
use Rattle.std.proofs.Common.{◌≡◌, ℕ, ◌<◌, ◌≤◌, ◌&&◌, ◌||◌, Bool, true, false, cond, List, [], ◌∷◌, ◌++◌, leb, refl, sym, ap, subst, arith, if◌then◌else◌}
use Rattle.std.specs.List.{count_by}
use Rattle.std.specs.Option.{is_none}
use Rattle.std.proofs.lemmas.Bool.{and_parts, or_parts, not-false, not-true, leb-false, false≢true}
use Rattle.std.proofs.lemmas.List.{append_assoc, append-nil}
use Rattle.std.proofs.lemmas.List.Sums.{sum_by_push}
use Rattle.sample_key.specs.declared.limits.TheConstants.{MOST_SAMPLES}
use Rattle.trace_model.specs.declared.limits.TheConstants.{MOST_PARTS, MOST_RECORDS, MOST_STEPS}
use Rattle.trace_model.specs.Said.{Said, every, tested, is_within, is_aligned, is_titled, is_sample, is_record, is_step, is_end, is_header, is_part_end, Merged, EpochBegun}
use Rattle.trace_model.specs.Grammar.{first_that_applies, value_tests, names_no_cpu, is_record_too_many, is_sample_too_many}
use Rattle.trace_model.specs.Recording.{are_good}
use Rattle.trace_model.proofs.Tests.{all_clear}

-- what a line passes, after what the lines before it said
pub record Passes (before : List (Said ℕ)) (said : Said ℕ) : Type 0 where
  pub within : every is_within (tested said) ≡ true
  pub aligned : every is_aligned (tested said) ≡ true
  pub titled : every is_titled (tested said) ≡ true
  pub has_cpu : names_no_cpu before said ≡ false
  pub sample : is_sample_too_many before said ≡ false
  pub record_or_step : is_record_too_many before said ≡ false

passes : (before : List (Said ℕ)) (said : Said ℕ) → is_none (first_that_applies (value_tests before said)) ≡ true → Passes before said
passes before said h = let clear = all_clear (value_tests before said) h in record {
  within = not-false (every is_within (tested said)) clear.0;
  aligned = not-false (every is_aligned (tested said)) clear.1.0;
  titled = not-false (every is_titled (tested said)) clear.1.1.0;
  has_cpu = clear.1.1.1.0;
  sample = clear.1.1.1.1.1.0;
  record_or_step = clear.1.1.1.1.1.1.0;
}

pub first_passes : (before : List (Said ℕ)) (said : Said ℕ) (more : List (Said ℕ)) → are_good before (said ∷ more) ≡ true → Passes before said
first_passes before said more h = passes before said (and_parts (is_none (first_that_applies (value_tests before said))) (are_good (before ++ said ∷ []) more) h).0

pub rest_is_good : (before : List (Said ℕ)) (said : Said ℕ) (more : List (Said ℕ)) → are_good before (said ∷ more) ≡ true → are_good (before ++ said ∷ []) more ≡ true
rest_is_good before said more h = (and_parts (is_none (first_that_applies (value_tests before said))) (are_good (before ++ said ∷ []) more) h).1

-- a kind of line of which one more is refused at a limit
abbrev pub IsLimited : (Said ℕ → Bool) → ℕ → Type 0
IsLimited kind limit = (before : List (Said ℕ)) (said : Said ℕ) → Passes before said → kind said ≡ true → count_by kind before < limit

push_by : (kind : Said ℕ → Bool) (limit : ℕ) (before : List (Said ℕ)) (said : Said ℕ) (b : Bool) → kind said ≡ b → (kind said ≡ true → count_by kind before < limit) → count_by kind before ≤ limit → count_by kind (before ++ said ∷ []) ≤ limit
push_by kind limit before said true e h k = omega (arith, h e, sum_by_push (λ x. cond (kind x) 1 0) before said, ap {B = ℕ} (λ (c : Bool). cond c 1 0) e)
push_by kind limit before said false e h k = omega (arith, k, sum_by_push (λ x. cond (kind x) 1 0) before said, ap {B = ℕ} (λ (c : Bool). cond c 1 0) e)

-- good lines keep to the limit
within : (kind : Said ℕ → Bool) (limit : ℕ) → IsLimited kind limit → (before more : List (Said ℕ)) → are_good before more ≡ true → count_by kind before ≤ limit → count_by kind (before ++ more) ≤ limit
within kind limit limited before [] h k = subst (λ (l : List (Said ℕ)). count_by kind l ≤ limit) (sym (append-nil before)) k
within kind limit limited before (said ∷ more) h k =
    subst (λ (l : List (Said ℕ)). count_by kind l ≤ limit) (append_assoc before (said ∷ []) more)
    (within kind limit limited (before ++ said ∷ []) more (rest_is_good before said more h) (push_by kind limit before said (kind said) refl (limited before said (first_passes before said more h)) k))

-- all lines of a trace keep to it
pub all_within : (kind : Said ℕ → Bool) (limit : ℕ) → IsLimited kind limit → (lines : List (Said ℕ)) → are_good [] lines ≡ true → count_by kind lines ≤ limit
all_within kind limit limited lines h = within kind limit limited [] lines h (omega arith)

fails : (b c : Bool) → (b && c) ≡ false → b ≡ true → c ≡ false
fails true c h e = h
fails false c h e = absurd (false≢true e)

if_record : (step ends kind s r p : Bool) → (if step then s else (if ends then r || p else (kind && r))) ≡ false → step ≡ false → kind ≡ true → r ≡ false
if_record true ends kind s r p h n k = absurd (false≢true (sym n))
if_record false true kind s r p h n k = (or_parts r p h).0
if_record false false kind s r p h n k = fails kind r h k

if_part_end : (step ends kind s r p : Bool) → (if step then s else (if ends then r || p else (kind && r))) ≡ false → step ≡ false → ends ≡ true → p ≡ false
if_part_end true ends kind s r p h n k = absurd (false≢true (sym n))
if_part_end false true kind s r p h n k = (or_parts r p h).1
if_part_end false false kind s r p h n k = absurd (false≢true k)

if_step : (step rest s : Bool) → (if step then s else rest) ≡ false → step ≡ true → s ≡ false
if_step true rest s h k = h
if_step false rest s h k = absurd (false≢true k)

record_is_no_step : (said : Said ℕ) → is_record said ≡ true → is_step said ≡ false
record_is_no_step said h = (or_parts (is_header said || is_sample said || is_end said) (is_step said) (not-true _ h)).1

part_end_is_no_step : (said : Said ℕ) → is_part_end said ≡ true → is_step said ≡ false
part_end_is_no_step Merged h = refl
part_end_is_no_step EpochBegun h = refl
part_end_is_no_step _ h = absurd (false≢true h)

pub samples_limited : IsLimited is_sample MOST_SAMPLES
samples_limited before said p is = leb-false MOST_SAMPLES (count_by is_sample before) (fails (is_sample said) (leb MOST_SAMPLES (count_by is_sample before)) p.sample is)

pub records_limited : IsLimited is_record MOST_RECORDS
records_limited before said p is = leb-false MOST_RECORDS (count_by is_record before)
    (if_record (is_step said) (is_part_end said) (is_record said) (leb MOST_STEPS (count_by is_step before)) (leb MOST_RECORDS (count_by is_record before)) (leb MOST_PARTS (count_by is_part_end before))
    p.record_or_step (record_is_no_step said is) is)

pub parts_limited : IsLimited is_part_end MOST_PARTS
parts_limited before said p is = leb-false MOST_PARTS (count_by is_part_end before)
    (if_part_end (is_step said) (is_part_end said) (is_record said) (leb MOST_STEPS (count_by is_step before)) (leb MOST_RECORDS (count_by is_record before)) (leb MOST_PARTS (count_by is_part_end before))
    p.record_or_step (part_end_is_no_step said is) is)

pub steps_limited : IsLimited is_step MOST_STEPS
steps_limited before said p is = leb-false MOST_STEPS (count_by is_step before) (if_step (is_step said) _ (leb MOST_STEPS (count_by is_step before)) p.record_or_step is)
