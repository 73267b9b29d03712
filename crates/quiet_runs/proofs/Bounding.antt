-- The run of a quiet trace is small.
use Rattle.std.proofs.Common.{◌≡◌, ℕ, zero, suc, ◌+◌, ◌*◌, ◌%◌, ◌^◌, ◌<◌, ◌≤◌, ◌&&◌, Bool, true, false, not, cond, List, [], ◌∷◌, ◌++◌, map, take, refl, ◌∙◌, ap, subst, arith, inl, inr, Option, Some, None, eqb, ltb}
use Rattle.std.specs.Prelude.{count_by, filter, slice_index_or}
use Rattle.std.specs.List.{AllByRecursion}
use Rattle.std.specs.Str.{bytes_eq}
use Rattle.std.proofs.lemmas.Bool.{and_parts, cond_both, eqb-true, ltb-true, cases_lt}
use Rattle.std.proofs.lemmas.List.Sums.{sum_by-take-le, sum_by-cons}
use Rattle.sample_key.specs.Counted.{Counted}
use Rattle.sample_key.specs.Events.{code_of}
use Rattle.sample_key.specs.declared.events.Event.{Event}
use Rattle.sample_key.specs.declared.events.Event.TheVariants.{Cycles, Imiss, Dmiss, Branchmp}
use Rattle.sample_key.specs.declared.keys.Key.{Key}
use Rattle.sample_key.specs.declared.keys.Marked.{Marked}
use Rattle.sample_key.specs.declared.losses.Loss.{Loss}
use Rattle.sample_key.specs.declared.losses.Pace.TheVariants.{Free}
use Rattle.trace_model.specs.declared.notices.Line.{Line}
use Rattle.trace_model.specs.declared.notices.Line.TheVariants.{Sample, Rec}
use Rattle.trace_model.specs.declared.notices.Place.{Place}
use Rattle.trace_model.specs.declared.notices.Record.{Record}
use Rattle.trace_model.specs.Attribution.{place_at}
use Rattle.trace_model.specs.Parts.{begins_epoch, ends_part, epoch_after}
use Rattle.trace_model.specs.Recording.{Recording, are_good, line_said, name_at, record_said}
use Rattle.trace_model.specs.Said.{Said, Sampled}
use Rattle.trace_model.specs.Streams.{records_in, stream_from, stream_of}
use Rattle.trace_laws.proofs.Passing.{first_passes, rest_is_good}
use Rattle.driver_model.specs.Lists.{AllOf}
use Rattle.driver_laws.proofs.Adds.{same_parts}
use Rattle.database_model.specs.Runs.{Drained}
use Rattle.run_model.specs.Shares.{share_in}
use Rattle.run_model.specs.Validity.{AreCountedOnce, IsPlaced, IsValidRun}
use Rattle.run_laws.specs.Laws.{IsFit}
use Rattle.run_rounds.specs.Rounds.{reference_record}
use Rattle.run_exact.specs.Exact.{counted_where}
use Rattle.run_exact.proofs.Sums.{Respects}
use Rattle.growth_model.specs.Additions.{known_count, known_of, known_drained, unknown_count, unknown_of, unknown_drained}
use Rattle.small_runs.specs.Small.{IsSmallRun}
use Rattle.quiet_runs.specs.Quiet.{IsQuietTrace}
use Rattle.quiet_runs.proofs.Placing.{Keeps, PlaceFits, place_fits}
use Rattle.quiet_runs.proofs.Summing.{any_same, is_any, passed, passed_most, passed_none}

-- ---- addresses

-- a program counter that is no address
abbrev pub is_high : Key → Bool
is_high key = not (ltb key.pc (2 ^ 64))

high_same : Respects is_high
high_same a b same = ap (λ (n : ℕ). not (ltb n (2 ^ 64))) (same_parts a b same).1

abbrev pub HasAddress : Line → Type 0
HasAddress (Sample cpu key) = is_high key ≡ false
HasAddress (Rec notice) = Unit {0}

pub lines_addresses : (before : List (Said ℕ)) (images : List (List ℕ)) (lines : List Line) (rest : List (Said ℕ)) → are_good before (map (line_said images) lines ++ rest) ≡ true
    → AllByRecursion HasAddress lines
lines_addresses before images [] rest h = tt
lines_addresses before images (Sample cpu key ∷ lines) rest h =
    let said : Said ℕ = Sampled cpu key.pid key.pc key.event in
    let more = map (line_said images) lines ++ rest in
    let within = (first_passes before said more h).within in
    (ap not (and_parts _ _ (and_parts _ _ within).1).1, lines_addresses (before ++ said ∷ []) images lines rest (rest_is_good before said more h))
lines_addresses before images (Rec notice ∷ lines) rest h =
    let said = record_said images notice in
    (tt, lines_addresses (before ++ said ∷ []) images lines rest (rest_is_good before said (map (line_said images) lines ++ rest) h))

stream_low : (cpu mark : ℕ) (lines : List Line) → AllByRecursion HasAddress lines → AllOf (λ (s : Marked). is_high s.key ≡ false) (stream_from cpu mark lines)
stream_low cpu mark [] h = tt
stream_low cpu mark (Sample other key ∷ lines) h =
    let rest = stream_low cpu mark lines h.1 in
    cond_both (eqb other cpu) (record { key = key; mark = mark } ∷ stream_from cpu mark lines) (stream_from cpu mark lines)
    (λ (l : List Marked). AllOf (λ (s : Marked). is_high s.key ≡ false) l) (λ e. (h.0, rest)) (λ e. rest)
stream_low cpu mark (Rec notice ∷ lines) h = stream_low cpu (mark + 1) lines h.1

-- ---- any count of entries, each in its drain

code_small : (e : Event) → code_of e ≤ 3
code_small Cycles = omega arith
code_small Imiss = omega arith
code_small Dmiss = omega arith
code_small Branchmp = omega arith

cond_less : (t : Bool) (x : ℕ) → cond t x 0 ≤ x
cond_less true x = omega arith
cond_less false x = omega arith

module _ (w : Drained → Counted → ℕ) where
  sum_of : Drained → List Counted → ℕ
  sum_of d [] = 0
  sum_of d (c ∷ entries) = w d c + sum_of d entries

  sum_drained : ℕ → List Drained → ℕ
  sum_drained epoch [] = 0
  sum_drained epoch (d ∷ drains) = cond (eqb epoch d.epoch) (sum_of d d.batch.entries) 0 + sum_drained epoch drains

  module _ (most : (d : Drained) (c : Counted) → w d c ≤ c.count) where
    sum_most : (d : Drained) (entries : List Counted) → sum_of d entries ≤ counted_where is_any entries
    unfolding sum_of
    sum_most d [] = omega arith
    sum_most d (c ∷ entries) = omega (arith, most d c, sum_most d entries)

    drained_most : (epoch : ℕ) (drains : List Drained) → sum_drained epoch drains ≤ passed is_any drains
    unfolding sum_drained passed
    drained_most epoch [] = omega arith
    drained_most epoch (d ∷ drains) = omega (arith, cond_less (eqb epoch d.epoch) (sum_of d d.batch.entries), sum_most d d.batch.entries, drained_most epoch drains)

  module _ (R : Type 0) (told : (d : Drained) (c : Counted) → 0 < w d c → ◌≡◌ {A = ℕ} (cond (is_high c.key) c.count 0) 0 → R) where
    some_entry : (d : Drained) (entries : List Counted) → 0 < sum_of d entries → counted_where is_high entries ≡ 0 → R
    unfolding sum_of
    some_entry d [] some none = absurd (omega arith)
    some_entry d (c ∷ entries) some none = elim (cases_lt 0 (w d c)) as (λ z. R) [
      | inl more ↦ told d c more (omega arith)
      | inr none_here ↦ some_entry d entries (omega arith) (omega arith)
    ]

    some_drain : (epoch : ℕ) (drains : List Drained) → 0 < sum_drained epoch drains → AllOf (λ (d : Drained). d.epoch ≡ 0) drains → passed is_high drains ≡ 0 → (epoch ≡ 0) × R
    unfolding sum_drained passed
    some_drain epoch [] some zeros none = absurd (omega arith)
    some_drain epoch (d ∷ drains) some zeros none = by (eqb epoch d.epoch) refl some (λ s. some_drain epoch drains s zeros.1 (omega arith))
      where
        by : (t : Bool) → eqb epoch d.epoch ≡ t → 0 < cond t (sum_of d d.batch.entries) 0 + sum_drained epoch drains
            → (0 < sum_drained epoch drains → (epoch ≡ 0) × R) → (epoch ≡ 0) × R
        by false t some rest = rest (omega arith)
        by true t some rest = elim (cases_lt 0 (sum_of d d.batch.entries)) as (λ z. (epoch ≡ 0) × R) [
          | inl more ↦ (eqb-true epoch d.epoch t ∙ zeros.0, some_entry d d.batch.entries more (omega arith))
          | inr none_here ↦ rest (omega arith)
        ]

-- ---- what is known and what is not

abbrev known_entry : List (List ℕ) → List Record → List ℕ → ℕ → ℕ → Drained → Counted → ℕ
known_entry images records name v o d c = known_count images name v o c (place_at records d.at c.key.pid c.key.pc)

abbrev unknown_entry : List Record → ℕ → ℕ → Drained → Counted → ℕ
unknown_entry records v pc d c = unknown_count v pc c (place_at records d.at c.key.pid c.key.pc)

known_of_is : (images : List (List ℕ)) (records : List Record) (name : List ℕ) (v o : ℕ) (d : Drained) (entries : List Counted)
    → known_of images (place_at records d.at) name v o entries ≡ sum_of (known_entry images records name v o) d entries
unfolding sum_of
known_of_is images records name v o d [] = refl
known_of_is images records name v o d (c ∷ entries) = ap (λ (n : ℕ). known_entry images records name v o d c + n) (known_of_is images records name v o d entries)

known_is : (images : List (List ℕ)) (records : List Record) (e : ℕ) (name : List ℕ) (v o : ℕ) (drains : List Drained)
    → known_drained images records e name v o drains ≡ sum_drained (known_entry images records name v o) e drains
unfolding sum_drained
known_is images records e name v o [] = refl
known_is images records e name v o (d ∷ drains) =
    λ i. cond (eqb e d.epoch) (known_of_is images records name v o d d.batch.entries i) 0 + known_is images records e name v o drains i

unknown_of_is : (records : List Record) (v pc : ℕ) (d : Drained) (entries : List Counted)
    → unknown_of (place_at records d.at) v pc entries ≡ sum_of (unknown_entry records v pc) d entries
unfolding sum_of
unknown_of_is records v pc d [] = refl
unknown_of_is records v pc d (c ∷ entries) = ap (λ (n : ℕ). unknown_entry records v pc d c + n) (unknown_of_is records v pc d entries)

unknown_is : (records : List Record) (e v pc : ℕ) (drains : List Drained)
    → unknown_drained records e v pc drains ≡ sum_drained (unknown_entry records v pc) e drains
unfolding sum_drained
unknown_is records e v pc [] = refl
unknown_is records e v pc (d ∷ drains) =
    λ i. cond (eqb e d.epoch) (unknown_of_is records v pc d d.batch.entries i) 0 + unknown_is records e v pc drains i

known_most : (images : List (List ℕ)) (name : List ℕ) (v o : ℕ) (c : Counted) (p : Option Place) → known_count images name v o c p ≤ c.count
known_most images name v o c None = omega arith
known_most images name v o c (Some place) = cond_less (bytes_eq name (name_at images place.image) && eqb v (code_of c.key.event) && eqb o place.offset) c.count

unknown_most : (v pc : ℕ) (c : Counted) (p : Option Place) → unknown_count v pc c p ≤ c.count
unknown_most v pc c None = cond_less (eqb v (code_of c.key.event) && eqb pc c.key.pc) c.count
unknown_most v pc c (Some place) = omega arith

-- what a count that is some says of its tests
three_tests : (a b c : Bool) (n : ℕ) → 0 < cond (a && b && c) n 0 → (b ≡ true) × (c ≡ true) × (0 < n)
three_tests true true true n some = (refl, refl, some)
three_tests true true false n some = absurd (omega arith)
three_tests true false c n some = absurd (omega arith)
three_tests false b c n some = absurd (omega arith)

two_tests : (a b : Bool) (n : ℕ) → 0 < cond (a && b) n 0 → (a ≡ true) × (b ≡ true) × (0 < n)
two_tests true true n some = (refl, refl, some)
two_tests true false n some = absurd (omega arith)
two_tests false b n some = absurd (omega arith)

low : (key : Key) (n : ℕ) → 0 < n → ◌≡◌ {A = ℕ} (cond (is_high key) n 0) 0 → key.pc < 2 ^ 64
low key n some none = by (ltb key.pc (2 ^ 64)) refl none
  where
    by : (t : Bool) → ltb key.pc (2 ^ 64) ≡ t → ◌≡◌ {A = ℕ} (cond (not t) n 0) 0 → key.pc < 2 ^ 64
    by true t none = ltb-true key.pc (2 ^ 64) t
    by false t none = absurd (omega arith)

abbrev IsAt : ℕ → ℕ → Type 0
IsAt v o = (v ≤ 3) × (o % 4 ≡ 0) × (o < 2 ^ 64)

known_told : (images : List (List ℕ)) (name : List ℕ) (v o : ℕ) (c : Counted) (p : Option Place) → PlaceFits c.key.pc p → 0 < known_count images name v o c p
    → ◌≡◌ {A = ℕ} (cond (is_high c.key) c.count 0) 0 → IsAt v o
known_told images name v o c None fits some none = absurd (omega arith)
known_told images name v o c (Some place) fits some none =
    let t = three_tests (bytes_eq name (name_at images place.image)) (eqb v (code_of c.key.event)) (eqb o place.offset) c.count some in
    let event : v ≡ code_of c.key.event = eqb-true v (code_of c.key.event) t.0 in
    let at : o ≡ place.offset = eqb-true o place.offset t.1 in
    let below : c.key.pc < 2 ^ 64 = low c.key c.count t.2 none in
    let aligned : place.offset % 4 ≡ 0 = fits.0 in
    let less : place.offset ≤ c.key.pc = fits.1 in
    (omega (arith, code_small c.key.event), ap (λ (n : ℕ). n % 4) at ∙ aligned, omega arith)

unknown_told : (v pc : ℕ) (c : Counted) (p : Option Place) → 0 < unknown_count v pc c p → ◌≡◌ {A = ℕ} (cond (is_high c.key) c.count 0) 0 → IsAt v pc
unknown_told v pc c None some none =
    let t = two_tests (eqb v (code_of c.key.event)) (eqb pc c.key.pc) c.count some in
    let event : v ≡ code_of c.key.event = eqb-true v (code_of c.key.event) t.0 in
    let at : pc ≡ c.key.pc = eqb-true pc c.key.pc t.1 in
    let below : c.key.pc < 2 ^ 64 = low c.key c.count t.2 none in
    (omega (arith, code_small c.key.event), ap (λ (n : ℕ). n % 4) at ∙ c.key.aligned, omega arith)
unknown_told v pc c (Some place) some none = absurd (omega arith)

-- ---- epochs

filter_less : (p q : Record → Bool) (xs : List Record) → count_by p (filter q xs) ≤ count_by p xs
filter_less p q [] = omega arith
filter_less p q (x ∷ xs) =
    cond_both (q x) (x ∷ filter q xs) (filter q xs) (λ (l : List Record). count_by p l ≤ count_by p (x ∷ xs))
    (λ e. omega (arith, filter_less p q xs, sum_by-cons (λ (r : Record). cond (p r) 1 0) x (filter q xs), sum_by-cons (λ (r : Record). cond (p r) 1 0) x xs))
    (λ e. omega (arith, filter_less p q xs, sum_by-cons (λ (r : Record). cond (p r) 1 0) x xs))

no_epoch : (records : List Record) (n : ℕ) → count_by begins_epoch records ≡ 0 → epoch_after 0 (take n records) ≡ 0
no_epoch records n none = omega (arith, sum_by-take-le (λ (r : Record). cond (begins_epoch r) 1 0) records n)

no_epoch_parts : (records : List Record) (n : ℕ) → count_by begins_epoch records ≡ 0 → epoch_after 0 (take n (filter ends_part records)) ≡ 0
no_epoch_parts records n none = no_epoch (filter ends_part records) n (omega (arith, filter_less begins_epoch ends_part records))

all_zero : (records : List Record) (drains : List Drained) → count_by begins_epoch records ≡ 0 → AllOf (IsPlaced records 0) drains → AllOf (λ (d : Drained). d.epoch ≡ 0) drains
all_zero records [] none placed = tt
all_zero records (d ∷ drains) none placed = (placed.0.epoch ∙ no_epoch records d.at none, all_zero records drains none placed.1)

-- ---- the record

pub index_none : (losses : List (List Loss)) (cpu : ℕ) → AllOf (λ (l : List Loss). l ≡ []) losses → slice_index_or losses cpu [] ≡ []
index_none [] cpu none = refl
index_none (l ∷ losses) zero none = none.0
index_none (l ∷ losses) (suc cpu) none = index_none losses cpu none.1

pub small_run : (trace : Recording) → IsFit trace → AllByRecursion Keeps (records_in trace) → AllByRecursion HasAddress trace.lines → IsValidRun Free trace (reference_record trace 1 0)
    → AllOf (λ (l : List Loss). l ≡ []) (reference_record trace 1 0).losses → IsQuietTrace trace → IsSmallRun trace.images (records_in trace) (reference_record trace 1 0)
small_run trace fit keeps addresses valid none quiet =
    let kept = reference_record trace 1 0 in
    let records = records_in trace in
    let zeros = all_zero records kept.drains quiet.one_epoch valid.drains.placed in
    let once : (cpu : ℕ) → cpu < trace.cpus → AreCountedOnce (stream_of cpu trace) (share_in kept.drains [] cpu)
    = λ cpu l. subst (λ (losses : List Loss). AreCountedOnce (stream_of cpu trace) (share_in kept.drains losses cpu)) (index_none kept.losses cpu none) (valid.shares cpu l).counted in
    let most : passed is_any kept.drains ≤ trace.cpus * 2000000
    = passed_most is_any any_same trace kept.drains (λ cpu. stream_of cpu trace) 2000000 valid.drains.of_trace once (λ cpu l. (fit.streams cpu).few) in
    let high : passed is_high kept.drains ≡ 0
    = passed_none is_high high_same trace kept.drains (λ cpu. stream_of cpu trace) valid.drains.of_trace once (λ cpu. stream_low cpu 0 trace.lines addresses) in
    let all : passed is_any kept.drains ≤ 2 ^ 48 = omega (arith, few_cpus trace.cpus fit.cpus) in
    record {
      run = refl;
      first_epoch = refl;
      one_epoch = λ parts. no_epoch_parts records parts quiet.one_epoch;
      few = quiet.few;
      rows = omega (arith, fit.parts, quiet.few);
      small = record {
        known = λ e name v o. omega (
          arith,
          known_is trace.images records e name v o kept.drains,
          drained_most (known_entry trace.images records name v o) (λ d c. known_most trace.images name v o c (place_at records d.at c.key.pid c.key.pc)) e kept.drains,
        );
        known_at = λ e name v o some.
            let at = some_drain (known_entry trace.images records name v o) (IsAt v o)
            (λ d c more nil. known_told trace.images name v o c (place_at records d.at c.key.pid c.key.pc) (place_fits c.key.pc c.key.aligned records d.at c.key.pid keeps) more nil)
            e kept.drains (subst (λ (n : ℕ). 0 < n) (known_is trace.images records e name v o kept.drains) some) zeros high in
            (at.0, at.1.0, at.1.1, at.1.2);
        unknown = λ e v pc. omega (
          arith,
          unknown_is records e v pc kept.drains,
          drained_most (unknown_entry records v pc) (λ d c. unknown_most v pc c (place_at records d.at c.key.pid c.key.pc)) e kept.drains,
        );
        unknown_at = λ e v pc some.
            let at = some_drain (unknown_entry records v pc) (IsAt v pc)
            (λ d c more nil. unknown_told v pc c (place_at records d.at c.key.pid c.key.pc) more nil)
            e kept.drains (subst (λ (n : ℕ). 0 < n) (unknown_is records e v pc kept.drains) some) zeros high in
            (at.0, at.1.0, at.1.1, at.1.2);
      };
    }
  where
    few_cpus : (n : ℕ) → n ≤ 16 → n * 2000000 ≤ 32000000
    few_cpus n few = omega arith
