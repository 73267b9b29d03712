-- What is drained of a run that lost nothing: on every test that does not tell equal keys apart, at most what its samples are.
use Rattle.std.proofs.Common.{◌≡◌, ℕ, zero, suc, ◌+◌, ◌*◌, ◌<◌, ◌≤◌, ◌&&◌, Bool, true, false, cond, List, [], ◌∷◌, ◌++◌, length, refl, sym, ◌∙◌, ap, subst, arith, eqb, ltb}
use Rattle.std.proofs.lemmas.Bool.{cond-true, lt-ltb}
use Rattle.std.proofs.Math.Nat.{suc-mul, mul-zero}
use Rattle.sample_key.specs.declared.losses.Loss.{Loss}
use Rattle.sample_key.specs.Bags.{lost, weight, times, batched, once}
use Rattle.sample_key.specs.Counted.{Counted, entry}
use Rattle.sample_key.specs.declared.keys.Key.{Key}
use Rattle.sample_key.specs.declared.keys.Marked.{Marked}
use Rattle.trace_model.specs.Recording.{Recording}
use Rattle.driver_model.specs.Lists.{AllOf}
use Rattle.driver_laws.proofs.Weights.{weight-append}
use Rattle.database_model.specs.Runs.{Drained}
use Rattle.run_model.specs.Shares.{Share, share_in, is_of, drains_of, batches_in, drained_weight}
use Rattle.run_model.specs.Validity.{IsOfTrace, AreCountedOnce}
use Rattle.run_exact.specs.Exact.{counted_where}
use Rattle.growth_model.proofs.Weights.{lt_suc, not_both, none_first}
use Rattle.small_runs.proofs.Sharing.{one_of}
use Rattle.run_exact.proofs.Sums.{Respects, sums_agree, counted-append}

-- the entries of drains
entries_in : List Drained → List Counted
entries_in [] = []
entries_in (d ∷ drains) = d.batch.entries ++ entries_in drains

-- how often drains count the keys that pass
unfoldable pub passed : (Key → Bool) → List Drained → ℕ
passed test [] = 0
passed test (d ∷ drains) = counted_where test d.batch.entries + passed test drains

passed_is : (test : Key → Bool) (drains : List Drained) → counted_where test (entries_in drains) ≡ passed test drains
unfolding entries_in passed
passed_is test [] = refl
passed_is test (d ∷ drains) = counted-append test d.batch.entries (entries_in drains) ∙ ap (λ (n : ℕ). counted_where test d.batch.entries + n) (passed_is test drains)

weighed : (key : Key) (drains : List Drained) → weight key (entries_in drains) ≡ batched key (batches_in drains)
unfolding entries_in
weighed key [] = refl
weighed key (d ∷ drains) = weight-append key d.batch.entries (entries_in drains) ∙ ap (λ (n : ℕ). weight key d.batch.entries + n) (weighed key drains)

-- the samples as entries
as_entries : List Marked → List Counted
as_entries [] = []
as_entries (s ∷ samples) = entry s.key 1 ∷ as_entries samples

times_are : (key : Key) (samples : List Marked) → weight key (as_entries samples) ≡ times key samples
unfolding as_entries
times_are key [] = refl
times_are key (s ∷ samples) = ap (λ (n : ℕ). once key s.key + n) (times_are key samples)

cond_most : (t : Bool) → cond t 1 0 ≤ 1
cond_most true = omega arith
cond_most false = omega arith

few_pass : (test : Key → Bool) (samples : List Marked) → counted_where test (as_entries samples) ≤ length samples
unfolding as_entries
few_pass test [] = omega arith
few_pass test (s ∷ samples) = omega (arith, cond_most (test s.key), few_pass test samples)

-- a test that each key passes
abbrev pub is_any : Key → Bool
is_any key = true

pub any_same : Respects is_any
any_same a b same = refl

all_pass : (samples : List Marked) → counted_where is_any (as_entries samples) ≡ length samples
unfolding as_entries
all_pass [] = refl
all_pass (s ∷ samples) = omega (arith, all_pass samples)

none_pass : (test : Key → Bool) (samples : List Marked) → AllOf (λ s. test s.key ≡ false) samples → counted_where test (as_entries samples) ≡ 0
unfolding as_entries
none_pass test [] h = refl
none_pass test (s ∷ samples) h = let z : ◌≡◌ {A = ℕ} (cond (test s.key) 1 0) 0 = ap (λ (t : Bool). cond t 1 0) h.0 in omega (arith, z, none_pass test samples h.1)

-- the drains of one processor
three : (Key → Bool) → List Drained → ℕ → ℕ
three test drains cpu = passed test (drains_of cpu 0 drains) + passed test (drains_of cpu 1 drains) + passed test (drains_of cpu 2 drains)

lost_none : (share : Share) (samples : List Marked) → share.losses ≡ [] → AreCountedOnce samples share → (key : Key) → drained_weight key share ≡ times key samples
lost_none share samples none once key =
    let o = subst (λ (l : List Loss). drained_weight key share + lost key samples l ≡ times key samples) none (once key) in omega arith

share_passes : (test : Key → Bool) → Respects test → (share : Share) (samples : List Marked) → share.losses ≡ [] → AreCountedOnce samples share
    → passed test share.first + passed test share.second + passed test share.third ≡ counted_where test (as_entries samples)
share_passes test same share samples none once =
    let all = entries_in share.first ++ (entries_in share.second ++ entries_in share.third) in
    let agree = sums_agree test same all (as_entries samples) (λ key.
    omega (
      arith,
      weight-append key (entries_in share.first) (entries_in share.second ++ entries_in share.third),
      weight-append key (entries_in share.second) (entries_in share.third),
      weighed key share.first,
      weighed key share.second,
      weighed key share.third,
      times_are key samples,
      lost_none share samples none once key,
    )) in
    omega (
      arith,
      agree,
      counted-append test (entries_in share.first) (entries_in share.second ++ entries_in share.third),
      counted-append test (entries_in share.second) (entries_in share.third),
      passed_is test share.first,
      passed_is test share.second,
      passed_is test share.third,
    )

-- the sum over so many processors
abbrev pub over : ℕ → (ℕ → ℕ) → ℕ
over zero f = 0
over (suc n) f = over n f + f n

pub over_one : (n cpu x : ℕ) (f g : ℕ → ℕ) → ((k : ℕ) → f k ≡ cond (eqb cpu k) x 0 + g k) → over n f ≡ cond (ltb cpu n) x 0 + over n g
over_one zero cpu x f g h = ap (λ (b : Bool). cond b x 0 + 0) (sym (none_first cpu))
over_one (suc n) cpu x f g h =
    let both : cond (ltb cpu (suc n)) x 0 ≡ cond (ltb cpu n) x 0 + cond (eqb cpu n) x 0
    = ap (λ (b : Bool). cond b x 0) (lt_suc cpu n) ∙ one_of (ltb cpu n) (eqb cpu n) x (not_both cpu n) in
    omega (arith, over_one n cpu x f g h, h n, both)

over_most : (n most : ℕ) (f : ℕ → ℕ) → ((k : ℕ) → k < n → f k ≤ most) → over n f ≤ n * most
over_most zero most f h = omega arith
over_most (suc n) most f h = omega (arith, over_most n most f (λ k l. h k (omega arith)), h n (omega arith), suc-mul n most)

over_same : (n : ℕ) (f g : ℕ → ℕ) → ((k : ℕ) → k < n → f k ≡ g k) → over n f ≡ over n g
over_same zero f g h = refl
over_same (suc n) f g h = omega (arith, over_same n f g (λ k l. h k (omega arith)), h n (omega arith))

passed_cond : (test : Key → Bool) (b : Bool) (d : Drained) (l : List Drained) → passed test (cond b (d ∷ l) l) ≡ cond b (counted_where test d.batch.entries) 0 + passed test l
unfolding passed
passed_cond test true d l = refl
passed_cond test false d l = omega arith

one_cell : (a : Bool) (cell x : ℕ) → cell ≤ 2 → cond (a && eqb cell 0) x 0 + cond (a && eqb cell 1) x 0 + cond (a && eqb cell 2) x 0 ≡ cond a x 0
one_cell false cell x few = refl
one_cell true zero x few = omega arith
one_cell true (suc zero) x few = omega arith
one_cell true (suc (suc zero)) x few = omega arith
one_cell true (suc (suc (suc n))) x few = absurd (omega arith)

three_more : (test : Key → Bool) (d : Drained) (drains : List Drained) → d.batch.note.cell ≤ 2 → (cpu : ℕ)
    → three test (d ∷ drains) cpu ≡ cond (eqb d.batch.note.cpu cpu) (counted_where test d.batch.entries) 0 + three test drains cpu
unfolding three
three_more test d drains few cpu =
    omega (
      arith,
      one_cell (eqb d.batch.note.cpu cpu) d.batch.note.cell (counted_where test d.batch.entries) few,
      passed_cond test (is_of cpu 0 d) d (drains_of cpu 0 drains),
      passed_cond test (is_of cpu 1 d) d (drains_of cpu 1 drains),
      passed_cond test (is_of cpu 2 d) d (drains_of cpu 2 drains),
    )

pub over_none : (n : ℕ) → over n (λ k. 0) ≡ 0
over_none zero = refl
over_none (suc n) = omega (arith, over_none n)

-- each drain is of one cell of one processor
by_processor : (test : Key → Bool) (trace : Recording) (drains : List Drained) → AllOf (IsOfTrace trace) drains → passed test drains ≡ over trace.cpus (three test drains)
unfolding passed three
by_processor test trace [] own = sym (over_none trace.cpus)
by_processor test trace (d ∷ drains) own =
    let one = over_one trace.cpus d.batch.note.cpu (counted_where test d.batch.entries) (three test (d ∷ drains)) (three test drains) (three_more test d drains own.0.1) in
    let here : cond (ltb d.batch.note.cpu trace.cpus) (counted_where test d.batch.entries) 0 ≡ counted_where test d.batch.entries
    = cond-true (ltb d.batch.note.cpu trace.cpus) (counted_where test d.batch.entries) 0 (lt-ltb d.batch.note.cpu trace.cpus own.0.0) in
    omega (arith, one, here, by_processor test trace drains own.1)

-- what passes is at most so many for each processor
pub passed_most : (test : Key → Bool) → Respects test → (trace : Recording) (drains : List Drained) (samples : ℕ → List Marked) (most : ℕ) → AllOf (IsOfTrace trace) drains
    → ((cpu : ℕ) → cpu < trace.cpus → AreCountedOnce (samples cpu) (share_in drains [] cpu)) → ((cpu : ℕ) → cpu < trace.cpus → length (samples cpu) ≤ most)
    → passed test drains ≤ trace.cpus * most
unfolding three
passed_most test same trace drains samples most own once few =
    omega (
      arith,
      by_processor test trace drains own,
      over_most trace.cpus most (three test drains) (λ cpu l.
          omega (arith, share_passes test same (share_in drains [] cpu) (samples cpu) refl (once cpu l), few_pass test (samples cpu), few cpu l)),
    )

pub passed_none : (test : Key → Bool) → Respects test → (trace : Recording) (drains : List Drained) (samples : ℕ → List Marked) → AllOf (IsOfTrace trace) drains
    → ((cpu : ℕ) → cpu < trace.cpus → AreCountedOnce (samples cpu) (share_in drains [] cpu)) → ((cpu : ℕ) → AllOf (λ s. test s.key ≡ false) (samples cpu))
    → passed test drains ≡ 0
unfolding three
passed_none test same trace drains samples own once none =
    let zero_each = over_most trace.cpus 0 (three test drains) (λ cpu l.
    omega (arith, share_passes test same (share_in drains [] cpu) (samples cpu) refl (once cpu l), none_pass test (samples cpu) (none cpu))) in
    omega (arith, by_processor test trace drains own, zero_each, mul-zero trace.cpus)

-- all that was drained is as much as there are samples
pub passed_all : (trace : Recording) (drains : List Drained) (samples : ℕ → List Marked) → AllOf (IsOfTrace trace) drains
    → ((cpu : ℕ) → cpu < trace.cpus → AreCountedOnce (samples cpu) (share_in drains [] cpu))
    → passed is_any drains ≡ over trace.cpus (λ cpu. length (samples cpu))
unfolding three
passed_all trace drains samples own once =
    by_processor is_any trace drains own
    ∙ over_same trace.cpus (three is_any drains) (λ cpu. length (samples cpu)) (λ cpu l.
    share_passes is_any any_same (share_in drains [] cpu) (samples cpu) refl (once cpu l) ∙ all_pass (samples cpu))
