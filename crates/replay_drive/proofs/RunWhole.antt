-- The schedule and then rounds without end are the run of the trace.
use Rattle.std.proofs.Common.{◌≡◌, refl, sym, ◌∙◌, ap, ℕ, zero, suc, ◌+◌, ◌-◌, ◌*◌, ◌≤◌, List, [], ◌∷◌, ◌++◌, length, arith, true, append_assoc, append-nil}
use Rattle.std.specs.Prelude.{sum_by, map}
use Rattle.std.specs.List.{range_with_len, flat_map}
use Rattle.std.proofs.lemmas.List.Sums.{sum_by-cons}
use Rattle.std.proofs.lemmas.List.FromFn.{map-range_with_len_more}
use Rattle.std.proofs.lemmas.Grind.{flat_map-append}
use Rattle.sample_key.specs.declared.losses.Pace.TheVariants.{Free}
use Rattle.sample_key.specs.declared.limits.TheConstants.{MOST_SAMPLES}
use Rattle.trace_model.specs.Recording.{Recording}
use Rattle.trace_model.specs.Streams.{stream_of}
use Rattle.trace_model.specs.declared.limits.TheConstants.{MOST_CPUS}
use Rattle.trace_model.specs.declared.notices.Step.{Step}
use Rattle.run_model.specs.Running.{after_steps, enough_rounds, reference_run, round, rounds, start}
use Rattle.run_laws.specs.Laws.{IsFit, run_so_far}
use Rattle.run_rounds.proofs.Finishing.{stays}
use Rattle.run_rounds.proofs.Own.{steps_append}
use Rattle.replay_drive.specs.Replaying.{repeated}
use Rattle.replay_drive.specs.declared.replaying.TheConstants.{MOST_ROUNDS}

-- a round so many times is so many rounds
pub repeated_rounds : (trace : Recording) (n : ℕ) → repeated n (round trace) ≡ rounds n trace
repeated_rounds trace zero = refl
repeated_rounds trace (suc n) = ap {B = List Step} (λ z. round trace ++ z) (repeated_rounds trace n)

rounds_join : (trace : Recording) (n k : ℕ) → rounds n trace ++ rounds k trace ≡ rounds (n + k) trace
rounds_join trace zero k =
    let none : k ≡ 0 + k = omega arith in ap (λ m. rounds m trace) none
rounds_join trace (suc n) k =
    let more : suc (n + k) ≡ suc n + k = omega arith in
    append_assoc (round trace) (rounds n trace) (rounds k trace) ∙ ap {B = List Step} (λ z. round trace ++ z) (rounds_join trace n k) ∙ ap (λ m. rounds m trace) more

-- so many samples of each processor are so many at most
sum_most : (f : ℕ → ℕ) (most : ℕ) → ((k : ℕ) → f k ≤ most) → (a n : ℕ) → sum_by f (range_with_len a n) ≤ n * most
sum_most f most each a zero = omega arith
sum_most f most each a (suc n) =
    let split : sum_by f (range_with_len a (suc n)) ≡ f a + sum_by f (range_with_len (a + 1) n) = sum_by-cons f a (range_with_len (a + 1) n) in
    omega (arith, split, each a, sum_most f most each (a + 1) n, suc_times n most)
  where
    suc_times : (n m : ℕ) → suc n * m ≡ m + n * m
    suc_times n m = grind arith

times_le : (n m k : ℕ) → n ≤ m → n * k ≤ m * k
times_le n m k le = grind (arith, le)

-- no trace needs more rounds
pub enough : (trace : Recording) → IsFit trace → enough_rounds trace ≤ MOST_ROUNDS
enough trace fit =
    omega (arith, sum_most (λ cpu. length (stream_of cpu trace)) MOST_SAMPLES (λ cpu. (fit.streams cpu).few) 0 trace.cpus, times_le trace.cpus MOST_CPUS MOST_SAMPLES fit.cpus, fit.records)

-- the run after more rounds than are enough is the run of the trace
pub run_is : (trace : Recording) (first_epoch count : ℕ) → enough_rounds trace ≤ count → (reference_run Free trace first_epoch).daemon.finished ≡ true
    → run_so_far Free trace first_epoch (trace.schedule ++ repeated count (round trace)) ≡ reference_run Free trace first_epoch
run_is trace first_epoch count most done =
    let k : ℕ = count - enough_rounds trace in
    let all : enough_rounds trace + k ≡ count = omega (arith, most) in
    let split : trace.schedule ++ repeated count (round trace) ≡ (trace.schedule ++ rounds (enough_rounds trace) trace) ++ rounds k trace =
    ap {B = List Step} (λ z. trace.schedule ++ z) (repeated_rounds trace count ∙ sym (ap (λ n. rounds n trace) all) ∙ sym (rounds_join trace (enough_rounds trace) k))
    ∙ sym (append_assoc trace.schedule (rounds (enough_rounds trace) trace) (rounds k trace)) in
    ap (after_steps Free trace (start trace first_epoch)) split
    ∙ steps_append Free trace (start trace first_epoch) (trace.schedule ++ rounds (enough_rounds trace) trace) (rounds k trace)
    ∙ stays trace (reference_run Free trace first_epoch) (rounds k trace) done

-- ---- the steps of a round

-- one number more
pub one_more : {A : Type 0} (f : ℕ → List A) (n : ℕ) → flat_map f (range_with_len 0 (n + 1)) ≡ flat_map f (range_with_len 0 n) ++ f n
one_more {A = A} f n =
    ap (flat_map f) (sym (map_same (range_with_len 0 (n + 1))) ∙ map-range_with_len_more (λ k. k) 0 n n (omega arith) ∙ ap {B = List ℕ} (λ z. z ++ n ∷ []) (map_same (range_with_len 0 n)))
    ∙ flat_map-append f (range_with_len 0 n) (n ∷ [])
    ∙ ap {B = List A} (λ z. flat_map f (range_with_len 0 n) ++ z) (append-nil (f n))
  where
    map_same : (xs : List ℕ) → map (λ k. k) xs ≡ xs
    map_same [] = refl
    map_same (x ∷ xs) = ap {B = List ℕ} (λ z. x ∷ z) (map_same xs)

-- three pushes
pub three_more : {A : Type 0} (s0 s1 s2 s3 old more : List A) (x y z : A) → s0 ≡ old ++ more → s1 ≡ s0 ++ x ∷ [] → s2 ≡ s1 ++ y ∷ [] → s3 ≡ s2 ++ z ∷ [] → s3 ≡ old ++ (more ++ x ∷ y ∷ z ∷ [])
three_more {A = A} s0 s1 s2 s3 old more x y z e0 e1 e2 e3 =
    e3 ∙ ap {B = List A} (λ s. s ++ z ∷ []) e2 ∙ ap {B = List A} (λ s. (s ++ y ∷ []) ++ z ∷ []) e1 ∙ ap {B = List A} (λ s. ((s ++ x ∷ []) ++ y ∷ []) ++ z ∷ []) e0
    ∙ append_assoc ((old ++ more) ++ x ∷ []) (y ∷ []) (z ∷ []) ∙ append_assoc (old ++ more) (x ∷ []) (y ∷ z ∷ []) ∙ append_assoc old more (x ∷ y ∷ z ∷ [])
