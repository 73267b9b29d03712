-- The bells: what was rung so far is not above what the daemon rings next, and all sides are rung in turn.
use Rattle.std.proofs.Common.{arith, ◌≡◌, ℕ, zero, suc, ◌+◌, ◌*◌, ◌<◌, ◌≤◌, refl, sym, ◌∙◌, ap, subst, Bool, true, false, if◌then◌else◌, List, [], ◌∷◌, ◌++◌, length, map, take, drop, get_or, set, append-nil, add-one}
use Rattle.std.specs.List.{AllByRecursion}
use Rattle.std.proofs.lemmas.List.{length-map, length-take, map-set}
use Rattle.std.proofs.Math.ListN.{get_or-map}
use Rattle.sample_key.specs.declared.losses.Pace.{Pace}
use Rattle.trace_model.specs.Streams.{records_in}
use Rattle.trace_model.specs.declared.notices.Record.{Record}
use Rattle.driver_model.specs.Handover.{last_from, rung_of}
use Rattle.lane_side.specs.Plain.{Plain}
use Rattle.run_model.specs.Daemon.{Daemon, flush_before, in_force, needs_flush, rungs_before, rungs_of}
use Rattle.dcpid_core.specs.Collection.{Collection, FitFrom}

-- ---- the value rung last

-- the last of a list and more
last_more : (last : ℕ) (xs ys : List ℕ) → last_from last (xs ++ ys) ≡ last_from (last_from last xs) ys
last_more last [] ys = refl
last_more last (x ∷ xs) ys = last_more x xs ys

-- what is rung for one record ends with the value that says that it is in force
last_one : (b : Bool) (last flush force : ℕ) → last_from last (if b then flush ∷ force ∷ [] else force ∷ []) ≡ force
last_one true last flush force = refl
last_one false last flush force = refl

last_before : (pace : Pace) (number : ℕ) (records : List Record) (last : ℕ) → last ≤ 2 * number → last_from last (rungs_before pace number records) ≤ 2 * (number + length records)
last_before pace number [] last below = omega (arith, below)
last_before pace number (notice ∷ records) last below =
    let bells : List ℕ = if needs_flush pace notice then flush_before number ∷ in_force (number + 1) ∷ [] else in_force (number + 1) ∷ [] in
    let ends : last_from last bells ≡ 2 * (number + 1) = last_one (needs_flush pace notice) last (flush_before number) (in_force (number + 1)) in
    let rest : last_from (last_from last bells) (rungs_before pace (number + 1) records) ≤ 2 * (number + 1 + length records) = last_before pace (number + 1) records (last_from last bells) (omega (arith, ends)) in
    subst (λ n. n ≤ 2 * (number + suc (length records))) (sym (last_more last bells (rungs_before pace (number + 1) records))) (omega (arith, rest))

-- the value rung last asks for no later flush than the next
pub bell_below : (pace : Pace) (records : List Record) (daemon : Daemon) → rung_of (rungs_of pace records daemon) ≤ flush_before daemon.applied
bell_below pace records daemon = by daemon.asking
  where
    before : List ℕ
    before = rungs_before pace 0 (take daemon.applied records)

    by : (asking : Bool) → last_from 0 (before ++ (if asking then flush_before daemon.applied ∷ [] else [])) ≤ flush_before daemon.applied
    by true = subst (λ n. n ≤ flush_before daemon.applied) (sym (last_more 0 before (flush_before daemon.applied ∷ []))) (omega arith)
    by false = subst (λ xs. last_from 0 xs ≤ flush_before daemon.applied) (sym (append-nil before)) (omega (arith, last_before pace 0 (take daemon.applied records) 0 (omega arith), length-take daemon.applied records))

-- so it is on each side that fits
pub all_below : (daemon : Collection) (number value : ℕ) (sides : List Plain) → flush_before daemon.state.applied ≤ value → FitFrom daemon number sides → AllByRecursion (λ side. rung_of side.far.rungs ≤ value) sides
all_below daemon number value [] le fit = tt
all_below daemon number value (side ∷ sides) le fit = (subst (λ xs. rung_of xs ≤ value) (sym fit.0.rungs) (omega (arith, le, bell_below daemon.pace (records_in daemon.trace) daemon.state)), all_below daemon (number + 1) value sides le fit.1)

-- ---- one after the other

-- the next one is as it was
pub next_is : {A : Type 0} (change : A → A) (xs : List A) (i : ℕ) (d : A) → get_or (map change (take i xs) ++ drop i xs) i d ≡ get_or xs i d
next_is change [] zero d = refl
next_is change [] (suc i) d = refl
next_is change (x ∷ xs) zero d = refl
next_is change (x ∷ xs) (suc i) d = next_is change xs i d

-- and is changed
changed_next : {A : Type 0} (change : A → A) (xs : List A) (i : ℕ) (d : A) → i < length xs → set (map change (take i xs) ++ drop i xs) i (change (get_or xs i d)) ≡ map change (take (suc i) xs) ++ drop (suc i) xs
changed_next change [] i d lt = absurd (omega (arith, lt))
changed_next change (x ∷ xs) zero d lt = refl
changed_next change (x ∷ xs) (suc i) d lt = ap (λ ys. change x ∷ ys) (changed_next change xs i d (omega (arith, lt)))

pub next_changed : {A : Type 0} (change : A → A) (xs : List A) (i : ℕ) (d : A) → i < length xs → set (map change (take i xs) ++ drop i xs) i (change (get_or xs i d)) ≡ map change (take (i + 1) xs) ++ drop (i + 1) xs
next_changed change xs i d lt = changed_next change xs i d lt ∙ ap (λ n. map change (take n xs) ++ drop n xs) (sym (add-one i))

-- what holds of each holds of one
pub one_of_all : {A : Type 0} (P : A → Type 0) (xs : List A) (i : ℕ) (d : A) → i < length xs → AllByRecursion P xs → P (get_or xs i d)
one_of_all P [] i d lt all = absurd (omega (arith, lt))
one_of_all P (x ∷ xs) zero d lt all = all.0
one_of_all P (x ∷ xs) (suc i) d lt all = one_of_all P xs i d (omega (arith, lt)) all.1

-- the next of the things seen so, of which those before it were changed
seen_next : {S A : Type 0} (view : S → A) (change : A → A) (old now : List S) (i : ℕ) (d : S) → map view now ≡ map change (take i (map view old)) ++ drop i (map view old) → view (get_or now i d) ≡ get_or (map view old) i (view d)
seen_next view change old now i d is = sym (get_or-map view now i d) ∙ ap (λ xs. get_or xs i (view d)) is ∙ next_is change (map view old) i (view d)

pub next_holds : {S A : Type 0} (view : S → A) (change : A → A) (P : A → Type 0) (old now : List S) (i : ℕ) (d : S) → i < length old → map view now ≡ map change (take i (map view old)) ++ drop i (map view old) → AllByRecursion P (map view old) → P (view (get_or now i d))
next_holds view change P old now i d lt is all = subst P (sym (seen_next view change old now i d is)) (one_of_all P (map view old) i (view d) (omega (arith, lt, length-map old view)) all)

pub next_set : {S A : Type 0} (view : S → A) (change : A → A) (old now : List S) (i : ℕ) (d new : S) → i < length old → map view now ≡ map change (take i (map view old)) ++ drop i (map view old) → view new ≡ change (view (get_or now i d)) → map view (set now i new) ≡ map change (take (i + 1) (map view old)) ++ drop (i + 1) (map view old)
next_set view change old now i d new lt is changed =
    map-set view now i new
    ∙ ap (λ xs. set xs i (view new)) is
    ∙ ap (λ x. set (map change (take i (map view old)) ++ drop i (map view old)) i x) (changed ∙ ap change (seen_next view change old now i d is))
    ∙ next_changed change (map view old) i (view d) (omega (arith, lt, length-map old view))
