-- What is left of a run: samples that are not taken, and records that are not in force.
use Rattle.std.proofs.Common.{◌≡◌, ℕ, zero, suc, ◌+◌, ◌*◌, ◌-◌, ◌<◌, ◌≤◌, List, [], ◌∷◌, length, refl, ap, subst, arith, if◌then◌else◌, Some}
use Rattle.std.specs.Prelude.{slice_get, sum_by}
use Rattle.std.specs.List.{range_with_len}
use Rattle.std.proofs.lemmas.Bool.{cond_both}
use Rattle.std.proofs.lemmas.List.Sums.{sum_by-cons}
use Rattle.trace_model.specs.Recording.{Recording}
use Rattle.trace_model.specs.Streams.{stream_of, records_in}
use Rattle.run_model.specs.Daemon.{Daemon}
use Rattle.run_model.specs.Running.{Processor, System, sample_count}

-- the samples that these processors, numbered from here on, have not taken or lost
abbrev pub left_from : Recording → ℕ → List Processor → ℕ
left_from trace cpu [] = 0
left_from trace cpu (processor ∷ processors) = (length (stream_of cpu trace) - processor.driver.at) + left_from trace (cpu + 1) processors

-- twice the records that are not in force, and one where nothing is asked for
abbrev pub moves_left : Recording → Daemon → ℕ
moves_left trace daemon = 2 * (length (records_in trace) - daemon.applied) + (if daemon.asking then 0 else 1)

abbrev pub left_of : Recording → System → ℕ
left_of trace system = moves_left trace system.daemon + left_from trace 0 system.processors

-- no driver gave samples back
abbrev pub NoneBack : List Processor → List Processor → Type 0
NoneBack before after = (k : ℕ) (p q : Processor) → slice_get before k ≡ Some p → slice_get after k ≡ Some q → p.driver.at ≤ q.driver.at

pub left_less : (trace : Recording) (cpu : ℕ) (before after : List Processor) → length before ≡ length after → NoneBack before after
    → left_from trace cpu after ≤ left_from trace cpu before
left_less trace cpu [] [] same on = omega arith
left_less trace cpu [] (q ∷ qs) same on = absurd (omega arith)
left_less trace cpu (p ∷ ps) [] same on = absurd (omega arith)
left_less trace cpu (p ∷ ps) (q ∷ qs) same on =
    let here : p.driver.at ≤ q.driver.at = on 0 p q refl refl in
    omega (arith, left_less trace (cpu + 1) ps qs (omega arith) (λ k a b e f. on (suc k) a b e f))

-- where one took or lost a sample, less is left
pub left_strictly : (trace : Recording) (cpu k : ℕ) (before after : List Processor) (p q : Processor) → length before ≡ length after → NoneBack before after
    → slice_get before k ≡ Some p → slice_get after k ≡ Some q → p.driver.at < q.driver.at → q.driver.at ≤ length (stream_of (cpu + k) trace)
    → left_from trace cpu after < left_from trace cpu before
left_strictly trace cpu k [] after p q same on e f more within = absurd cc
left_strictly trace cpu k (x ∷ xs) [] p q same on e f more within = absurd cc
left_strictly trace cpu zero (x ∷ xs) (y ∷ ys) p q same on e f more within =
    let is : x ≡ p = cc in
    let js : y ≡ q = cc in
    let a : x.driver.at ≡ p.driver.at = ap (λ (z : Processor). z.driver.at) is in
    let b : y.driver.at ≡ q.driver.at = ap (λ (z : Processor). z.driver.at) js in
    let l : length (stream_of (cpu + 0) trace) ≡ length (stream_of cpu trace) = ap (λ (n : ℕ). length (stream_of n trace)) (omega arith) in
    omega (arith, left_less trace (cpu + 1) xs ys (omega arith) (λ k a b e f. on (suc k) a b e f))
left_strictly trace cpu (suc k) (x ∷ xs) (y ∷ ys) p q same on e f more within =
    let here : x.driver.at ≤ y.driver.at = on 0 x y refl refl in
    let l : length (stream_of (cpu + suc k) trace) ≡ length (stream_of ((cpu + 1) + k) trace) = ap (λ (n : ℕ). length (stream_of n trace)) (omega arith) in
    omega (arith, left_strictly trace (cpu + 1) k xs ys p q (omega arith) (λ k a b e f. on (suc k) a b e f) e f more (omega arith))

-- no more is left than there is
pub left_most : (trace : Recording) (cpu : ℕ) (processors : List Processor)
    → left_from trace cpu processors ≤ sum_by (λ k. length (stream_of k trace)) (range_with_len cpu (length processors))
left_most trace cpu [] = omega arith
left_most trace cpu (p ∷ ps) =
    omega (arith, left_most trace (cpu + 1) ps, sum_by-cons (λ k. length (stream_of k trace)) cpu (range_with_len (cpu + 1) (length ps)))

moves_most : (trace : Recording) (daemon : Daemon) → moves_left trace daemon ≤ 2 * length (records_in trace) + 1
moves_most trace daemon =
    cond_both daemon.asking 0 1 (λ (n : ℕ). 2 * (length (records_in trace) - daemon.applied) + n ≤ 2 * length (records_in trace) + 1) (λ e. omega arith) (λ e. omega arith)

pub most_left : (trace : Recording) (system : System) → length system.processors ≡ trace.cpus
    → left_of trace system ≤ sample_count trace + 2 * length (records_in trace) + 1
most_left trace system count =
    let all : left_from trace 0 system.processors ≤ sample_count trace =
    subst (λ (n : ℕ). left_from trace 0 system.processors ≤ sum_by (λ k. length (stream_of k trace)) (range_with_len 0 n)) count (left_most trace 0 system.processors) in
    omega (arith, moves_most trace system.daemon)
