-- The processors that are ready to start, one more at a time; and the streams that are left for those that are not.
use Rattle.std.proofs.Common.{◌≡◌, Vec, ℕ, suc, ◌+◌, ◌-◌, ◌<◌, List, [], ◌∷◌, ◌++◌, length, map, ap, sym, subst, ◌∙◌, arith}
use Rattle.std.proofs.lemmas.List.{length-map}
use Rattle.std.proofs.lemmas.List.FromFn.{length-map-range_with_len}
use Rattle.std.specs.List.{range_with_len}
use Rattle.sample_key.specs.declared.keys.Marked.{Marked}
use Rattle.sample_key.specs.declared.losses.Pace.{Pace}
use Rattle.trace_cut.specs.Cutting.{lanes_in}
use Rattle.trace_model.specs.Recording.{Recording}
use Rattle.shared_side.specs.Shown.{Shown}
use Rattle.lane_threads.specs.Working.{Working}
use Rattle.lane_threads.specs.Starting.{StartsAt, AllStart}

pub starts_pushed : (pace : Pace) (trace : Recording) (first cpu : ℕ) (works : List Working) (daemons : List Shown) (work : Working) (daemon : Shown)
    → AllStart pace trace first works daemons → cpu ≡ first + length works → StartsAt pace trace cpu work daemon
    → AllStart pace trace first (works ++ work ∷ []) (daemons ++ daemon ∷ [])
starts_pushed pace trace first cpu [] [] work daemon all at new =
    let e : cpu ≡ first = omega (arith, at) in
    (subst (λ (n : ℕ). StartsAt pace trace n work daemon) e new, tt)
starts_pushed pace trace first cpu [] (d ∷ daemons) work daemon all at new = absurd all
starts_pushed pace trace first cpu (w ∷ works) [] work daemon all at new = absurd all
starts_pushed pace trace first cpu (w ∷ works) (d ∷ daemons) work daemon all at new =
    (all.0, starts_pushed pace trace (first + 1) cpu works daemons work daemon all.1 (omega (arith, at)) new)

-- the same where the lists with one more have names
pub starts_more : (pace : Pace) (trace : Recording) (cpu : ℕ) (works more : List Working) (daemons others : List Shown) (work : Working) (daemon : Shown)
    → more ≡ works ++ work ∷ [] → others ≡ daemons ++ daemon ∷ [] → AllStart pace trace 0 works daemons → length works ≡ cpu
    → StartsAt pace trace cpu work daemon → AllStart pace trace 0 more others
starts_more pace trace cpu works more daemons others work daemon e d all at new =
    subst (λ (l : List Working). AllStart pace trace 0 l others) (sym e)
    (subst (λ (l : List Shown). AllStart pace trace 0 (works ++ work ∷ []) l) (sym d)
    (starts_pushed pace trace 0 cpu works daemons work daemon all (omega (arith, at)) new))

-- the first of the streams that are left is this processor's, and the others are those of the next ones
pub streams_step : {A : Type 0} (f : ℕ → List Marked) (cpu cpus : ℕ) (streams rest : List (Vec Marked A)) (stream : Vec Marked A)
    → lanes_in streams ≡ map f (range_with_len cpu (cpus - cpu)) → cpu < cpus → streams ≡ stream ∷ rest
    → (stream.items ≡ f cpu) × (lanes_in rest ≡ map f (range_with_len (cpu + 1) (cpus - (cpu + 1))))
streams_step {A} f cpu cpus streams rest stream h below e =
    let one : cpus - cpu ≡ suc (cpus - (cpu + 1)) = omega arith in
    let same : stream.items ∷ lanes_in rest ≡ f cpu ∷ map f (range_with_len (cpu + 1) (cpus - (cpu + 1))) =
    sym (ap (λ (l : List (Vec Marked A)). lanes_in l) e) ∙ (h ∙ ap (λ (n : ℕ). map f (range_with_len cpu n)) one) in
    (cc, cc)

-- there is one for each processor
pub streams_left : {A : Type 0} (f : ℕ → List Marked) (cpu cpus : ℕ) (streams : List (Vec Marked A))
    → lanes_in streams ≡ map f (range_with_len cpu (cpus - cpu)) → cpu < cpus → length streams ≡ 0 → ⊥
streams_left {A} f cpu cpus streams h below none =
    omega (arith, ap length h, length-map streams (λ (lane : Vec Marked A). lane.items), length-map-range_with_len f cpu (cpus - cpu))
