-- What the daemon knows of each processor, one by one.
use Rattle.std.proofs.Common.{arith, ◌≡◌, subst, ℕ, zero, suc, ◌+◌, ◌≤◌, List, [], ◌∷◌, Option, Some, None}
use Rattle.std.specs.Prelude.{slice_get, slice_set}
use Rattle.sample_key.specs.declared.losses.Pace.{Pace}
use Rattle.trace_model.specs.Recording.{Recording}
use Rattle.driver_model.specs.Handover.{FarSide}
use Rattle.database_state.specs.declared.faults.DbFault.{DbFault}
use Rattle.lane_side.specs.Plain.{Plain}
use Rattle.run_model.specs.Daemon.{Daemon}
use Rattle.daemon_rounds.specs.Knowing.{KnowsFrom, KnowsOf, WasCollected}
use Rattle.daemon_rounds.proofs.Collecting.{was_then}

-- of one of them
pub knows_at : (pace : Pace) (trace : Recording) (until : Daemon) (failure : Option DbFault) (m k : ℕ) (sides : List Plain) (s : Plain) → KnowsFrom pace trace m until failure sides
    → slice_get sides k ≡ Some s → KnowsOf pace trace (m + k) until failure s.far
knows_at pace trace until failure m k [] s all at = absurd cc
knows_at pace trace until failure m zero (x ∷ sides) s all at =
    let same : x ≡ s = cc in
    subst (λ (n : ℕ). KnowsOf pace trace n until failure s.far) (omega arith) (subst (λ (z : Plain). KnowsOf pace trace m until failure z.far) same all.0)
knows_at pace trace until failure m (suc k) (x ∷ sides) s all at =
    subst (λ (n : ℕ). KnowsOf pace trace n until failure s.far) (omega arith) (knows_at pace trace until failure (m + 1) k sides s all.1 at)

-- of all, where it goes on for each
pub knows_on : (pace : Pace) (trace : Recording) (u v : Daemon) (o p : Option DbFault) (m : ℕ) (sides : List Plain)
    → ((cpu : ℕ) (far : FarSide) → m ≤ cpu → KnowsOf pace trace cpu u o far → KnowsOf pace trace cpu v p far)
    → KnowsFrom pace trace m u o sides → KnowsFrom pace trace m v p sides
knows_on pace trace u v o p m [] on all = tt
knows_on pace trace u v o p m (x ∷ sides) on all =
    (on m x.far (omega arith) all.0, knows_on pace trace u v o p (m + 1) sides (λ cpu far le. on cpu far (omega (arith, le))) all.1)

-- of all, where one side is another one
pub knows_set : (pace : Pace) (trace : Recording) (u v : Daemon) (o p : Option DbFault) (m k : ℕ) (sides : List Plain) (n : Plain)
    → ((cpu : ℕ) (far : FarSide) → (cpu ≡ m + k → ⊥) → KnowsOf pace trace cpu u o far → KnowsOf pace trace cpu v p far)
    → KnowsOf pace trace (m + k) v p n.far
    → KnowsFrom pace trace m u o sides → KnowsFrom pace trace m v p (slice_set sides k n)
knows_set pace trace u v o p m k [] n on one all = tt
knows_set pace trace u v o p m zero (x ∷ sides) n on one all = (
  subst (λ (i : ℕ). KnowsOf pace trace i v p n.far) (omega arith) one,
  knows_on pace trace u v o p (m + 1) sides (λ cpu far le. on cpu far (λ e. omega (arith, le, e))) all.1,
)
knows_set pace trace u v o p m (suc k) (x ∷ sides) n on one all = (
  on m x.far (λ e. omega (arith, e)) all.0,
  knows_set pace trace u v o p (m + 1) k sides n (λ cpu far apart. on cpu far (λ e. apart (omega (arith, e))))
      (subst (λ (i : ℕ). KnowsOf pace trace i v p n.far) (omega arith) one) all.1,
)

-- with a fault or without
pub knows_was : (pace : Pace) (trace : Recording) (cpu : ℕ) (until : Daemon) (failure : Option DbFault) (far : FarSide) → KnowsOf pace trace cpu until failure far → WasCollected pace trace cpu until far
knows_was pace trace cpu until None far known = was_then pace trace cpu until far known
knows_was pace trace cpu until (Some fault) far known = known
