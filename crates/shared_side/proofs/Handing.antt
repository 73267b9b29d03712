-- The handover of parcels, as the batches that they are.
use Rattle.std.proofs.Common.{refl, ◌^◌, ◌≤◌, subst, ◌≡◌, ℕ, Bool, List, [], ◌∷◌, ◌++◌, ap, ◌∙◌, arith, inl, inr}
use Rattle.std.specs.Prelude.{map, ◌⊎◌}
use Rattle.std.proofs.lemmas.List.{length-map, map-append}
use Rattle.driver_model.specs.Handover.{IsHandover, IsBell, NeverFallsFrom, rung_of}
use Rattle.turn_cell.specs.Doorbell.{last_rung, IsRungOrZero}
use Rattle.turn_cell.specs.Handoff.{IsHandoff}
use Rattle.turn_cell.specs.Parcels.{IsUpToLast}
use Rattle.turn_cell.specs.declared.passing.Parcel.{Parcel}
use Rattle.shared_side.specs.Shown.{Shown}
use Rattle.shared_side.proofs.Rung.{same_last, same_rung}

up_to_last : {A B : Type 0} (f : A → B) (taken handed : List A) → IsUpToLast taken handed → (map f taken ≡ map f handed) ⊎ ((waiting : B) × (map f handed ≡ map f taken ++ waiting ∷ []))
up_to_last f taken handed (inl e) = inl (ap (λ xs. map f xs) e)
up_to_last f taken handed (inr h) = inr (f h.0, ap (λ xs. map f xs) h.1 ∙ map-append f taken (h.0 ∷ []))

-- the handover of a closed cell
pub handed_over : {V B : Type 0} (f : Parcel V → B) (handed taken : List (Parcel V)) (backs word : ℕ) (lane daemon : Bool)
    → IsHandoff handed taken backs word lane daemon → IsHandover (map f handed) (map f taken) backs word lane daemon
handed_over f handed taken backs word lane daemon h = record {
  counted = omega (arith, h.word_is, length-map handed f);
  home = λ e. let k = h.even e in (omega (arith, k.0, length-map handed f), ap (λ xs. map f xs) k.1);
  out = λ o. let k = h.odd o in (omega (arith, k.0, length-map handed f), up_to_last f taken handed k.1);
  driver = h.lane;
  daemon = λ e. let k = h.daemon e in (k.0, ap (λ xs. map f xs) k.1);
}

-- what is said of both sides is said of their views
pub at_views : (P : Shown → Shown → Type 0) {a b c d : Shown} → a ≡ b → c ≡ d → P a c → P b d
at_views P p q h = coe 0 1 (i. P (p i) (q i)) h

-- a bell of which this note of what was heard was met
pub bell_over : (rungs : List ℕ) (heard noted : ℕ) → NeverFallsFrom 0 rungs → rung_of rungs ≤ 2 ^ 32 → noted ≡ heard → noted ≤ last_rung rungs → IsRungOrZero rungs noted → IsBell rungs (rung_of rungs) heard
bell_over rungs heard noted rising bound e below rung = record {
  last = refl;
  rising = rising;
  bound = bound;
  behind = omega (arith, e, below, same_last rungs);
  known = same_rung rungs heard (subst (λ (n : ℕ). IsRungOrZero rungs n) e rung);
}
