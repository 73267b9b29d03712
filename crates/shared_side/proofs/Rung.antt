-- The values rung, as the bell and the side tell them.
use Rattle.std.proofs.Common.{◌≤◌, ◌++◌, ◌^◌, sym, subst, ◌≡◌, ℕ, zero, suc, ◌<◌, List, [], ◌∷◌, length, refl, ap, arith, ◌∙◌, inl, inr}
use Rattle.std.specs.Prelude.{slice_index, slice_index_or}
use Rattle.driver_model.specs.Lists.{SomeOf}
use Rattle.driver_model.specs.Handover.{NeverFallsFrom, last_from, rung_of, WasRung}
use Rattle.lane_side.proofs.Bells.{last-push, rises_push}
use Rattle.turn_cell.specs.Doorbell.{last_rung, IsRungOrZero}

last_is : (x : ℕ) (xs : List ℕ) → last_from x xs ≡ slice_index (x ∷ xs) (length xs)
last_is x [] = refl
last_is x (y ∷ ys) = last_is y ys

-- the value rung last
pub same_last : (rungs : List ℕ) → rung_of rungs ≡ last_rung rungs
same_last [] = refl
same_last (x ∷ xs) = last_is x xs ∙ ap (λ n. slice_index (x ∷ xs) n) (omega arith)

found : (xs : List ℕ) (value k : ℕ) → k < length xs → slice_index_or xs k value ≡ value → SomeOf (λ x. x ≡ value) xs
found [] value k l e = absurd (omega (arith, l))
found (x ∷ xs) value zero l e = inl e
found (x ∷ xs) value (suc k) l e = inr (found xs value k (omega (arith, l)) e)

-- a value rung
pub same_rung : (rungs : List ℕ) (value : ℕ) → IsRungOrZero rungs value → WasRung value rungs
same_rung rungs value (inl e) = inl e
same_rung rungs value (inr h) = inr (found rungs value h.0 h.1 h.2)

-- a value more, which is not below the last, as the end tells the list
pub rings_on : (rungs more : List ℕ) (value : ℕ) → NeverFallsFrom 0 rungs → rung_of rungs ≤ value → value ≤ 2 ^ 32 → more ≡ rungs ++ value ∷ [] → NeverFallsFrom 0 more × (rung_of more ≤ 2 ^ 32)
rings_on rungs more value rising later bound e =
    subst (λ (ns : List ℕ). NeverFallsFrom 0 ns × (rung_of ns ≤ 2 ^ 32)) (sym e) (rises_push 0 rungs value rising later, omega (arith, last-push 0 rungs value, bound))
