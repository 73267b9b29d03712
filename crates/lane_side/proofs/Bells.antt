-- The values rung: the last of them, and that they rise.
use Rattle.std.proofs.Common.{◌≡◌, ℕ, ◌/◌, ◌≤◌, List, [], ◌∷◌, ◌++◌, refl, sym, arith, inl, inr}
use Rattle.std.specs.Prelude.{◌⊎◌}
use Rattle.sample_key.specs.Headers.{Header}
use Rattle.driver_model.specs.Lists.{SomeOf}
use Rattle.driver_model.specs.Handover.{NeverFallsFrom, last_from, rung_of, WasRung}
use Rattle.driver_laws.proofs.Lists.{some_push}
use Rattle.driver_laws.proofs.Marks.{due_later}
use Rattle.lane_side.specs.Fixed.{Fixed}
use Rattle.lane_side.specs.Calls.{KeepsNote}

-- the value rung last
pub last-push : (n : ℕ) (rungs : List ℕ) (w : ℕ) → last_from n (rungs ++ w ∷ []) ≡ w
last-push n [] w = refl
last-push n (x ∷ xs) w = last-push x xs w

last_rung : (n : ℕ) (rungs : List ℕ) → (last_from n rungs ≡ n) ⊎ SomeOf (λ x. x ≡ last_from n rungs) rungs
last_rung n [] = inl refl
last_rung n (x ∷ xs) = elim (last_rung x xs) [ inl e ↦ inr (inl (sym e)) | inr h ↦ inr (inr h) ]

pub was_rung : (rungs : List ℕ) → WasRung (rung_of rungs) rungs
was_rung rungs = last_rung 0 rungs

pub still_rung : (n w : ℕ) (rungs : List ℕ) → WasRung n rungs → WasRung n (rungs ++ w ∷ [])
still_rung n w rungs (inl e) = inl e
still_rung n w rungs (inr h) = inr (some_push (λ x. x ≡ n) rungs w h)

-- a value rung is no lower than those before it
pub rises_push : (least : ℕ) (rungs : List ℕ) (w : ℕ) → NeverFallsFrom least rungs → last_from least rungs ≤ w → NeverFallsFrom least (rungs ++ w ∷ [])
rises_push least [] w h l = (l, tt)
rises_push least (x ∷ xs) w h l = (h.0, rises_push x xs w h.1 l)

-- a note keeps its promise also after a later value was rung
pub note_later : (n count : ℕ) (fixed : Fixed) (rungs : List ℕ) (w : ℕ) (note : Header) → rung_of rungs ≤ w → KeepsNote n count fixed rungs note → KeepsNote n count fixed (rungs ++ w ∷ []) note
note_later n count fixed rungs w note l k = record {
  cpu = k.cpu;
  cell = k.cell;
  entries = k.entries;
  upto = omega (arith, k.upto, due_later fixed.samples (rung_of rungs / 2) (rung_of (rungs ++ w ∷ []) / 2) (omega (arith, last-push 0 rungs w)));
}
