-- Which batch waits in a cell, by its word.
use Rattle.std.proofs.Common.{◌≡◌, sym, ◌∙◌, ap, subst, ◌+◌, ◌%◌, List, [], ◌∷◌, ◌++◌, length, arith, Some, None, Option, inl, inr, eq-eqb}
use Rattle.std.specs.Prelude.{slice_get, IfSome}
use Rattle.std.proofs.lemmas.Option.{slice_get_past}
use Rattle.sample_key.specs.Sent.{Sent}
use Rattle.run_laws.proofs.Basics.{IsFront, last_same, got_next, front_even}

-- what is said of a value that is told
pub told_at : {A : Type 0} (P : A → Type 0) (o : Option A) (x : A) → o ≡ Some x → IfSome o P → P x
told_at {A = A} P o x e h = subst (λ (z : Option A). IfSome z P) e h

-- at an odd word the batch handed last waits
pub waits : (taken handed front : List Sent) (batch : Sent) → IsFront taken handed → (length handed + length taken) % 2 ≡ 1 → handed ≡ front ++ batch ∷ []
    → slice_get handed (length taken) ≡ Some batch
waits taken handed front batch (inl e) odd last =
    let l : length taken ≡ length handed = ap length e in absurd (omega (arith, odd))
waits taken handed front batch (inr (other, e)) odd last =
    let same : other ≡ batch = last_same taken front other batch (sym e ∙ last) in
    subst (λ (z : List Sent). slice_get z (length taken) ≡ Some batch) (sym e)
    (got_next taken other ∙ ap {B = Option Sent} (λ z. Some z) same)

-- at an even word none does
pub rests : (taken handed : List Sent) → IsFront taken handed → (length handed + length taken) % 2 ≡ 0 → slice_get handed (length taken) ≡ None
rests taken handed front even =
    let all : taken ≡ handed = front_even taken handed front (eq-eqb ((length handed + length taken) % 2) 0 even) in
    let l : length taken ≡ length handed = ap length all in
    slice_get_past handed (length taken) (omega (arith, l))
