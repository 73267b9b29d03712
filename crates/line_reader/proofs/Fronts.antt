-- The bytes that were taken stand at the front of what was left.
use Rattle.std.proofs.Common.{◌≡◌, ℕ, List, [], ◌∷◌, ◌++◌, refl, subst, Option, Some, None}
use Rattle.std.specs.Io.KnownBytes.{Consumes, IsAtEnd, prepend_known}

-- bytes that begin with what was taken
pub taken_front : (bytes taken : List ℕ) (new : Option (List ℕ)) → Consumes (Some bytes) new taken → (rest : List ℕ) × (new ≡ Some rest) × (bytes ≡ taken ++ rest)
taken_front bytes taken None c = absurd c
taken_front bytes taken (Some rest) c = (rest, refl, c)

-- nothing is left at the end
pub at_end : (new : Option (List ℕ)) (rest : List ℕ) → new ≡ Some rest → IsAtEnd new → rest ≡ []
at_end new rest e h = subst IsAtEnd e h

nothing_behind : (front rest : List ℕ) → front ++ rest ≡ [] → rest ≡ []
nothing_behind [] rest h = h
nothing_behind (x ∷ front) rest h = absurd (no_cons x (front ++ rest) h)
  where
    no_cons : (x : ℕ) (xs : List ℕ) → x ∷ xs ≡ [] → ⊥
    no_cons x xs e = cc

-- nothing is left where nothing is left with more before it
pub nothing_left : (left : Option (List ℕ)) (front : List ℕ) → IsAtEnd (prepend_known front left) → IsAtEnd left
nothing_left None front h = tt
nothing_left (Some rest) front h = nothing_behind front rest h
