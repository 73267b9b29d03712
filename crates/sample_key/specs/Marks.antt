-- Marked samples: how many are due, and that marks rise.
use Rattle.std.specs.Prelude.{ℕ, ◌+◌, ◌≤◌, nat_le, if◌then◌else◌, List, [], ◌∷◌}
use Rattle.sample_key.specs.declared.keys.Marked.{Marked}

-- how many of the samples have at most this many records before them
abbrev pub due : List Marked → ℕ → ℕ
due [] records = 0
due (s ∷ ss) records = (if nat_le s.mark records then 1 else 0) + due ss records

-- no sample has a mark above this one
abbrev pub MarksUpTo : ℕ → List Marked → Type 0
MarksUpTo most [] = Unit {0}
MarksUpTo most (s ∷ ss) = (s.mark ≤ most) × MarksUpTo most ss

-- no mark is below the one before it, and none is below this one
abbrev pub RisesFrom : ℕ → List Marked → Type 0
RisesFrom least [] = Unit {0}
RisesFrom least (s ∷ ss) = (least ≤ s.mark) × RisesFrom s.mark ss

-- marks never fall
abbrev pub IsRising : List Marked → Type 0
IsRising ss = RisesFrom 0 ss
