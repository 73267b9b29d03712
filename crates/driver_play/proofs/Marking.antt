-- Samples that all have one mark.
use Rattle.std.proofs.Common.{◌≡◌, ℕ, ◌≤◌, List, [], ◌∷◌, ◌++◌, arith}
use Rattle.sample_key.specs.Marks.{IsRising, RisesFrom, MarksUpTo}
use Rattle.sample_key.specs.declared.keys.Marked.{Marked}
use Rattle.driver_play.specs.Plays.{HaveMark}

-- one more
pub have_push : (m : ℕ) (ss : List Marked) (s : Marked) → HaveMark m ss → s.mark ≡ m → HaveMark m (ss ++ s ∷ [])
have_push m [] s h e = (e, tt)
have_push m (x ∷ ss) s h e = (h.0, have_push m ss s h.1 e)

rises_at : (m least : ℕ) (ss : List Marked) → least ≤ m → HaveMark m ss → RisesFrom least ss
rises_at m least [] l h = tt
rises_at m least (x ∷ ss) l h = (omega (arith, h.0), rises_at m x.mark ss (omega (arith, h.0)) h.1)

-- their marks never fall
pub have_rising : (m : ℕ) (ss : List Marked) → HaveMark m ss → IsRising ss
have_rising m ss h = rises_at m 0 ss (omega arith) h

-- and none is above it
pub have_most : (m most : ℕ) (ss : List Marked) → m ≤ most → HaveMark m ss → MarksUpTo most ss
have_most m most [] l h = tt
have_most m most (x ∷ ss) l h = (omega (arith, h.0), have_most m most ss l h.1)
