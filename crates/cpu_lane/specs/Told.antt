-- The words that a turn read, and those that its side tells.
use Rattle.std.specs.Prelude.{◌≡◌, ℕ, Some}
use Rattle.driver_model.specs.Sides.{Side}
use Rattle.driver_model.specs.Handover.{FarSide, Given}
use Rattle.driver_model.specs.Driver.{Two}
use Rattle.driver_model.specs.Runs.{word_of}
use Rattle.driver_laws.specs.Turns.{AreFairWords}

-- P of the values given back, where the side tells them and with them the words of its cells
abbrev pub WhereTold : FarSide → (Given → Type 0) → Type 0
WhereTold far P = (given : Given) → far.given ≡ Some given → P given

-- the words of the buffers, of which so many values were given back
abbrev pub two_at : Given → Side → Two
two_at given side = record { first = word_of side.first given.first; second = word_of side.second given.second }

-- P of some fair words of the buffers, and of those that the side tells
pub record OverTwo (far : FarSide) (side : Side) (P : Two → Type 0) : Type 0 where
  pub read : (two : Two) × P two × AreFairWords side two
  pub told : WhereTold far (λ given. P (two_at given side))

-- P of some word of the table, and of the one that the side tells
pub record OverThird (far : FarSide) (side : Side) (P : ℕ → Type 0) : Type 0 where
  pub read : (word : ℕ) × P word
  pub told : WhereTold far (λ given. P (word_of side.third given.third))
