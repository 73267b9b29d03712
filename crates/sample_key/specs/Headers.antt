-- A note as contracts see it.
use Rattle.std.specs.Prelude.{ℕ}

-- a note as contracts see it: the header of a batch
pub record Header : Type 0 where
  pub cpu : ℕ
  pub cell : ℕ
  pub number : ℕ
  pub upto : ℕ
  pub answers : ℕ
  pub sent0 : ℕ
  pub sent1 : ℕ
