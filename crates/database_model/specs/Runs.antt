-- What is kept of a run, as contracts see it.
use Rattle.std.specs.Prelude.{ℕ, Bool, List}
use Rattle.sample_key.specs.Sent.{Sent}
use Rattle.sample_key.specs.declared.losses.Loss.{Loss}

-- a batch that was taken, with how many records were in force, its epoch, and for each entry whether its place was found
pub record Drained : Type 0 where
  pub at : ℕ
  pub epoch : ℕ
  pub batch : Sent
  pub known : List Bool

-- a part of a run
pub record Segment : Type 0 where
  pub run : ℕ
  pub part : ℕ
  pub last : Bool
  pub first_epoch : ℕ
  pub drains : List Drained
  pub losses : List (List Loss)

-- a whole run
pub record Recorded : Type 0 where
  pub run : ℕ
  pub first_epoch : ℕ
  pub drains : List Drained
  pub losses : List (List Loss)
