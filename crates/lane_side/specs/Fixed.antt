-- What no call of a side changes.
use Rattle.std.specs.Prelude.{ℕ, Bool, true, false, List, Option, None}
use Rattle.atomic_table.specs.Seated.{TableId}
use Rattle.sample_key.specs.declared.keys.Marked.{Marked}

-- the names of the three cells and of the bell under a side
pub record Ends : Type 0 where
  pub first : TableId
  pub second : TableId
  pub third : TableId
  pub bell : TableId

-- what no call changes
pub record Fixed : Type 0 where
  -- the processor, and the list of its marked samples
  pub cpu : ℕ
  pub samples : List Marked
  -- whether the cells must be polled evenly
  pub even : Bool
  -- whether the driver's calls are told the values rung
  pub told : Bool
  -- the cells and the bell, where there are shared ones
  pub ends : Option Ends

-- a plain side is polled as one likes, tells the values rung, and has no shared cells under it
abbrev pub plain_fixed : ℕ → List Marked → Fixed
plain_fixed cpu samples =
    record { cpu = cpu; samples = samples; even = false; told = true; ends = None }
