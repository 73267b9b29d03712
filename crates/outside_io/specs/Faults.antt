-- What contracts see of a list of calls that are to fail.
use Rattle.std.specs.Prelude.{ℕ, List}

-- the calls, from 1, that are to fail
pub record Listed : Type 0 where
  pub calls : List ℕ
