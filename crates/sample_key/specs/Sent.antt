-- A batch as contracts see it.
use Rattle.std.specs.Prelude.{List}
use Rattle.sample_key.specs.Counted.{Counted}
use Rattle.sample_key.specs.Headers.{Header}

-- a batch as contracts see it: a header and the entries that were handed with it
pub record Sent : Type 0 where
  pub note : Header
  pub entries : List Counted
