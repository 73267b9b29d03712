-- An entry as contracts see it.
use Rattle.std.specs.Prelude.{ℕ}
use Rattle.sample_key.specs.declared.keys.Key.{Key}

-- an entry as contracts see it: a key and how many samples it stands for
pub record Counted : Type 0 where
  pub key : Key
  pub count : ℕ

-- the entry of this key and count
abbrev pub entry : Key → ℕ → Counted
entry k n = record { key = k; count = n }
