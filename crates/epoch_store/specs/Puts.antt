-- Writes, one after the other.
use Rattle.std.specs.Prelude.{◌≡◌, ℕ, ◌⊎◌, List, [], ◌∷◌, Some}
use Rattle.store_io.specs.Files.{Files, with_file}
use Rattle.store_io.specs.Outcomes.{Torn}

-- a name and the bytes that it is to have
pub record Put : Type 0 where
  pub name : List ℕ
  pub bytes : List ℕ

-- the files after a write
abbrev pub put : Put → Files → Files
put w files = with_file w.name (Some w.bytes) files

-- the files after writes, the first of them first
abbrev pub puts : List Put → Files → Files
puts [] files = files
puts (w ∷ ws) files = puts ws (put w files)

-- all of the writes are made
abbrev pub PutAll : List Put → Files → Files → Type 0
PutAll ws old new = new ≡ puts ws old

-- what a crash before, during or after any of the writes leaves
abbrev pub PutSome : List Put → Files → Files → Type 0
PutSome [] old new = new ≡ old
PutSome (w ∷ ws) old new = (new ≡ old) ⊎ (Torn w.name old new ⊎ PutSome ws (put w old) new)
