-- The files of a store, as a map from names to bytes.
use Rattle.std.specs.Prelude.{◌≡◌, ℕ, List, length, Bool, if◌then◌else◌, None, vec_items}
use Rattle.std.specs.declared.option.Option.{Option}
use Rattle.std.specs.Option.{option_map}
use Rattle.std.specs.Str.{bytes_eq}
use Rattle.std.specs.Global.{Vec}

-- each name's bytes, or nothing where the name is absent
abbrev pub Files : Type 0
Files = List ℕ → Option (List ℕ)

-- no name is there
abbrev pub no_files : Files
no_files = λ _. None

-- the same files, but for this name
abbrev pub with_file : List ℕ → Option (List ℕ) → Files → Files
with_file name bytes files = λ n. if bytes_eq name n then bytes else files n

-- the bytes of a vector
abbrev pub contents : Vec ℕ → List ℕ
contents v = v.items
