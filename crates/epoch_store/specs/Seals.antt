-- The seals among the names of a store.
use Rattle.std.specs.Prelude.{ℕ, ◌&&◌, nat_le, nat_lt, max, if◌then◌else◌, List, [], ◌∷◌, length, take, drop, codes, None, Some}
use Rattle.std.specs.declared.option.Option.{Option}
use Rattle.std.specs.Str.{bytes_eq}
use Rattle.text_num.specs.Numbers.{number}

-- a generation from 1 to 65,536
abbrev pub generation_in : Option ℕ → Option ℕ
generation_in None = None
generation_in (Some n) = if nat_le 1 n && nat_le n 65536 then Some n else None

-- the generation whose seal has this name
abbrev pub seal_number : List ℕ → Option ℕ
seal_number text = if nat_lt (length text) 5 then None else (if bytes_eq (take 5 text) (codes "seal.") then generation_in (number 10 (drop 5 text)) else None)

-- the later of two generations, where the second is one
abbrev pub later : ℕ → Option ℕ → ℕ
later best None = best
later best (Some g) = max best g

-- the greatest generation whose seal is among the names, from the best so far
abbrev pub greatest_seal : ℕ → List (List ℕ) → ℕ
greatest_seal best [] = best
greatest_seal best (name ∷ names) = greatest_seal (later best (seal_number name)) names
