-- Numbers below 2 ^ 64 as bytes: groups of seven bits, the lowest group first, one byte a group.
use Rattle.std.specs.Prelude.{ℕ, zero, suc, ◌+◌, ◌/◌, ◌%◌, ◌<◌, List, [], ◌∷◌, nat_lt, slice_index, if◌then◌else◌}
use Rattle.std.specs.List.{flat_map}

-- the groups of a number: each byte but the last has 128 added, and at most `more` bytes follow the first
unfoldable pub groups : ℕ → ℕ → List ℕ
groups zero n = n ∷ []
groups (suc more) n = if nat_lt n 128 then n ∷ [] else (128 + n % 128) ∷ groups more (n / 128)

-- the spelling of a number below 2 ^ 64, of 1 to 10 bytes
unfoldable pub number_bytes : ℕ → List ℕ
number_bytes n = groups 9 n

-- the spellings of these numbers, one after the other
abbrev pub spell : List ℕ → List ℕ
spell numbers = flat_map number_bytes numbers

-- each element is a byte
abbrev pub IsBytes : List ℕ → Type 0
IsBytes bytes = (i : ℕ) → slice_index bytes i < 256
