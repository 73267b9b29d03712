-- Room in a list that was taken before.
use Rattle.std.specs.Prelude.{ℕ, ◌+◌, ◌≤◌, Vec, vec_len, vec_capacity}

-- n more elements fit without new memory
abbrev pub HasRoom : {X A : Type 0} → Vec X A → ℕ → Type 0
HasRoom list n = vec_len list + n ≤ vec_capacity list
