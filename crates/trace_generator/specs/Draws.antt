-- The numbers that a trace is made of: a linear congruential generator.
use Rattle.std.specs.Prelude.{ℕ, zero, suc, ◌+◌, ◌*◌, ◌/◌, ◌%◌, ◌^◌}

-- one draw changes the state
unfoldable pub stepped : ℕ → ℕ
stepped state = (state * 6364136223846793005 + 1442695040888963407) % 2 ^ 64

-- and gives the upper bits of the new one
unfoldable pub drawn : ℕ → ℕ
drawn state = state / 2 ^ 33

-- the state after so many draws, from this one on
abbrev pub state_after : ℕ → ℕ → ℕ
state_after state zero = state
state_after state (suc draws) = stepped (state_after state draws)

-- the draw of this number, counted from 1, from this state on
abbrev pub draw : ℕ → ℕ → ℕ
draw state number = drawn (state_after state number)
