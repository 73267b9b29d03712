use Rattle.std.proofs.Common.{◌≡◌, ℕ, ◌+◌, ◌*◌, ◌/◌, ◌%◌, ap}
use Rattle.std.proofs.Math.Nat.{mod-add-mod}
use Rattle.trace_generator.specs.Draws.{drawn, stepped}
use Rattle.trace_generator.proofs.draws.Draws.draw.Goals as goal

-- the product may be reduced before the sum
step_is : (state : ℕ) → (state * 6364136223846793005 % 18446744073709551616 + 1442695040888963407) % 18446744073709551616 ≡ stepped state
unfolding stepped
step_is state = mod-add-mod (state * 6364136223846793005) 18446744073709551616 1442695040888963407

pub returns-clause-state : goal.returns-clause-state
returns-clause-state c = step_is c.args.self.now.state

pub returns-clause-drawn : goal.returns-clause-drawn
unfolding drawn
returns-clause-drawn c = ap (λ (n : ℕ). n / 8589934592) (step_is c.args.self.now.state)
