-- Cases on two numbers, each with what the test answers.
use Rattle.std.proofs.Common.{◌≡◌, ℕ, ◌<◌, ◌≤◌, ltb, leb, Bool, true, false, arith, ⊎_elim}
use Rattle.std.proofs.lemmas.Bool.{cases_lt}
use Rattle.std.proofs.lemmas.Bool.Decides.{nat_tests}

less_test : (a b : ℕ) → a < b → ltb a b ≡ true
less_test a b h = grind (arith, nat_tests)

not_less_test : (a b : ℕ) → b ≤ a → ltb a b ≡ false
not_less_test a b h = grind (arith, nat_tests)

most_test : (a b : ℕ) → a ≤ b → leb a b ≡ true
most_test a b h = grind (arith, nat_tests)

above_test : (a b : ℕ) → b < a → leb a b ≡ false
above_test a b h = grind (arith, nat_tests)

pub by_less : {G : Type 0} (a b : ℕ) → (ltb a b ≡ true → a < b → G) → (ltb a b ≡ false → b ≤ a → G) → G
by_less a b f g = ⊎_elim (λ h. f (less_test a b h) h) (λ h. g (not_less_test a b h) h) (cases_lt a b)

pub by_most : {G : Type 0} (a b : ℕ) → (leb a b ≡ true → a ≤ b → G) → (leb a b ≡ false → b < a → G) → G
by_most a b f g = ⊎_elim (λ h. g (above_test a b h) h) (λ h. f (most_test a b h) h) (cases_lt b a)
