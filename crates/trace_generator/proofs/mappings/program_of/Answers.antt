use Rattle.std.proofs.Common.{◌≡◌, ℕ, ◌%◌, List, ◌∷◌, ap, sym, arith}
use Rattle.std.specs.Fmt.{decimal, digits}
use Rattle.trace_generator.proofs.mappings.program_of.Goals as goal

-- a name that ends in a number, by the number
ends_in : (n m : ℕ) → n ≡ m → ◌≡◌ {A = List ℕ} (112 ∷ 114 ∷ 111 ∷ 103 ∷ decimal m) (112 ∷ 114 ∷ 111 ∷ 103 ∷ decimal n)
ends_in n m e = ap (λ (k : ℕ). 112 ∷ 114 ∷ 111 ∷ 103 ∷ decimal k) (sym e)

pub returns-in-0 : goal.returns-in-0
unfolding digits
returns-in-0 c = ends_in (c.args.pid % 4) 0 (omega arith)

pub returns-in-1 : goal.returns-in-1
unfolding digits
returns-in-1 c = ends_in (c.args.pid % 4) 1 (omega arith)

pub returns-in-2 : goal.returns-in-2
unfolding digits
returns-in-2 c = ends_in (c.args.pid % 4) 2 (omega arith)

pub returns-in_default : goal.returns-in_default
unfolding digits
returns-in_default c = ends_in (c.args.pid % 4) 3 (omega arith)
