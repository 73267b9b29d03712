-- Long division, one digit and one addition at a time.
use Rattle.std.proofs.Common.{arith, ◌≡◌, ℕ, suc, ◌+◌, ◌*◌, ◌/◌, ◌%◌, ◌^◌, ◌<◌, ◌≤◌, sym, ap, ◌∙◌}
use Rattle.std.proofs.Math.Nat.{add-mul, mul_assoc, pow-succ', zero-mul}
use Rattle.std.proofs.lemmas.Nat.{div-mul-add, div-add-mod'}

pub none_yet : (total part : ℕ) → 0 * total + 0 ≡ 0 * part
none_yet total part = omega (arith, zero-mul total, zero-mul part)

-- one addition more
pub one_more : (times more total rest left part turn : ℕ) → times * total + rest ≡ turn * part → more * total + left ≡ rest + part → (times + more) * total + left ≡ (turn + 1) * part
one_more times more total rest left part turn before now =
    let split = add-mul times more total in
    let next = add-mul turn 1 part in
    let one : 1 * part ≡ part = omega arith in
    omega arith

-- one digit more
pub digit_more : (quotient next total rest left digit part : ℕ) → quotient * total + rest ≡ 10 ^ digit * part → next * total + left ≡ 10 * rest → (10 * quotient + next) * total + left ≡ 10 ^ (digit + 1) * part
digit_more quotient next total rest left digit part before now =
    let split = add-mul (10 * quotient) next total in
    let tens = mul_assoc 10 quotient total in
    let power : 10 ^ (digit + 1) ≡ 10 * 10 ^ digit = ap (λ n. 10 ^ n) (one_up digit) ∙ pow-succ' 10 digit in
    let product : 10 ^ (digit + 1) * part ≡ 10 * (10 ^ digit * part) = ap (λ n. n * part) power ∙ mul_assoc 10 (10 ^ digit) part in
    omega arith
  where
    one_up : (n : ℕ) → n + 1 ≡ suc n
    one_up n = omega arith

-- the quotient of what was divided
pub quotient_is : (quotient total rest part : ℕ) → quotient * total + rest ≡ part → rest < total → quotient ≡ part / total
quotient_is quotient total rest part is left = sym (div-mul-add quotient total rest left) ∙ ap (λ n. n / total) is

pub first_digit : (total part : ℕ) → part / total * total + part % total ≡ 10 ^ 0 * part
first_digit total part = div-add-mod' part total ∙ omega arith

-- the quotient stays small
pub few_more : (quotient next digit : ℕ) → quotient + 2 ≤ 3 * 10 ^ digit → next ≤ 10 → 10 * quotient + next + 2 ≤ 3 * 10 ^ (digit + 1)
few_more quotient next digit few small =
    let power : 10 ^ (digit + 1) ≡ 10 * 10 ^ digit = ap (λ n. 10 ^ n) (one_up digit) ∙ pow-succ' 10 digit in
    omega arith
  where
    one_up : (n : ℕ) → n + 1 ≡ suc n
    one_up n = omega arith
