-- The spellings of numbers: what they read as, which bytes they have, and how long they are.
use Rattle.std.proofs.Common.{◌≡◌, ◌≢◌, ℕ, zero, suc, ◌/◌, ◌%◌, ◌^◌, ◌<◌, ◌≤◌, true, false, List, [], ◌∷◌, length, refl, ap, arith, ltb, ⊎_elim}
use Rattle.std.specs.List.{list_all, AllByRecursion}
use Rattle.std.specs.Fmt.{digit_glyph, digits_onto, digits, decimal}
use Rattle.std.proofs.lemmas.Bool.{and_parts, ltb-true, cases_eq}
use Rattle.std.proofs.lemmas.Fmt.{length-decimal-le}
use Rattle.std.proofs.lemmas.List.{length-append}
use Rattle.std.proofs.Math.Nat.{div-eq_of_lt, div-lt_iff_lt-mul, pow-suc}
use Rattle.text_num.specs.Numbers.{digit_value, is_digit, is_canonical, value_of, HasSpelling}
use Rattle.text_num.proofs.Spelling.{onto_last, onto_more, told_of}

-- a byte of a field: neither a blank nor a line feed
abbrev pub IsFieldByte : ℕ → Type 0
IsFieldByte byte = (byte ≢ 32) × (byte ≢ 10)

abbrev pub IsField : List ℕ → Type 0
IsField text = AllByRecursion IsFieldByte text

not_digit : (base : ℕ) (c d : ℕ) → base ≤ 16 → digit_value d ≡ 16 → is_digit base c ≡ true → c ≢ d
not_digit base c d most none h e = absurd (omega (arith, ltb-true (digit_value c) base h, ap digit_value e, none, most))

digits_field : (base : ℕ) (text : List ℕ) → base ≤ 16 → list_all (is_digit base) text ≡ true → IsField text
digits_field base [] most h = tt
digits_field base (c ∷ text) most h = let p = and_parts (is_digit base c) (list_all (is_digit base) text) h in
    ((not_digit base c 32 most refl p.0, not_digit base c 10 most refl p.0), digits_field base text most p.1)

-- what the spelling of a number is
pub record IsSpelling (base n : ℕ) (text : List ℕ) : Type 0 where
  pub canonical : is_canonical base text ≡ true
  pub value : value_of base text ≡ n
  pub field : IsField text

pub spelled : (base n : ℕ) → HasSpelling base → base ≤ 16 → n < 2 ^ 64 → IsSpelling base n (digits base false n)
spelled base n has most small =
    let told = told_of (is_canonical base (digits base false n)) (ltb (value_of base (digits base false n)) (2 ^ 64)) (value_of base (digits base false n)) n ((has (digits base false n) n).1 (small, refl)) in
    record {
      canonical = told.0;
      value = told.2;
      field = digits_field base (digits base false n) most (and_parts _ _ told.0).1;
    }

-- a hexadecimal below 16 to a power has at most so many digits
onto_short : (f k n : ℕ) → n < 16 ^ suc k → length (digits_onto f 16 false n []) ≤ suc k
onto_short zero k n h = omega arith
onto_short (suc f) zero n h = rw (onto_last f 16 n (div-eq_of_lt {n = n} {m = 16} (omega (arith, h)))) (omega arith)
onto_short (suc f) (suc k) n h = ⊎_elim
    (λ e. rw (onto_last f 16 n e) (omega arith))
    (λ ne. let front : length (digits_onto f 16 false (n / 16) []) ≤ suc k = onto_short f k (n / 16) ((div-lt_iff_lt-mul {k = 16} {x = n} {y = 16 ^ suc k} (omega arith)).1 (omega (arith, h, pow-suc 16 (suc k)))) in
    rw (onto_more f 16 n ne) (omega (arith, front, length-append (digits_onto f 16 false (n / 16) []) (digit_glyph false (n % 16) ∷ []))))
    (cases_eq (n / 16) 0)

pub hexadecimal_short : (n : ℕ) → n < 2 ^ 64 → length (digits 16 false n) ≤ 16
unfolding digits
hexadecimal_short n h = onto_short 64 15 n (omega (arith, h))

pub decimal_short : (n : ℕ) → n < 2 ^ 64 → length (decimal n) ≤ 20
decimal_short n h = length-decimal-le 20 n (omega arith) (omega (arith, h)) h
