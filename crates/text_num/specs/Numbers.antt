-- Canonical numbers in text.
use Rattle.std.specs.Prelude.{◌≡◌, ℕ, ◌+◌, ◌-◌, ◌*◌, ◌/◌, ◌%◌, ◌^◌, ◌<◌, ◌↔◌, ◌==◌, ◌&&◌, nat_le, nat_lt, not, length, slice_index, Bool, false, if◌then◌else◌, List, [], ◌∷◌, ◌++◌}
use Rattle.std.specs.declared.option.Option.{Option}
use Rattle.std.specs.declared.option.Option.TheVariants.{Some, None}
use Rattle.std.specs.List.{list_all}
use Rattle.std.specs.Fmt.{digits, decimal}

-- what a digit is worth: `0` to `9`, then `a` to `f`; 16 for a byte that is no digit of any base here
abbrev pub digit_value : ℕ → ℕ
digit_value c = if nat_le 48 c && nat_le c 57 then c - 48 else (if nat_le 97 c && nat_le c 102 then c - 87 else 16)

-- a digit of a base of at most 16
abbrev pub is_digit : ℕ → ℕ → Bool
is_digit base c = nat_lt (digit_value c) base

-- a `0` with more behind it
abbrev pub has_leading_zero : List ℕ → Bool
has_leading_zero text = nat_le 2 (length text) && slice_index text 0 == 48

-- a canonical spelling: digits, at least one, and no leading `0`
abbrev pub is_canonical : ℕ → List ℕ → Bool
is_canonical base text = nat_le 1 (length text) && not (has_leading_zero text) && list_all (is_digit base) text

-- the number that digits write after others that write n
abbrev pub value_after : ℕ → ℕ → List ℕ → ℕ
value_after base n [] = n
value_after base n (c ∷ more) = value_after base (base * n + digit_value c) more

-- the number that digits write, the highest first
abbrev pub value_of : ℕ → List ℕ → ℕ
value_of base text = value_after base 0 text

-- the number below 2 ^ 64 that digits write after others that write n, where each byte is a digit
abbrev pub number_after : ℕ → ℕ → List ℕ → Option ℕ
number_after base n text = if list_all (is_digit base) text && nat_lt (value_after base n text) (2 ^ 64) then Some (value_after base n text) else None

-- the number below 2 ^ 64 that a text spells canonically
abbrev pub number : ℕ → List ℕ → Option ℕ
number base text = if is_canonical base text && nat_lt (value_of base text) (2 ^ 64) then Some (value_of base text) else None

-- decimal and hexadecimal
abbrev pub HasSpelling : ℕ → Type 0
HasSpelling base = (text : List ℕ) (n : ℕ) → (number base text ≡ Some n) ↔ ((n < 2 ^ 64) × (text ≡ digits base false n))

-- a text with more at its end, or as it was where nothing could be written
abbrev pub appended : Bool → List ℕ → List ℕ → List ℕ
appended written before text = if written then before ++ text else before

-- hundredths as a whole number with two decimals
abbrev pub hundredths : ℕ → List ℕ
hundredths n = decimal (n / 100) ++ 46 ∷ (decimal (n / 10 % 10) ++ decimal (n % 10))
