-- What digits are worth, and the number that they write.
use Rattle.std.proofs.Common.{◌≡◌, ℕ, zero, suc, ◌+◌, ◌*◌, ◌^◌, ◌<◌, ◌≤◌, ◌&&◌, Bool, true, false, List, [], ◌∷◌, ◌++◌, length, get_or, drop, refl, ◌∙◌, arith, Some, None, if◌then◌else◌, ⊎_elim}
use Rattle.std.specs.List.{list_all}
use Rattle.std.specs.Fmt.{digit_glyph}
use Rattle.std.proofs.lemmas.Bool.{cases_lt, lt-ltb, le-ltb}
use Rattle.std.proofs.lemmas.Bool.Decides.{nat_tests}
use Rattle.std.proofs.Math.Seq.{drop-cons}
use Rattle.std.proofs.Math.ListN.{drop_of_length-le}
use Rattle.text_num.specs.Numbers.{digit_value, is_digit, value_after, number_after}

-- one digit more at the end
pub value_after-push : (base n : ℕ) (xs : List ℕ) (c : ℕ) → value_after base n (xs ++ c ∷ []) ≡ base * value_after base n xs + digit_value c
value_after-push base n [] c = refl
value_after-push base n (x ∷ xs) c = value_after-push base (base * n + digit_value x) xs c

grows : (base n : ℕ) → 0 < base → n ≤ base * n
grows zero n h = absurd (omega arith)
grows (suc base) n h = omega arith

-- digits that follow make a number no smaller
pub value_after-ge : (base n : ℕ) (xs : List ℕ) → 0 < base → n ≤ value_after base n xs
value_after-ge base n [] h = omega arith
value_after-ge base n (x ∷ xs) h = omega (arith, value_after-ge base (base * n + digit_value x) xs h, grows base n h)

-- the glyph of a digit is worth that digit
pub digit_value-glyph : (d : ℕ) → d < 16 → digit_value (digit_glyph false d) ≡ d
digit_value-glyph d h = grind (arith, nat_tests)

-- the glyph of what a digit is worth is the digit
pub glyph-digit_value : (c : ℕ) → digit_value c < 16 → digit_glyph false (digit_value c) ≡ c
glyph-digit_value c h = grind (arith, nat_tests)

-- only `0` is worth nothing
pub zero_digit : (c : ℕ) → digit_value c ≡ 0 → c ≡ 48
zero_digit c h = grind (arith, nat_tests)

pub is_worth : (base c : ℕ) → is_digit base c ≡ true → digit_value c < base
is_worth base c h = grind (arith, nat_tests)

-- a digit read
pub reads_more : (base n : ℕ) (text : List ℕ) (c : ℕ) (more : List ℕ) → text ≡ c ∷ more → digit_value c < base → number_after base n text ≡ number_after base (base * n + digit_value c) more
reads_more base n text c more e h = rw e (rw (lt-ltb (digit_value c) base h) refl)

-- a byte that is no digit
pub reads_none : (base n : ℕ) (text : List ℕ) (c : ℕ) (more : List ℕ) → text ≡ c ∷ more → base ≤ digit_value c → number_after base n text ≡ None
reads_none base n text c more e h = rw e (rw (le-ltb (digit_value c) base h) refl)

none_of : (b : Bool) (m : ℕ) → (if b && false then Some m else None) ≡ None
none_of true m = refl
none_of false m = refl

-- too large already
pub reads_past : (base n : ℕ) (text : List ℕ) → 0 < base → 2 ^ 64 ≤ n → number_after base n text ≡ None
reads_past base n text h large = rw (le-ltb (value_after base n text) (2 ^ 64) (omega (arith, value_after-ge base n text h))) (none_of (list_all (is_digit base) text) (value_after base n text))

-- a digit that makes the number too large
pub past : (base n i : ℕ) (text : List ℕ) → i < length text → digit_value (get_or text i 0) < base → 2 ^ 64 ≤ base * n + digit_value (get_or text i 0) → number_after base n (drop i text) ≡ None
past base n i text h digit large = reads_more base n (drop i text) (get_or text i 0) (drop (suc i) text) (drop-cons text i 0 h) digit
    ∙ reads_past base (base * n + digit_value (get_or text i 0)) (drop (suc i) text) (omega arith) large

-- nothing is left to read
pub all_read : (base n i : ℕ) (text : List ℕ) → length text ≤ i → n < 2 ^ 64 → Some n ≡ number_after base n (drop i text)
all_read base n i text h small = rw (drop_of_length-le text h) (rw (lt-ltb n (2 ^ 64) small) refl)

pub not_below : (a b : ℕ) → (a < b → ⊥) → b ≤ a
not_below a b h = ⊎_elim (λ lt. absurd (h lt)) (λ le. le) (cases_lt a b)
