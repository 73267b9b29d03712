-- Hexadecimal digits that are written from the last to the first.
use Rattle.std.proofs.Common.{◌≡◌, ℕ, zero, suc, ◌+◌, ◌-◌, ◌*◌, ◌/◌, ◌%◌, ◌^◌, ◌<◌, ◌≤◌, false, List, [], ◌∷◌, length, drop, set, refl, ap, sym, ◌∙◌, arith, if◌then◌else◌}
use Rattle.std.specs.Fmt.{digit_glyph, digits_onto, digits}
use Rattle.std.proofs.lemmas.Bool.{ne_eqb, eq-eqb}
use Rattle.std.proofs.lemmas.List.{drop-set, drop_all}
use Rattle.std.proofs.Math.Nat.{div-eq_of_lt, mod-eq_of_lt, pow-suc}

-- nothing is written yet
pub none_written : (n : ℕ) (buffer : List ℕ) → length buffer ≡ 16 → digits_onto 64 16 false n (drop 16 buffer) ≡ digits 16 false n
unfolding digits
none_written n buffer size = ap (λ acc. digits_onto 64 16 false n acc) (drop_all 16 buffer (omega arith))

onto_next : (k n : ℕ) (acc : List ℕ) → 16 ≤ n → digits_onto (suc k) 16 false n acc ≡ digits_onto k 16 false (n / 16) (digit_glyph false (n % 16) ∷ acc)
onto_next k n acc h = rw (ne_eqb (n / 16) 0 (λ e. omega arith)) refl

onto_last : (k n : ℕ) (acc : List ℕ) → n < 16 → digits_onto (suc k) 16 false n acc ≡ digit_glyph false n ∷ acc
onto_last k n acc h = rw (div-eq_of_lt h, mod-eq_of_lt h) refl

put_front : (buffer : List ℕ) (a glyph : ℕ) → a < length buffer → drop a (set buffer a glyph) ≡ glyph ∷ drop (suc a) buffer
put_front buffer a glyph h = let e : a + 1 ≡ suc a = omega arith in drop-set buffer a glyph h ∙ ap (λ i. glyph ∷ drop i buffer) e

next_at : (a n glyph : ℕ) (buffer : List ℕ) → suc a ≤ length buffer → 16 ≤ n → glyph ≡ digit_glyph false (n % 16) → (b k : ℕ) → b ≡ a → k ≡ suc (a + 48)
    → digits_onto (b + 48) 16 false (n / 16) (drop b (set buffer b glyph)) ≡ digits_onto k 16 false n (drop (suc a) buffer)
next_at a n glyph buffer h more is b k b_is k_is = rw (b_is, k_is)
    (ap (λ acc. digits_onto (a + 48) 16 false (n / 16) acc) (put_front buffer a glyph (omega arith) ∙ ap (λ g. g ∷ drop (suc a) buffer) is)
    ∙ sym (onto_next (a + 48) n (drop (suc a) buffer) more))

-- one digit more, and the next ones wait
pub next_written : (at n glyph : ℕ) (buffer : List ℕ) → 0 < at → at ≤ length buffer → 16 ≤ n → glyph ≡ digit_glyph false (n % 16)
    → digits_onto (at - 1 + 48) 16 false (n / 16) (drop (at - 1) (set buffer (at - 1) glyph)) ≡ digits_onto (at + 48) 16 false n (drop at buffer)
next_written zero n glyph buffer some h more is = absurd (omega arith)
next_written (suc a) n glyph buffer some h more is = next_at a n glyph buffer h more is (suc a - 1) (suc a + 48) (omega arith) (omega arith)

last_at : (a n glyph : ℕ) (buffer : List ℕ) → suc a ≤ length buffer → n < 16 → glyph ≡ digit_glyph false n → (b k : ℕ) → b ≡ a → k ≡ suc (a + 48)
    → drop b (set buffer b glyph) ≡ digits_onto k 16 false n (drop (suc a) buffer)
last_at a n glyph buffer h less is b k b_is k_is = rw (b_is, k_is)
    (put_front buffer a glyph (omega arith) ∙ (ap (λ g. g ∷ drop (suc a) buffer) is ∙ sym (onto_last (a + 48) n (drop (suc a) buffer) less)))

-- the first digit
pub all_written : (at n glyph : ℕ) (buffer : List ℕ) → 0 < at → at ≤ length buffer → n < 16 → glyph ≡ digit_glyph false n
    → drop (at - 1) (set buffer (at - 1) glyph) ≡ digits_onto (at + 48) 16 false n (drop at buffer)
all_written zero n glyph buffer some h less is = absurd (omega arith)
all_written (suc a) n glyph buffer some h less is = last_at a n glyph buffer h less is (suc a - 1) (suc a + 48) (omega arith) (omega arith)

-- a number of more than one digit has room for a digit in front
pub room_left : (at n : ℕ) → 16 ≤ n → n < 16 ^ at → (1 < at) × (n / 16 < 16 ^ (at - 1))
room_left zero n h k = absurd (omega arith)
room_left (suc zero) n h k = absurd (omega arith)
room_left (suc (suc a)) n h k =
    let e : suc (suc a) - 1 ≡ suc a = omega arith in
    (omega arith, rw e (less (16 ^ suc a) (16 ^ suc (suc a)) k (pow-suc 16 (suc a))))
  where
    less : (p q : ℕ) → n < q → q ≡ p * 16 → n / 16 < p
    less p q l is = omega arith
