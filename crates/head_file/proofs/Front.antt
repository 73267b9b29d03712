-- The front of a text: its first word, and what stands behind it.
use Rattle.std.proofs.Common.{rules, arith, ◌≡◌, ℕ, suc, ◌+◌, ◌-◌, ◌*◌, ◌/◌, ◌%◌, ◌^◌, ◌<◌, ◌≤◌, Bool, true, false, cond, ◌&&◌, List, [], ◌∷◌, ◌++◌, None, Some, Option, length, take, drop, refl, sym, ap, ◌∙◌, length-append, append_assoc}
use Rattle.std.specs.Prelude.{nat_lt, nat_le, not, position}
use Rattle.std.specs.List.{prefix_len, list_all}
use Rattle.std.specs.Fmt.{decimal}
use Rattle.std.proofs.lemmas.Fmt.{decimal_by_steps}
use Rattle.std.proofs.lemmas.List.Folds.{list_all-append}
use Rattle.std.proofs.Math.Seq.{take-append_seam, drop-append-add, drop-append_seam}
use Rattle.std.proofs.lemmas.Grind.{common_steps}
use Rattle.head_file.specs.Words.{is_word}
pub use Rattle.store_io.proofs.History.{and_first, and_second}

pub both : (a b : Bool) → a ≡ true → b ≡ true → (a && b) ≡ true
both a b x y = rw (x, y) refl

above_blank : (b : ℕ) → nat_lt 32 b ≡ true → not (nat_le b 32) ≡ true
above_blank b above = grind (arith, common_steps)

ends : (b : ℕ) → b ≤ 32 → not (nat_le b 32) ≡ false
ends b small = grind (arith, common_steps)

word_len : (word rest : List ℕ) (end : ℕ) → is_word word ≡ true → end ≤ 32 → prefix_len (λ b. not (nat_le b 32)) (word ++ end ∷ rest) ≡ length word
word_len [] rest end is small = rw (ends end small) refl
word_len (b ∷ word) rest end is small =
    let above = above_blank b (and_first (nat_lt 32 b) (is_word word) is) in
    let others = word_len word rest end (and_second (nat_lt 32 b) (is_word word) is) small in
    ap (λ t. cond t (1 + prefix_len (λ b. not (nat_le b 32)) (word ++ end ∷ rest)) 0) above ∙ ap (λ n. 1 + n) others ∙ next (length word)
  where
    next : (n : ℕ) → 1 + n ≡ suc n
    next n = omega arith

-- where the first word ends
pub word_ends : (text word rest : List ℕ) (end : ℕ) → is_word word ≡ true → end ≤ 32 → text ≡ word ++ end ∷ rest → position (λ b. nat_le b 32) text ≡ Some (length word)
word_ends text word rest end is small e =
    let at : prefix_len (λ b. not (nat_le b 32)) text ≡ length word = ap (prefix_len (λ b. not (nat_le b 32))) e ∙ word_len word rest end is small in
    let within : prefix_len (λ b. not (nat_le b 32)) text < length text = omega (arith, at, ap length e, length-append word (end ∷ rest)) in
    ap (λ b. cond b (Some (prefix_len (λ b. not (nat_le b 32)) text)) None) (lt_true _ _ within) ∙ ap Some at
  where
    lt_true : (a b : ℕ) → a < b → nat_lt a b ≡ true
    lt_true a b below = grind (arith, common_steps)

-- the first word
pub word_before : (text word rest : List ℕ) (end at : ℕ) → text ≡ word ++ end ∷ rest → at ≡ length word → take at text ≡ word
word_before text word rest end at e is = ap (λ n. take n text) is ∙ ap (take (length word)) e ∙ take-append_seam word (end ∷ rest)

-- what stands behind it
pub rest_behind : (text word rest : List ℕ) (end at : ℕ) → text ≡ word ++ end ∷ rest → at ≡ length word → drop (at + 1) text ≡ rest
rest_behind text word rest end at e is = ap (λ n. drop (n + 1) text) is ∙ ap (drop (length word + 1)) e ∙ drop-append-add word (end ∷ rest) 1

digit_word : (d : ℕ) → d < 10 → nat_lt 32 (48 + d) ≡ true
digit_word d below = grind (arith, common_steps)

-- a number is a word
pub decimal_word : (n : ℕ) → n < 2 ^ 64 → is_word (decimal n) ≡ true
decimal_word n below = decimal_by_steps (λ _ ds. is_word ds ≡ true)
    (λ m small. both _ _ (digit_word m small) refl)
    (λ m ds large front. list_all-append (λ byte. nat_lt 32 byte) ds ((48 + m % 10) ∷ []) ∙ both _ _ front (both _ _ (digit_word (m % 10) (omega arith)) refl))
    n below
