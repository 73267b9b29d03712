-- A text has its lines one after another, and no other lines.
use Rattle.std.proofs.Common.{◌≡◌, ℕ, ◌<◌, List, [], ◌∷◌, ◌++◌, length, refl, ap, sym, ◌∙◌, arith, append_assoc}
use Rattle.std.specs.List.{AllByRecursion}
use Rattle.text_num.specs.Lines.{HasNoLineFeed, text_of_lines}

-- the text of lines one behind another
pub lines_append : (xs ys : List (List ℕ)) → text_of_lines (xs ++ ys) ≡ text_of_lines xs ++ text_of_lines ys
lines_append [] ys = refl
lines_append (x ∷ xs) ys = ap (λ l. x ++ 10 ∷ l) (lines_append xs ys) ∙ sym (append_assoc x (10 ∷ text_of_lines xs) (text_of_lines ys))

head_same : (x y : ℕ) (xs ys : List ℕ) → x ∷ xs ≡ y ∷ ys → x ≡ y
head_same x y xs ys e = cc

tail_same : (x y : ℕ) (xs ys : List ℕ) → x ∷ xs ≡ y ∷ ys → xs ≡ ys
tail_same x y xs ys e = cc

nil_cons : (x : ℕ) (xs : List ℕ) → [] ≡ x ∷ xs → ⊥
nil_cons x xs e = cc

-- a finished line is not nothing
pub nil_line : (line more : List ℕ) → [] ≡ line ++ 10 ∷ more → ⊥
nil_line [] more e = nil_cons 10 more e
nil_line (x ∷ line) more e = nil_cons x (line ++ 10 ∷ more) e

-- a text with a line feed is no piece of a line
pub feed_within : (line more piece : List ℕ) → HasNoLineFeed piece → line ++ 10 ∷ more ≡ piece → ⊥
feed_within [] more [] h e = nil_cons 10 more (sym e)
feed_within [] more (y ∷ piece) h e = h.0 (sym (head_same 10 y more piece e))
feed_within (x ∷ line) more [] h e = nil_cons x (line ++ 10 ∷ more) (sym e)
feed_within (x ∷ line) more (y ∷ piece) h e = feed_within line more piece h.1 (tail_same x y (line ++ 10 ∷ more) piece e)

-- the first line of a text is one alone
pub same_line : (a b xs ys : List ℕ) → HasNoLineFeed a → HasNoLineFeed b → a ++ 10 ∷ xs ≡ b ++ 10 ∷ ys → (a ≡ b) × (xs ≡ ys)
same_line [] [] xs ys h k e = (refl, tail_same 10 10 xs ys e)
same_line [] (y ∷ b) xs ys h k e = absurd (k.0 (sym (head_same 10 y xs (b ++ 10 ∷ ys) e)))
same_line (x ∷ a) [] xs ys h k e = absurd (h.0 (head_same x 10 (a ++ 10 ∷ xs) ys e))
same_line (x ∷ a) (y ∷ b) xs ys h k e = let p = same_line a b xs ys h.1 k.1 (tail_same x y (a ++ 10 ∷ xs) (b ++ 10 ∷ ys) e) in
    (ap (λ l. x ∷ l) p.0 ∙ ap (λ z. z ∷ b) (head_same x y (a ++ 10 ∷ xs) (b ++ 10 ∷ ys) e), p.1)

-- a line is no shorter than the bytes without a line feed at its front
pub short_line : (a b xs ys : List ℕ) → HasNoLineFeed b → length a < length b → a ++ 10 ∷ xs ≡ b ++ ys → ⊥
short_line [] [] xs ys k l e = absurd (omega (arith, l))
short_line [] (y ∷ b) xs ys k l e = k.0 (sym (head_same 10 y xs (b ++ ys) e))
short_line (x ∷ a) [] xs ys k l e = absurd (omega (arith, l))
short_line (x ∷ a) (y ∷ b) xs ys k l e = short_line a b xs ys k.1 (omega (arith, l)) (tail_same x y (a ++ 10 ∷ xs) (b ++ ys) e)

-- the lines of a text are these alone
pub same_lines : (P : List ℕ → Type 0) → ((line : List ℕ) → P line → HasNoLineFeed line) → (lines others : List (List ℕ)) → AllByRecursion P lines → AllByRecursion P others
    → text_of_lines lines ≡ text_of_lines others → lines ≡ others
same_lines P no_feed [] [] h k e = refl
same_lines P no_feed [] (other ∷ others) h k e = absurd (nil_line other (text_of_lines others) e)
same_lines P no_feed (line ∷ lines) [] h k e = absurd (nil_line line (text_of_lines lines) (sym e))
same_lines P no_feed (line ∷ lines) (other ∷ others) h k e = let p = same_line line other (text_of_lines lines) (text_of_lines others) (no_feed line h.0) (no_feed other k.0) e in
    ap (λ (l : List (List ℕ)). line ∷ l) (same_lines P no_feed lines others h.1 k.1 p.1) ∙ ap (λ (l : List ℕ). l ∷ others) p.0
