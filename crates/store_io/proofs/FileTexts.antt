-- A file's name is a name: visible bytes, and few.
use Rattle.std.proofs.Common.{rules, arith, ◌≡◌, ℕ, ◌+◌, ◌-◌, ◌*◌, ◌/◌, ◌%◌, ◌^◌, ◌<◌, ◌≤◌, Bool, true, false, ◌&&◌, List, [], ◌∷◌, ◌++◌, length, refl, sym, ap, ◌∙◌, length-append}
use Rattle.std.specs.Prelude.{nat_le, codes}
use Rattle.std.proofs.Math.Nat.{le_refl}
use Rattle.std.specs.List.{list_all}
use Rattle.std.specs.Fmt.{decimal}
use Rattle.std.proofs.lemmas.Fmt.{decimal_by_steps, length-decimal-le}
use Rattle.std.proofs.lemmas.List.Folds.{list_all-append}
use Rattle.std.proofs.lemmas.Grind.{common_steps}
use Rattle.text_num.specs.Names.{is_visible, is_name}

-- at most k bytes, all of them visible
pub record IsPiece (text : List ℕ) (k : ℕ) : Type 0 where
  pub short : length text ≤ k
  pub visible : list_all is_visible text ≡ true

both : (a b : Bool) → a ≡ true → b ≡ true → (a && b) ≡ true
both a b x y = rw (x, y) refl

-- two pieces, one after the other
pub joined : {xs ys : List ℕ} {j k : ℕ} → IsPiece xs j → IsPiece ys k → IsPiece (xs ++ ys) (j + k)
joined {xs} {ys} {j} {k} a b = record {
  short = omega (arith, length-append xs ys, a.short, b.short);
  visible = list_all-append is_visible xs ys ∙ both _ _ a.visible b.visible;
}

digit_visible : (d : ℕ) → d < 10 → is_visible (48 + d) ≡ true
digit_visible d below = grind (arith, common_steps)

decimal_visible : (n : ℕ) → n < 2 ^ 64 → list_all is_visible (decimal n) ≡ true
decimal_visible n below = decimal_by_steps (λ _ ds. list_all is_visible ds ≡ true)
    (λ m small. both _ _ (digit_visible m small) refl)
    (λ m ds large front. list_all-append is_visible ds ((48 + m % 10) ∷ []) ∙ both _ _ front (both _ _ (digit_visible (m % 10) (omega arith)) refl))
    n below

-- a number below 2 ^ 32
pub number_piece : (n : ℕ) → n < 2 ^ 32 → IsPiece (decimal n) 10
number_piece n below = record { short = length-decimal-le 10 n (omega arith) (omega arith) (omega arith); visible = decimal_visible n (omega arith) }

-- a piece that is short and not empty is a name
piece_is_name : (first : ℕ) (text : List ℕ) (k : ℕ) → IsPiece (first ∷ text) k → k ≤ 255 → is_name (first ∷ text) ≡ true
piece_is_name first text k piece few =
    let size : length (first ∷ text) ≤ 255 = omega (arith, piece.short) in
    let some : nat_le 1 (length (first ∷ text)) ≡ true = grind (arith, common_steps) in
    let limit : nat_le (length (first ∷ text)) 255 ≡ true = grind (arith, common_steps) in
    both (nat_le 1 (length (first ∷ text)) && nat_le (length (first ∷ text)) 255) (list_all is_visible (first ∷ text)) (both _ _ some limit) piece.visible

-- a literal
literal : (text : List ℕ) → list_all is_visible text ≡ true → IsPiece text (length text)
literal text visible = record { short = le_refl (length text); visible = visible }

-- a dot, a number, and more
after_number : (n : ℕ) (more : List ℕ) (k : ℕ) → n < 2 ^ 32 → IsPiece more k → IsPiece (decimal n ++ (codes "." ++ more)) (10 + (1 + k))
after_number n more k below piece = joined {xs = decimal n} {ys = codes "." ++ more} {j = 10} {k = 1 + k} (number_piece n below) (joined {xs = codes "."} {ys = more} {j = 1} {k = k} (literal (codes ".") refl) piece)

pub head_is_name : (g : ℕ) → g < 2 ^ 32 → is_name (codes "head." ++ decimal g) ≡ true
head_is_name g below = piece_is_name 104 (codes "ead." ++ decimal g) 15 (joined {xs = codes "head."} {ys = decimal g} {j = 5} {k = 10} (literal (codes "head.") refl) (number_piece g below)) (omega arith)

pub segment_is_name : (g : ℕ) → g < 2 ^ 32 → is_name (codes "r." ++ decimal g) ≡ true
segment_is_name g below = piece_is_name 114 (codes "." ++ decimal g) 12 (joined {xs = codes "r."} {ys = decimal g} {j = 2} {k = 10} (literal (codes "r.") refl) (number_piece g below)) (omega arith)

pub unknown_is_name : (e v g : ℕ) → e < 2 ^ 32 → v < 2 ^ 32 → g < 2 ^ 32 → is_name (codes "u." ++ (decimal e ++ (codes "." ++ (decimal v ++ (codes "." ++ decimal g))))) ≡ true
unknown_is_name e v g e_fits v_fits g_fits =
    let numbers = after_number e _ _ e_fits (after_number v _ _ v_fits (number_piece g g_fits)) in
    piece_is_name 117 (codes "." ++ (decimal e ++ (codes "." ++ (decimal v ++ (codes "." ++ decimal g))))) 34 (joined {xs = codes "u."} {ys = decimal e ++ (codes "." ++ (decimal v ++ (codes "." ++ decimal g)))} {j = 2} {k = 32} (literal (codes "u.") refl) numbers) (omega arith)

pub known_is_name : (e i v g : ℕ) → e < 2 ^ 32 → i < 2 ^ 32 → v < 2 ^ 32 → g < 2 ^ 32 → is_name (codes "p." ++ (decimal e ++ (codes "." ++ (decimal i ++ (codes "." ++ (decimal v ++ (codes "." ++ decimal g))))))) ≡ true
known_is_name e i v g e_fits i_fits v_fits g_fits =
    let numbers = after_number e _ _ e_fits (after_number i _ _ i_fits (after_number v _ _ v_fits (number_piece g g_fits))) in
    piece_is_name 112 (codes "." ++ (decimal e ++ (codes "." ++ (decimal i ++ (codes "." ++ (decimal v ++ (codes "." ++ decimal g))))))) 45 (joined {xs = codes "p."} {ys = decimal e ++ (codes "." ++ (decimal i ++ (codes "." ++ (decimal v ++ (codes "." ++ decimal g)))))} {j = 2} {k = 43} (literal (codes "p.") refl) numbers) (omega arith)
