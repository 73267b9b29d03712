-- Lists that stand in a text as lines, one after the other.
use Rattle.std.proofs.Common.{rules, arith, ◌≡◌, ℕ, zero, suc, ◌+◌, ◌-◌, ◌^◌, ◌<◌, ◌≤◌, Bool, true, ◌&&◌, List, [], ◌∷◌, ◌++◌, length, take, drop, get_or, refl, sym, ap, ◌∙◌, drop-cons, add-one, append_assoc, append-nil, drop_of_length-le}
use Rattle.std.specs.Prelude.{nat_le, nat_lt}
use Rattle.std.specs.List.{list_all, flat_map, AllByRecursion}
use Rattle.std.proofs.lemmas.List.{take_all, take_more}
use Rattle.std.proofs.lemmas.Grind.{common_steps}
use Rattle.std.proofs.lemmas.List.Folds.{list_all-append}
use Rattle.text_num.specs.Names.{is_name, is_visible}
use Rattle.head_file.specs.Words.{is_word}
use Rattle.head_file.proofs.Front.{and_first, and_second, both}

drop_step : {A : Type 0} (xs : List A) (i : ℕ) (d : A) → i < length xs → drop i xs ≡ get_or xs i d ∷ drop (i + 1) xs
drop_step xs i d within = rw add-one (drop-cons xs i d within)

-- the line of the item at i, and the lines behind it
pub line_at : {A : Type 0} (line : A → List ℕ) (xs : List A) (i : ℕ) (d : A) (rest : List ℕ) → i < length xs → flat_map line (drop i xs) ++ rest ≡ line (get_or xs i d) ++ (flat_map line (drop (i + 1) xs) ++ rest)
line_at line xs i d rest within = ap (λ l. flat_map line l ++ rest) (drop_step xs i d within) ∙ append_assoc (line (get_or xs i d)) (flat_map line (drop (i + 1) xs)) rest

-- behind the last line
pub lines_end : {A : Type 0} (line : A → List ℕ) (xs : List A) (i : ℕ) (rest : List ℕ) → length xs ≤ i → flat_map line (drop i xs) ++ rest ≡ rest
lines_end line xs i rest past = ap (λ l. flat_map line l ++ rest) (drop_of_length-le xs past)

-- what every item passes, the item at i does
pub all_at : {A : Type 0} (p : A → Bool) (xs : List A) (i : ℕ) (d : A) → list_all p xs ≡ true → i < length xs → p (get_or xs i d) ≡ true
all_at p [] i d all within = absurd (omega arith)
all_at p (x ∷ xs) zero d all within = and_first (p x) (list_all p xs) all
all_at p (x ∷ xs) (suc i) d all within = all_at p xs i d (and_second (p x) (list_all p xs) all) (omega arith)

pub each_at : {A : Type 0} (P : A → Type 0) (xs : List A) (i : ℕ) (d : A) → AllByRecursion P xs → i < length xs → P (get_or xs i d)
each_at P [] i d all within = absurd (omega arith)
each_at P (x ∷ xs) zero d all within = all.0
each_at P (x ∷ xs) (suc i) d all within = each_at P xs i d all.1 (omega arith)

visible_word : (text : List ℕ) → list_all is_visible text ≡ true → is_word text ≡ true
visible_word [] all = refl
visible_word (b ∷ text) all = both (nat_lt 32 b) (is_word text) (visible b (and_first (is_visible b) (list_all is_visible text) all)) (visible_word text (and_second (is_visible b) (list_all is_visible text) all))
  where
    visible : (b : ℕ) → is_visible b ≡ true → nat_lt 32 b ≡ true
    visible b is = let first : nat_le 33 b ≡ true = and_first (nat_le 33 b) (nat_le b 126) is in grind (arith, common_steps)

-- a name is a word
pub name_word : (name : List ℕ) → is_name name ≡ true → is_word name ≡ true
name_word name is = visible_word name (and_second (nat_le 1 (length name) && nat_le (length name) 255) (list_all is_visible name) is)

-- one name more among names
pub all_more : {A : Type 0} (p : A → Bool) (xs : List A) (i : ℕ) (x : A) → i < length xs → x ≡ get_or xs i x → list_all p (take i xs) ≡ true → p x ≡ true → list_all p (take (i + 1) xs) ≡ true
all_more p xs i x within here all passes = ap (list_all p) (take_more xs i x within ∙ ap (λ y. take i xs ++ y ∷ []) (sym here)) ∙ list_all-append p (take i xs) (x ∷ []) ∙ both (list_all p (take i xs)) (list_all p (x ∷ [])) all (both (p x) true passes refl)
