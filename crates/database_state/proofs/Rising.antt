-- Whether rows rise, seen from one row on.
use Rattle.std.proofs.Common.{arith, ◌≡◌, ℕ, suc, ◌+◌, ◌-◌, ◌<◌, ◌≤◌, Bool, true, ◌&&◌, List, [], ◌∷◌, length, drop, get_or, refl, sym, ap, ◌∙◌, drop-cons, add-one, length-drop}
use Rattle.database_state.specs.Rows.{is_rising, is_before_first}

drop_step : {R : Type 0} (rows : List R) (i : ℕ) (x : R) → i < length rows → x ≡ get_or rows i x → drop i rows ≡ x ∷ drop (i + 1) rows
drop_step rows i x within here = rw add-one (drop-cons rows i x within ∙ ap (λ r. r ∷ drop (suc i) rows) (sym here))

-- from a row and the next: whether these are in order, and whether the rows rise from the next on
pub from_two : {R : Type 0} (before : R → R → Bool) (rows : List R) (i : ℕ) (x y : R) → 1 ≤ i → i < length rows → x ≡ get_or rows (i - 1) x → y ≡ get_or rows i y → is_rising before (drop (i - 1) rows) ≡ (before x y && is_rising before (drop i rows))
from_two before rows i x y some within here next =
    let whole : i - 1 + 1 ≡ i = omega arith in
    let first : drop (i - 1) rows ≡ x ∷ drop i rows = drop_step rows (i - 1) x (omega arith) here ∙ ap (λ j. x ∷ drop j rows) whole in
    let second : drop i rows ≡ y ∷ drop (i + 1) rows = drop_step rows i y within next in
    ap (is_rising before) first ∙ ap (λ l. is_before_first before x l && is_rising before (drop i rows)) second

one_rises : {R : Type 0} (before : R → R → Bool) (rows : List R) → length rows ≤ 1 → is_rising before rows ≡ true
one_rises before [] few = refl
one_rises before (x ∷ []) few = refl
one_rises before (x ∷ y ∷ rows) few = absurd (omega arith)

-- the last row alone rises
pub last_rises : {R : Type 0} (before : R → R → Bool) (rows : List R) (i : ℕ) → length rows ≤ i → 1 ≤ i → is_rising before (drop (i - 1) rows) ≡ true
last_rises before rows i past some = one_rises before (drop (i - 1) rows) (omega (arith, length-drop (i - 1) rows))
