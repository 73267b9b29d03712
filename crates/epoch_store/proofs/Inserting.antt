-- The row of a place, seen from the place that a walk over the rows has come to.
use Rattle.std.proofs.Common.{◌≡◌, ℕ, suc, ◌+◌, ◌<◌, ◌≤◌, Bool, true, false, cond, List, ◌∷◌, None, Some, length, drop, get_or, sym, ap, ◌∙◌, drop-cons, add-one, drop_of_length-le}
use Rattle.std.specs.Prelude.{find}

pub rest_at : {R : Type 0} (rows : List R) (i : ℕ) (x : R) → i < length rows → x ≡ get_or rows i x → drop i rows ≡ x ∷ drop (i + 1) rows
rest_at rows i x within is = rw add-one (drop-cons rows i x within ∙ ap (λ y. y ∷ drop (suc i) rows) (sym is))

-- the row that was looked for
pub found_here : {R : Type 0} (test : R → Bool) (rows : List R) (i : ℕ) (x : R) → i < length rows → x ≡ get_or rows i x → find test rows ≡ find test (drop i rows) → test x ≡ true → find test rows ≡ Some x
found_here test rows i x within is so_far passes = so_far ∙ ap (find test) (rest_at rows i x within is) ∙ ap (λ b. cond b (Some x) (find test (drop (i + 1) rows))) passes

pub found_later : {R : Type 0} (test : R → Bool) (rows : List R) (i : ℕ) (x : R) → i < length rows → x ≡ get_or rows i x → find test rows ≡ find test (drop i rows) → test x ≡ false → find test rows ≡ find test (drop (i + 1) rows)
found_later test rows i x within is so_far fails = so_far ∙ ap (find test) (rest_at rows i x within is) ∙ ap (λ b. cond b (Some x) (find test (drop (i + 1) rows))) fails

pub found_nowhere : {R : Type 0} (test : R → Bool) (rows : List R) (i : ℕ) → length rows ≤ i → find test rows ≡ find test (drop i rows) → find test rows ≡ None
found_nowhere test rows i past so_far = so_far ∙ ap (find test) (drop_of_length-le rows past)
