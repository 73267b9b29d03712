-- A text cut at a separator, from the front.
use Rattle.std.proofs.Common.{◌≡◌, ℕ, suc, ◌+◌, ◌-◌, ◌<◌, ◌≤◌, ◌==◌, true, false, List, [], ◌∷◌, ◌++◌, length, get_or, take, drop, refl, ap, sym, subst, ◌∙◌, arith, Option, Some}
use Rattle.std.specs.List.{All}
use Rattle.std.proofs.lemmas.List.{take-append-drop, length-take, get_or-take, take_rest}
use Rattle.std.proofs.lemmas.List.Splits.{slice_split_at, slice_split_none, length-slice_split}
use Rattle.std.proofs.lemmas.Grind.{get_or_default_zero}
use Rattle.std.proofs.Math.Seq.{drop-cons}
use Rattle.std.proofs.lemmas.Bool.{false_from_ne_true}
use Rattle.memchr.specs.Find.{NoneBefore, Nowhere, Passes, is_byte}
use Rattle.std.specs.Borrow.{Bor}
use Rattle.text_num.specs.Fields.{cut_at, fields_behind}

none_before : (s : ℕ) (text : List ℕ) (n : ℕ) → n ≤ length text → ((k : ℕ) → k < n → (get_or text k 0 == s) ≡ true → ⊥) → All (λ (b : ℕ). (b == s) ≡ false) (take n text)
none_before s text n most h k d below = subst (λ (b : ℕ). (b == s) ≡ false)
    (sym (get_or-take n text k d (omega (arith, length-take n text, below)) ∙ get_or_default_zero text k d (omega (arith, length-take n text, below))))
    (false_from_ne_true (get_or text k 0 == s) (h k (omega (arith, length-take n text, below))))

-- at the first separator
pub cut_found : (s : ℕ) (text : List ℕ) (n : ℕ) → NoneBefore (Passes (is_byte s) text) 0 (length text) n × Passes (is_byte s) text n
    → cut_at s text ≡ take n text ∷ cut_at s (take (length text - (n + 1)) (drop (n + 1) text))
cut_found s text n h =
    let high = h.0.high in
    let before = none_before s text n (omega (arith, high)) (λ k below e. h.0.before k (omega arith) below e) in
    let whole : take n text ++ get_or text n 0 ∷ drop (suc n) text ≡ text = ap (λ (l : List ℕ). take n text ++ l) (sym (drop-cons text n 0 high)) ∙ take-append-drop n text in
    let cut : cut_at s (take n text ++ get_or text n 0 ∷ drop (suc n) text) ≡ take n text ∷ cut_at s (drop (suc n) text)
    = slice_split_at (λ b. b == s) (take n text) (get_or text n 0) (drop (suc n) text) before h.1 in
    ap (λ (l : List ℕ). cut_at s l) (sym whole) ∙ cut
    ∙ ap (λ (l : List ℕ). take n text ∷ cut_at s l) (ap (λ (k : ℕ). drop k text) {x = suc n} {y = n + 1} (omega arith) ∙ sym (take_rest text (n + 1)))

-- where there is none
pub cut_none : (s : ℕ) (text : List ℕ) → Nowhere (Passes (is_byte s) text) 0 (length text) → cut_at s text ≡ text ∷ []
cut_none s text h = slice_split_none (λ b. b == s) text
    (λ k d below. subst (λ (b : ℕ). (b == s) ≡ false) (sym (get_or_default_zero text k d below))
    (false_from_ne_true (get_or text k 0 == s) (λ e. h k (omega arith) below e)))

some_cons : {A : Type 0} (xs : List A) → 0 < length xs → (x : A) × (more : List A) × (xs ≡ x ∷ more)
some_cons [] h = absurd (omega arith)
some_cons (x ∷ more) h = (x, more, refl)

-- a text has a field
pub a_field : (s : ℕ) (text : List ℕ) → (field : List ℕ) × (more : List (List ℕ)) × (cut_at s text ≡ field ∷ more)
a_field s text = some_cons (cut_at s text) (omega (arith, length-slice_split (λ b. b == s) text))

-- a cut behind which more stands
pub cut_on : (s : ℕ) {cuts : List (List ℕ)} {field : List ℕ} {rest : Option (Bor (List ℕ))} {behind : Bor (List ℕ)} → cuts ≡ field ∷ fields_behind s rest → rest ≡ Some behind → cuts ≡ field ∷ cut_at s behind.now
cut_on s {field = field} e is = e ∙ ap (λ (r : Option (Bor (List ℕ))). field ∷ fields_behind s r) is

-- cuts one after another
pub then_cut : {cuts : List (List ℕ)} {field : List ℕ} {more rest : List (List ℕ)} → cuts ≡ field ∷ more → more ≡ rest → cuts ≡ field ∷ rest
then_cut {field = field} e f = e ∙ ap (λ (l : List (List ℕ)). field ∷ l) f
