-- Sums over epochs, as sums over the rows of a head.
use Rattle.std.proofs.Common.{arith, ◌≡◌, ℕ, zero, suc, ◌+◌, ◌<◌, ◌≤◌, ◌&&◌, Bool, true, false, cond, eqb, List, [], ◌∷◌, None, Some, Option, refl, sym, ap, ◌∙◌, ⊎_elim}
use Rattle.std.specs.Prelude.{find, sum_by}
use Rattle.std.specs.List.{AllByRecursion}
use Rattle.std.proofs.lemmas.Bool.{cases_eq}
use Rattle.std.proofs.lemmas.List.Sums.{sum_by-cons}
use Rattle.report_text.specs.declared.epochs.Epochs.{Epochs}
use Rattle.report_text.specs.declared.epochs.Epochs.TheVariants.{All, One}
use Rattle.dcpiprof_report.specs.Counting.{sum_to, sum_over}
use Rattle.dcpiprof_report.specs.Reading.{is_chosen}

to_zero : (last : ℕ) (f : ℕ → ℕ) → ((e : ℕ) → f e ≡ 0) → sum_to last f ≡ 0
to_zero zero f none = none 0
to_zero (suc last) f none = let before = to_zero last f none in let here = none (suc last) in omega arith

to_add : (last : ℕ) (f g : ℕ → ℕ) → sum_to last (λ e. f e + g e) ≡ sum_to last f + sum_to last g
to_add zero f g = refl
to_add (suc last) f g = let before = to_add last f g in omega arith

-- what stands at one epoch alone
at_one : ℕ → Bool → ℕ → ℕ → ℕ
at_one k fits a e = cond (eqb e k && fits) a 0

other_epoch : (k e a : ℕ) (fits : Bool) → eqb e k ≡ false → cond (eqb e k && fits) a 0 ≡ 0
other_epoch k e a fits apart = rw apart refl

this_epoch : (k e a : ℕ) (fits : Bool) → eqb e k ≡ true → cond (eqb e k && fits) a 0 ≡ cond fits a 0
this_epoch k e a fits is = rw is refl

to_past : (last k a : ℕ) (fits : Bool) → last < k → sum_to last (λ e. cond (eqb e k && fits) a 0) ≡ 0
to_past zero k a fits past = other_epoch k 0 a fits (grind arith)
to_past (suc last) k a fits past =
    let before = to_past last k a fits (omega arith) in
    let here = other_epoch k (suc last) a fits (grind arith) in
    omega arith

to_one : (last k a : ℕ) (fits : Bool) → k ≤ last → sum_to last (λ e. cond (eqb e k && fits) a 0) ≡ cond fits a 0
to_one zero k a fits within = this_epoch k 0 a fits (grind arith)
to_one (suc last) k a fits within = ⊎_elim
    (λ is.
    let before = to_past last k a fits (omega arith) in
    let here = this_epoch k (suc last) a fits (grind arith) in
    omega arith)
    (λ apart.
    let before = to_one last k a fits (omega arith) in
    let here = other_epoch k (suc last) a fits (grind arith) in
    omega arith)
    (cases_eq k (suc last))

pub over_zero : (epochs : Epochs) (last : ℕ) (f : ℕ → ℕ) → ((e : ℕ) → f e ≡ 0) → sum_over epochs last f ≡ 0
over_zero All last f none = to_zero last f none
over_zero (One epoch) last f none = none epoch

pub over_add : (epochs : Epochs) (last : ℕ) (f g : ℕ → ℕ) → sum_over epochs last (λ e. f e + g e) ≡ sum_over epochs last f + sum_over epochs last g
over_add All last f g = to_add last f g
over_add (One epoch) last f g = refl

over_one : (epochs : Epochs) (last k a : ℕ) (fits : Bool) → k ≤ last → sum_over epochs last (λ e. cond (eqb e k && fits) a 0) ≡ cond (is_chosen epochs k && fits) a 0
over_one All last k a fits within = to_one last k a fits within
over_one (One epoch) last k a fits within = refl

-- ---- rows

-- no later row is of the place of an earlier one, in any epoch
abbrev pub AreApart : {R : Type 0} → (ℕ → R → Bool) → List R → Type 0
AreApart same [] = Unit {0}
AreApart same (row ∷ rows) = ((e : ℕ) → same e row ≡ true → find (same e) rows ≡ None) × AreApart same rows

-- what is found, as what the first row gives and what is found behind it
pub first_or : {R : Type 0} (F : Option R → ℕ) (row : R) (others : Option R) (b : Bool) → F None ≡ 0 → (b ≡ true → others ≡ None) → F (cond b (Some row) others) ≡ cond b (F (Some row)) 0 + F others
first_or F row others true none apart = let gone : F others ≡ 0 = ap F (apart refl) ∙ none in omega arith
first_or F row others false none apart = omega arith

-- what is found for each epoch, as what each row gives
pub over_rows : {R : Type 0} (epochs : Epochs) (last : ℕ) (epoch_of : R → ℕ) (fits : R → Bool) (F : Option R → ℕ) (rows : List R) → F None ≡ 0 → AllByRecursion (λ row. epoch_of row ≤ last) rows → AreApart (λ e row. eqb e (epoch_of row) && fits row) rows
    → sum_over epochs last (λ e. F (find (λ row. eqb e (epoch_of row) && fits row) rows)) ≡ sum_by (λ row. cond (is_chosen epochs (epoch_of row) && fits row) (F (Some row)) 0) rows
over_rows epochs last epoch_of fits F [] none within apart = over_zero epochs last (λ e. F None) (λ e. none)
over_rows {R} epochs last epoch_of fits F (row ∷ rows) none within apart =
    let same : ℕ → R → Bool = λ e r. eqb e (epoch_of r) && fits r in
    let split : (λ e. F (find (same e) (row ∷ rows))) ≡ (λ e. cond (same e row) (F (Some row)) 0 + F (find (same e) rows)) =
    λ i e. first_or F row (find (same e) rows) (same e row) none (apart.0 e) i in
    ap (sum_over epochs last) split
    ∙ over_add epochs last (λ e. cond (same e row) (F (Some row)) 0) (λ e. F (find (same e) rows))
    ∙ ap (λ n. n + sum_over epochs last (λ e. F (find (same e) rows))) (over_one epochs last (epoch_of row) (F (Some row)) (fits row) within.0)
    ∙ ap (λ n. cond (is_chosen epochs (epoch_of row) && fits row) (F (Some row)) 0 + n) (over_rows epochs last epoch_of fits F rows none within.1 apart.1)
    ∙ sym (sum_by-cons (λ r. cond (is_chosen epochs (epoch_of r) && fits r) (F (Some r)) 0) row rows)
