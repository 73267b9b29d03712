-- What a reader answers that gives what a format reads: the clauses of every reader.
use Rattle.std.proofs.Common.{◌≡◌, ℕ, List, Result, Ok, Err, ◌⊎◌, inl, inr, refl, sym, ap, subst, ◌∙◌}
use Rattle.std.specs.Prelude.{IfOk}
use Rattle.var_bytes.specs.Numbers.{IsBytes}
use Rattle.var_bytes.specs.Forms.{Form, Spells, IsBadAt}
use Rattle.var_bytes.specs.Reading.{read_form}
use Rattle.var_bytes.specs.declared.errors.FormError.{FormError}
use Rattle.var_bytes.specs.declared.errors.FormError.TheVariants.{Bad, Memory}
use Rattle.var_bytes.specs.Answers.{Gives}
use Rattle.var_bytes.proofs.FieldLaws.{ok_is, not_bad}
use Rattle.var_bytes.proofs.FormLaws.{reads_ok, reads_again, reads_err, not_both, one_place}

-- answers with their types written out
abbrev answer_of : {A : Type 0} → A → Result A FormError
answer_of value = Ok value

abbrev failure_at : {A : Type 0} → ℕ → Result A FormError
failure_at at = Err (Bad at)

-- what is read is what the bytes tell
pub is_found : {A : Type 0} (form : Form A) (bytes : List ℕ) (r : Result A FormError) → IsBytes bytes → Gives (λ v. v) r (read_form form bytes) → IfOk r (λ v. Spells form bytes v)
is_found form bytes (Ok v) fits given = reads_ok form bytes v fits given
is_found form bytes (Err e) fits given = tt

-- what the bytes tell is read
pub is_only : {A : Type 0} (form : Form A) (bytes : List ℕ) (r : Result A FormError) → Gives (λ v. v) r (read_form form bytes) → (value : A) → Spells form bytes value → (r ≡ Err Memory) ⊎ (r ≡ Ok value)
is_only {A = A} form bytes (Ok v) given value told =
    let same : v ≡ value = ok_is v value (sym given ∙ reads_again form bytes value told) in
    inr (ap (λ (w : A). answer_of w) same)
is_only form bytes (Err Memory) given value told = inl refl
is_only form bytes (Err (Bad at)) given value told = absurd (not_bad value at (sym (reads_again form bytes value told) ∙ given))

-- a bad place is that of the first bad field
pub is_bad : {A : Type 0} (form : Form A) (bytes : List ℕ) (r : Result A FormError) → IsBytes bytes → Gives (λ v. v) r (read_form form bytes) → (at : ℕ) → r ≡ Err (Bad at) → IsBadAt form bytes at
is_bad {A = A} form bytes r fits given at e = reads_err form bytes at fits (subst (λ (s : Result A FormError). Gives (λ v. v) s (read_form form bytes)) e given)

-- the first bad field is answered
pub is_refused : {A : Type 0} (form : Form A) (bytes : List ℕ) (r : Result A FormError) → IsBytes bytes → Gives (λ v. v) r (read_form form bytes) → (at : ℕ) → IsBadAt form bytes at → (r ≡ Err Memory) ⊎ (r ≡ Err (Bad at))
is_refused form bytes (Ok v) fits given at bad = absurd (not_both form bytes v at (reads_ok form bytes v fits given) bad)
is_refused form bytes (Err Memory) fits given at bad = inl refl
is_refused {A = A} form bytes (Err (Bad k)) fits given at bad =
    let same : k ≡ at = one_place form bytes k at (reads_err form bytes k fits given) bad in
    inr (ap (λ (j : ℕ). failure_at {A = A} j) same)
