-- Laws of all formats: exactly one answer, one reading, one first bad place, none begins another; and the steps of readers.
use Rattle.std.proofs.Common.{◌≡◌, ◌≢◌, ℕ, suc, ◌+◌, ◌-◌, ◌<◌, ◌≤◌, true, eqb, List, [], ◌∷◌, ◌++◌, length, drop, Result, Ok, Err, ◌⊎◌, inl, inr, refl, sym, ap, subst, ◌∙◌, arith}
use Rattle.std.proofs.lemmas.Bool.{eqb-true, eqb-false, eq-eqb}
use Rattle.std.proofs.lemmas.List.{append_cancel_right, append_assoc, drop_all, length-drop}
use Rattle.var_bytes.specs.Numbers.{number_bytes, IsBytes}
use Rattle.var_bytes.specs.Forms.{Form, Done, Field, and_then, repeat, Takes, Spells, Follows, IsBadAt}
use Rattle.var_bytes.specs.Reading.{field_at, take_form, ended, read_form, ◌>>=◌}
use Rattle.var_bytes.proofs.NumberLaws.{one_front}
use Rattle.var_bytes.proofs.FieldLaws.{good, ok_is, bind_ok, bind_err, bind_assoc, cases_result, guard_ok, guard_err, field_takes, field_passes, field_again, field_bad}

-- ---- what is read is told by the bytes

pub form_takes : {A : Type 0} (form : Form A) (bytes : List ℕ) (at : ℕ) (x : A × ℕ) → IsBytes bytes → at ≤ length bytes → take_form form bytes at ≡ Ok x → Takes form (drop at bytes) x.0 (drop x.1 bytes) × (x.1 ≤ length bytes)
form_takes {A = A} (Done told) bytes at x fits le e =
    let made : A × ℕ = (told, at) in
    let p = ok_is made x e in
    ((ap (λ (y : A × ℕ). y.0) p, ap (λ (y : A × ℕ). drop y.1 bytes) p), subst (λ (y : A × ℕ). y.1 ≤ length bytes) p le)
form_takes {A = A} (Field test next) bytes at x fits le e =
    let b = bind_ok (field_at test bytes at) (λ y. take_form (next y.0) bytes y.1) x e in
    let t = field_takes test bytes at b.0 fits le b.1 in
    let r = form_takes (next b.0.0) bytes b.0.1 x fits t.within b.2 in
    ((b.0.0, drop b.0.1 bytes, t.is_in, t.front, r.0), r.1)

pub reads_ok : {A : Type 0} (form : Form A) (bytes : List ℕ) (value : A) → IsBytes bytes → read_form form bytes ≡ Ok value → Spells form bytes value
reads_ok {A = A} form bytes value fits e =
    let b = bind_ok (take_form form bytes 0) (ended bytes) value e in
    let g = guard_ok (eqb b.0.1 (length bytes)) b.0.0 value b.0.1 b.2 in
    let t = form_takes form bytes 0 b.0 fits (omega arith) b.1 in
    let nothing : drop b.0.1 bytes ≡ [] = drop_all b.0.1 bytes (omega (arith, eqb-true b.0.1 (length bytes) g.0)) in
    let all : Takes form bytes b.0.0 [] = subst (λ (rest : List ℕ). Takes form bytes b.0.0 rest) nothing t.0 in
    subst (λ (v : A). Takes form bytes v []) g.1 all

-- what is read follows from numbers, whatever the bytes
pub form_follows : {A : Type 0} (form : Form A) (bytes : List ℕ) (at : ℕ) (x : A × ℕ) → take_form form bytes at ≡ Ok x → (numbers : List ℕ) × Follows form numbers x.0 []
form_follows {A = A} (Done told) bytes at x e =
    let made : A × ℕ = (told, at) in
    ([], (ap (λ (y : A × ℕ). y.0) (ok_is made x e), refl))
form_follows {A = A} (Field test next) bytes at x e =
    let b = bind_ok (field_at test bytes at) (λ y. take_form (next y.0) bytes y.1) x e in
    let later = form_follows (next b.0.0) bytes b.0.1 x b.2 in
    (b.0.0 ∷ later.0, (field_passes test bytes at b.0 b.1, later.1))

pub reads_follow : {A : Type 0} (form : Form A) (bytes : List ℕ) (value : A) → read_form form bytes ≡ Ok value → (numbers : List ℕ) × Follows form numbers value []
reads_follow {A = A} form bytes value e =
    let b = bind_ok (take_form form bytes 0) (ended bytes) value e in
    let g = guard_ok (eqb b.0.1 (length bytes)) b.0.0 value b.0.1 b.2 in
    let f = form_follows form bytes 0 b.0 b.1 in
    (f.0, subst (λ (v : A). Follows form f.0 v []) g.1 f.1)

-- ---- what the bytes tell is read

pub record IsReadFrom {A : Type 0} (form : Form A) (bytes : List ℕ) (at : ℕ) (value : A) (rest : List ℕ) : Type 0 where
  pub after : ℕ
  pub read : take_form form bytes at ≡ Ok (value, after)
  pub left : drop after bytes ≡ rest
  pub within : after ≤ length bytes

pub form_again : {A : Type 0} (form : Form A) (bytes : List ℕ) (at : ℕ) (value : A) (rest : List ℕ) → at ≤ length bytes → Takes form (drop at bytes) value rest → IsReadFrom form bytes at value rest
form_again {A = A} (Done told) bytes at value rest le t =
    let read : good (told, at) ≡ good (value, at) = ap (λ (v : A). good (v, at)) t.0 in
    record { after = at; read = read; left = t.1; within = le }
form_again {A = A} (Field test next) bytes at value rest le t =
    let f = field_again test bytes at t.0 t.1 le t.2 t.3 in
    let later : Takes (next t.0) (drop (at + length (number_bytes t.0)) bytes) value rest = subst (λ (b : List ℕ). Takes (next t.0) b value rest) (sym f.left) t.4 in
    let r = form_again (next t.0) bytes (at + length (number_bytes t.0)) value rest f.within later in
    record { after = r.after; read = rw f.read r.read; left = r.left; within = r.within }

pub reads_again : {A : Type 0} (form : Form A) (bytes : List ℕ) (value : A) → Spells form bytes value → read_form form bytes ≡ Ok value
reads_again {A = A} form bytes value t =
    let r = form_again form bytes 0 value [] (omega arith) t in
    let size : length bytes - r.after ≡ 0 = sym (length-drop r.after bytes) ∙ ap length r.left in
    let whole : eqb r.after (length bytes) ≡ true = eq-eqb r.after (length bytes) (omega (arith, r.within)) in
    rw (r.read, whole) refl

-- ---- a failure is the first bad field

pub form_bad : {A : Type 0} (form : Form A) (bytes : List ℕ) (at k : ℕ) → IsBytes bytes → at ≤ length bytes → (take_form form bytes at >>= ended bytes) ≡ Err k → (later : ℕ) × IsBadAt form (drop at bytes) later × (k ≡ at + later)
form_bad {A = A} (Done told) bytes at k fits le e =
    let g = guard_err (eqb at (length bytes)) told at k e in
    let short = eqb-false at (length bytes) g.0 in
    let some : drop at bytes ≢ [] = λ nil. let size : length bytes - at ≡ 0 = sym (length-drop at bytes) ∙ ap length nil in short (omega arith) in
    (0, (some, refl), omega (arith, g.1))
form_bad {A = A} (Field test next) bytes at k fits le e =
    let steps : (field_at test bytes at >>= λ y. take_form (next y.0) bytes y.1 >>= ended bytes) ≡ Err k = sym (bind_assoc (field_at test bytes at) (λ y. take_form (next y.0) bytes y.1) (ended bytes)) ∙ e in
    elim (bind_err (field_at test bytes at) (λ y. take_form (next y.0) bytes y.1 >>= ended bytes) k steps) [
      | inl here ↦ let b = field_bad test bytes at k here in (0, inl (refl, b.1), omega (arith, b.0))
      | inr there ↦
          let t = field_takes test bytes at there.0 fits le there.1 in
          let r = form_bad (next there.0.0) bytes there.0.1 k fits t.within there.2 in
          (length (number_bytes there.0.0) + r.0, inr (there.0.0, drop there.0.1 bytes, t.is_in, t.front, r.0, r.1, refl), omega (arith, r.2, t.moved))
    ]

pub reads_err : {A : Type 0} (form : Form A) (bytes : List ℕ) (at : ℕ) → IsBytes bytes → read_form form bytes ≡ Err at → IsBadAt form bytes at
reads_err form bytes at fits e =
    let b = form_bad form bytes 0 at fits (omega arith) e in
    subst (λ (k : ℕ). IsBadAt form bytes k) (let same : b.0 ≡ at = omega (arith, b.2) in same) b.1

-- ---- laws of spellings

pub IsBadAt-same : {A : Type 0} (next : ℕ → Form A) (m n : ℕ) (x y : List ℕ) (at : ℕ) → m ≡ n → x ≡ y → IsBadAt (next m) x at → IsBadAt (next n) y at
IsBadAt-same {A = A} next m n x y at p q b = subst (λ (k : ℕ). IsBadAt (next k) y at) p (subst (λ (t : List ℕ). IsBadAt (next m) t at) q b)

pub not_both : {A : Type 0} (form : Form A) (bytes : List ℕ) (value : A) (at : ℕ) → Takes form bytes value [] → IsBadAt form bytes at → ⊥
not_both (Done told) bytes value at t b = b.0 t.1
not_both (Field test next) bytes value at t (inl here) = here.1 t.0 t.1 t.2 t.3
not_both {A = A} (Field test next) bytes value at t (inr there) =
    let same = one_front t.0 there.0 t.1 there.1 t.2.wide there.2.wide (sym t.3 ∙ there.3) in
    let bad : IsBadAt (next t.0) t.1 there.4 = IsBadAt-same next there.0 t.0 there.1 t.1 there.4 (sym same.0) (sym same.1) there.5 in
    not_both (next t.0) t.1 value there.4 t.4 bad

pub one_place : {A : Type 0} (form : Form A) (bytes : List ℕ) (i j : ℕ) → IsBadAt form bytes i → IsBadAt form bytes j → i ≡ j
one_place (Done told) bytes i j a b = a.1 ∙ sym b.1
one_place (Field test next) bytes i j (inl a) (inl b) = a.0 ∙ sym b.0
one_place (Field test next) bytes i j (inl a) (inr b) = absurd (a.1 b.0 b.1 b.2 b.3)
one_place (Field test next) bytes i j (inr a) (inl b) = absurd (b.1 a.0 a.1 a.2 a.3)
one_place {A = A} (Field test next) bytes i j (inr a) (inr b) =
    let same = one_front a.0 b.0 a.1 b.1 a.2.wide b.2.wide (sym a.3 ∙ b.3) in
    let bad : IsBadAt (next a.0) a.1 b.4 = IsBadAt-same next b.0 a.0 b.1 a.1 b.4 (sym same.0) (sym same.1) b.5 in
    let later = one_place (next a.0) a.1 a.4 b.4 a.5 bad in
    let size : length (number_bytes a.0) ≡ length (number_bytes b.0) = ap (λ (n : ℕ). length (number_bytes n)) same.0 in
    omega (arith, a.6, b.6, later, size)

-- two fronts of the same bytes tell the same value and leave the same rest
pub one_front_of : {A : Type 0} (form : Form A) (a b x y r s : List ℕ) (v w : A) → Takes form a v r → Takes form b w s → a ++ x ≡ b ++ y → (v ≡ w) × (r ++ x ≡ s ++ y)
one_front_of (Done told) a b x y r s v w p q e = (sym p.0 ∙ q.0, ap (λ (t : List ℕ). t ++ x) (sym p.1) ∙ e ∙ ap (λ (t : List ℕ). t ++ y) q.1)
one_front_of {A = A} (Field test next) a b x y r s v w p q e =
    let fronts : number_bytes p.0 ++ (p.1 ++ x) ≡ number_bytes q.0 ++ (q.1 ++ y) = sym (append_assoc (number_bytes p.0) p.1 x) ∙ ap (λ (t : List ℕ). t ++ x) (sym p.3) ∙ e ∙ ap (λ (t : List ℕ). t ++ y) q.3 ∙ append_assoc (number_bytes q.0) q.1 y in
    let same = one_front p.0 q.0 (p.1 ++ x) (q.1 ++ y) p.2.wide q.2.wide fronts in
    let later : Takes (next p.0) q.1 w s = subst (λ (n : ℕ). Takes (next n) q.1 w s) (sym same.0) q.4 in
    one_front_of (next p.0) p.1 q.1 x y r s v w p.4 later same.1

pub none_begins : {A : Type 0} (form : Form A) (a b x y : List ℕ) (v w : A) → Spells form a v → Spells form b w → a ++ x ≡ b ++ y → (a ≡ b) × (v ≡ w)
none_begins form a b x y v w p q e =
    let both = one_front_of form a b x y [] [] v w p q e in
    (append_cancel_right a b y (ap (λ (t : List ℕ). a ++ t) (sym both.1) ∙ e), both.0)

pub one_value : {A : Type 0} (form : Form A) (bytes : List ℕ) (v w : A) → Spells form bytes v → Spells form bytes w → v ≡ w
one_value form bytes v w p q = (none_begins form bytes bytes [] [] v w p q refl).1

pub one_answer : {A : Type 0} (form : Form A) (bytes : List ℕ) → IsBytes bytes → ((v : A) × Spells form bytes v) ⊎ ((at : ℕ) × IsBadAt form bytes at)
one_answer form bytes fits =
    elim (cases_result (read_form form bytes)) [
      | inl good ↦ inl (good.0, reads_ok form bytes good.0 fits good.1)
      | inr bad ↦ inr (bad.0, reads_err form bytes bad.0 fits bad.1)
    ]

-- ---- one format after the other, and repetitions

pub take_and_then : {A B : Type 0} (form : Form A) (next : A → Form B) (bytes : List ℕ) (at : ℕ) → take_form (and_then form next) bytes at ≡ (take_form form bytes at >>= λ x. take_form (next x.0) bytes x.1)
take_and_then (Done told) next bytes at = refl
take_and_then {A = A} {B = B} (Field test others) next bytes at =
    elim (cases_result (field_at test bytes at)) [
      | inl good ↦ rw good.1 (take_and_then (others good.0.0) next bytes good.0.1)
      | inr bad ↦ rw bad.1 refl
    ]

-- an item of a repetition was read
pub repeat_goes_on : {A : Type 0} (item : List A → Form A) (count i : ℕ) (front : List A) (bytes : List ℕ) (at : ℕ) (x : A) (after : ℕ) (total : Result (List A × ℕ) ℕ) → i < count → take_form (item front) bytes at ≡ Ok (x, after)
    → take_form (repeat item (count - i) front) bytes at ≡ total → take_form (repeat item (count - (i + 1)) (front ++ x ∷ [])) bytes after ≡ total
repeat_goes_on {A = A} item count i front bytes at x after total lt here so_far =
    let k : count - i ≡ suc (count - (i + 1)) = omega arith in
    let step : take_form (repeat item (count - i) front) bytes at ≡ take_form (repeat item (count - (i + 1)) (front ++ x ∷ [])) bytes after =
    ap (λ (j : ℕ). take_form (repeat item j front) bytes at) k ∙ take_and_then (item front) (λ y. repeat item (count - (i + 1)) (front ++ y ∷ [])) bytes at ∙ rw here refl in
    sym step ∙ so_far

-- an item of a repetition is bad
pub repeat_ends : {A : Type 0} (item : List A → Form A) (count i : ℕ) (front : List A) (bytes : List ℕ) (at k : ℕ) (total : Result (List A × ℕ) ℕ) → i < count → take_form (item front) bytes at ≡ Err k
    → take_form (repeat item (count - i) front) bytes at ≡ total → total ≡ Err k
repeat_ends {A = A} item count i front bytes at k total lt here so_far =
    let more : count - i ≡ suc (count - (i + 1)) = omega arith in
    let step : take_form (repeat item (count - i) front) bytes at ≡ Err k =
    ap (λ (j : ℕ). take_form (repeat item j front) bytes at) more ∙ take_and_then (item front) (λ y. repeat item (count - (i + 1)) (front ++ y ∷ [])) bytes at ∙ rw here refl in
    sym so_far ∙ step

-- all items of a repetition are read
pub repeat_done : {A : Type 0} (item : List A → Form A) (count i : ℕ) (front : List A) (bytes : List ℕ) (at : ℕ) (total : Result (List A × ℕ) ℕ) → count ≤ i → take_form (repeat item (count - i) front) bytes at ≡ total → total ≡ Ok (front, at)
repeat_done {A = A} item count i front bytes at total le so_far =
    let none : count - i ≡ 0 = omega arith in
    sym so_far ∙ ap (λ (j : ℕ). take_form (repeat item j front) bytes at) none
