-- One field: what is read is a number that passes its test, what stands there is read, and a failure says that none stands there.
use Rattle.std.proofs.Common.{◌≡◌, ℕ, ◌+◌, ◌^◌, ◌<◌, ◌≤◌, Bool, true, false, cond, leb, List, ◌++◌, length, take, drop, Option, Some, None, Result, Ok, Err, ◌⊎◌, inl, inr, refl, sym, ap, subst, ◌∙◌, arith}
use Rattle.std.proofs.lemmas.Bool.{and_parts, and_from, leb-true, le-leb}
use Rattle.std.proofs.lemmas.List.{take-append-drop, drop-drop, drop_at, length-drop, length-append, length-take-le}
use Rattle.var_bytes.specs.Numbers.{number_bytes, IsBytes}
use Rattle.var_bytes.specs.Forms.{IsIn, between}
use Rattle.var_bytes.specs.Reading.{number_at, meeting, field_at, ◌>>=◌}
use Rattle.var_bytes.proofs.NumberLaws.{IsBytes-drop, number_is, number_narrow, number_again}

-- answers with their types written out
abbrev pub good : {A : Type 0} → A → Result A ℕ
good x = Ok x

abbrev pub bad_at : {A : Type 0} → ℕ → Result A ℕ
bad_at at = Err at

pub ok_is : {A : Type 0} (x y : A) → good x ≡ good y → x ≡ y
ok_is x y e = cc

pub err_is : {A : Type 0} (j k : ℕ) → bad_at {A = A} j ≡ bad_at {A = A} k → j ≡ k
err_is j k e = cc

pub not_bad : {A : Type 0} (x : A) (k : ℕ) → good x ≡ bad_at k → ⊥
not_bad x k e = cc

-- a step that gave something
pub bind_ok : {A B : Type 0} (r : Result A ℕ) (f : A → Result B ℕ) (y : B) → (r >>= f) ≡ Ok y → (x : A) × (r ≡ Ok x) × (f x ≡ Ok y)
bind_ok (Ok x) f y e = (x, refl, e)
bind_ok {B = B} (Err k) f y e = absurd (not_bad y k (sym e))

-- steps that failed: the first of them, or the second
pub bind_err : {A B : Type 0} (r : Result A ℕ) (f : A → Result B ℕ) (k : ℕ) → (r >>= f) ≡ Err k → (r ≡ Err k) ⊎ ((x : A) × (r ≡ Ok x) × (f x ≡ Err k))
bind_err (Ok x) f k e = inr (x, refl, e)
bind_err {A = A} {B = B} (Err j) f k e = inl (ap (λ (i : ℕ). bad_at {A = A} i) (err_is {A = B} j k e))

pub bind_assoc : {A B C : Type 0} (r : Result A ℕ) (f : A → Result B ℕ) (g : B → Result C ℕ) → ((r >>= f) >>= g) ≡ (r >>= λ x. f x >>= g)
bind_assoc (Ok x) f g = refl
bind_assoc (Err k) f g = refl

pub cases_result : {A : Type 0} (r : Result A ℕ) → ((x : A) × (r ≡ Ok x)) ⊎ ((k : ℕ) × (r ≡ Err k))
cases_result (Ok x) = inl (x, refl)
cases_result (Err k) = inr (k, refl)

-- a test that passed, or failed
pub guard_ok : {A : Type 0} (b : Bool) (x y : A) (k : ℕ) → cond b (Ok x) (Err k) ≡ Ok y → (b ≡ true) × (x ≡ y)
guard_ok true x y k e = (refl, ok_is x y e)
guard_ok false x y k e = absurd (not_bad y k (sym e))

pub guard_err : {A : Type 0} (b : Bool) (x : A) (k j : ℕ) → cond b (Ok x) (Err k) ≡ Err j → (b ≡ false) × (k ≡ j)
guard_err true x k j e = absurd (not_bad x j e)
guard_err {A = A} false x k j e = (refl, err_is {A = A} k j e)

-- ---- tests

pub between_is : (low high n : ℕ) → between low high n ≡ true → (low ≤ n) × (n ≤ high)
between_is low high n t = let p = and_parts (leb low n) (leb n high) t in (leb-true low n p.0, leb-true n high p.1)

pub is_between : (low high n : ℕ) → low ≤ n → n ≤ high → high < 2 ^ 64 → IsIn (between low high) n
is_between low high n least most wide = record { meets = and_from (leb low n) (leb n high) (le-leb low n least) (le-leb n high most); wide = omega arith }

-- ---- a field

meeting_ok : (test : ℕ → Bool) (at : ℕ) (o : Option (ℕ × ℕ)) (y : ℕ × ℕ) → meeting test at o ≡ Ok y → (x : ℕ × ℕ) × (o ≡ Some x) × (test x.0 ≡ true) × (x.0 ≡ y.0) × (at + x.1 ≡ y.1)
meeting_ok test at None y e = absurd (not_bad y at (sym e))
meeting_ok test at (Some x) y e =
    let g = guard_ok (test x.0) (x.0, at + x.1) y at e in
    (x, refl, g.0, ap (λ (p : ℕ × ℕ). p.0) g.1, ap (λ (p : ℕ × ℕ). p.1) g.1)

none_is : (x : ℕ × ℕ) → None ≡ Some x → ⊥
none_is x e = cc

some_same : (x y : ℕ × ℕ) → Some x ≡ Some y → x ≡ y
some_same x y e = cc

-- The index of a failure, and what follows where a number stands there after all: it does not pass the test.
meeting_err : (test : ℕ → Bool) (at : ℕ) (o : Option (ℕ × ℕ)) (k : ℕ) → meeting test at o ≡ Err k → (k ≡ at) × ((x : ℕ × ℕ) → o ≡ Some x → test x.0 ≡ false)
meeting_err test at None k e = (err_is {A = ℕ × ℕ} k at (sym e), λ x some. absurd (none_is x some))
meeting_err test at (Some y) k e =
    let g = guard_err (test y.0) (y.0, at + y.1) at k e in
    (sym g.1, λ x some. subst (λ (q : ℕ × ℕ). test q.0 ≡ false) (some_same y x some) g.0)

-- a number was taken at an index
pub record IsTaken (test : ℕ → Bool) (bytes : List ℕ) (at n after : ℕ) : Type 0 where
  pub is_in : IsIn test n
  pub front : drop at bytes ≡ number_bytes n ++ drop after bytes
  pub within : after ≤ length bytes
  pub moved : after ≡ at + length (number_bytes n)

taken : (test : ℕ → Bool) (bytes : List ℕ) (at n len : ℕ) → at ≤ length bytes → test n ≡ true → n < 2 ^ 64 → take len (drop at bytes) ≡ number_bytes n → len ≤ length (drop at bytes) → IsTaken test bytes at n (at + len)
taken test bytes at n len le meets wide front short =
    let size : length (take len (drop at bytes)) ≡ len = length-take-le len (drop at bytes) short in
    let whole : take len (drop at bytes) ++ drop len (drop at bytes) ≡ drop at bytes = take-append-drop len (drop at bytes) in
    record {
      is_in = record { meets = meets; wide = wide };
      front = sym whole ∙ ap (λ (t : List ℕ). t ++ drop len (drop at bytes)) front ∙ ap (λ (t : List ℕ). number_bytes n ++ t) (drop-drop len at bytes);
      within = omega (arith, length-drop at bytes);
      moved = ap (λ (k : ℕ). at + k) (sym size ∙ ap length front);
    }

pub field_takes : (test : ℕ → Bool) (bytes : List ℕ) (at : ℕ) (x : ℕ × ℕ) → IsBytes bytes → at ≤ length bytes → field_at test bytes at ≡ Ok x → IsTaken test bytes at x.0 x.1
unfolding field_at
field_takes test bytes at x fits le e =
    let m = meeting_ok test at (number_at (drop at bytes)) x e in
    let p = number_is (drop at bytes) m.0 (IsBytes-drop at bytes fits) m.1 in
    subst (λ (k : ℕ). IsTaken test bytes at x.0 k) m.4 (subst (λ (k : ℕ). IsTaken test bytes at k (at + m.0.1)) m.3 (taken test bytes at m.0.0 m.0.1 le m.2 p.wide p.front p.within))

-- what stands at an index is read
pub record IsReadAgain (test : ℕ → Bool) (bytes : List ℕ) (at n : ℕ) (more : List ℕ) : Type 0 where
  pub read : field_at test bytes at ≡ Ok (n, at + length (number_bytes n))
  pub left : drop (at + length (number_bytes n)) bytes ≡ more
  pub within : at + length (number_bytes n) ≤ length bytes

pub field_again : (test : ℕ → Bool) (bytes : List ℕ) (at n : ℕ) (more : List ℕ) → at ≤ length bytes → IsIn test n → drop at bytes ≡ number_bytes n ++ more → IsReadAgain test bytes at n more
unfolding field_at
field_again test bytes at n more le is_in e =
    let number : number_at (drop at bytes) ≡ Some (n, length (number_bytes n)) = ap number_at e ∙ number_again n more is_in.wide in
    let size : length (drop at bytes) ≡ length (number_bytes n) + length more = ap length e ∙ length-append (number_bytes n) more in
    record {
      read = rw (number, is_in.meets) refl;
      left = sym (drop-drop (length (number_bytes n)) at bytes) ∙ ap (drop (length (number_bytes n))) e ∙ drop_at (number_bytes n) more (length (number_bytes n)) refl;
      within = omega (arith, size, length-drop at bytes);
    }

true_is : true ≡ false → ⊥
true_is e = cc

-- where none is read, none stands
pub field_bad : (test : ℕ → Bool) (bytes : List ℕ) (at k : ℕ) → field_at test bytes at ≡ Err k → (k ≡ at) × ((n : ℕ) (more : List ℕ) → IsIn test n → drop at bytes ≡ number_bytes n ++ more → ⊥)
unfolding field_at
field_bad test bytes at k e =
    let m = meeting_err test at (number_at (drop at bytes)) k e in
    (m.0, λ n more is_in front. true_is (sym is_in.meets ∙ m.1 (n, length (number_bytes n)) (ap number_at front ∙ number_again n more is_in.wide)))

-- what is read passes the test, whatever stands there
pub field_passes : (test : ℕ → Bool) (bytes : List ℕ) (at : ℕ) (x : ℕ × ℕ) → field_at test bytes at ≡ Ok x → IsIn test x.0
unfolding field_at
field_passes test bytes at x e =
    let m = meeting_ok test at (number_at (drop at bytes)) x e in
    subst (λ (n : ℕ). IsIn test n) m.3 (record { meets = m.2; wide = number_narrow (drop at bytes) m.0 m.1 })
