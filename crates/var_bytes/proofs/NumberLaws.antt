-- Numbers in groups of seven bits: what is read is spelled so, and what is spelled so is read.
use Rattle.std.proofs.Common.{◌≡◌, ℕ, zero, suc, ◌+◌, ◌*◌, ◌-◌, ◌/◌, ◌%◌, ◌^◌, ◌<◌, ◌≤◌, List, [], ◌∷◌, ◌++◌, length, get_or, take, drop, Option, Some, None, Result, inl, inr, refl, sym, ap, subst, ◌∙◌, append_assoc, arith, mul_comm}
use Rattle.std.specs.Prelude.{IfOk, IfErr}
use Rattle.std.specs.Option.{ok_or}
use Rattle.std.proofs.lemmas.Bool.{cases_lt, cases_eq, lt-ltb, le-ltb, ne_eqb, eq-eqb}
use Rattle.std.proofs.lemmas.List.{append_cancel_left, get_or-drop, drop_more, drop_all, append-nil}
use Rattle.std.proofs.lemmas.Option.{none-some}
use Rattle.std.proofs.Math.Nat.{mul-le-mul_left}
use Rattle.var_bytes.specs.Numbers.{groups, number_bytes, IsBytes}
use Rattle.var_bytes.specs.Reading.{joined, wide_at, narrow, number_at}

-- the least number that has no spelling with at most `more` bytes behind the first, where the last byte is 1 at most
abbrev pub bound : ℕ → ℕ
bound zero = 2
bound (suc more) = 128 * bound more

pub some_is : {A : Type 0} (x y : A) → Some x ≡ Some y → x ≡ y
some_is x y e = cc

-- a number of one group
pub groups-small : (more n : ℕ) → n < 128 → groups more n ≡ n ∷ []
unfolding groups
groups-small zero n lt = refl
groups-small (suc more) n lt = rw (lt-ltb n 128 lt) refl

-- a number of several groups
pub groups-large : (more n : ℕ) → 128 ≤ n → groups (suc more) n ≡ (128 + n % 128) ∷ groups more (n / 128)
unfolding groups
groups-large more n le = rw (le-ltb n 128 le) refl

-- ---- reading what was written

pub wide_at-small : (b : ℕ) (bytes : List ℕ) → b < 128 → wide_at (b ∷ bytes) ≡ Some (b, 1)
unfolding wide_at
wide_at-small b bytes lt = rw (lt-ltb b 128 lt) refl

pub wide_at-large : (b : ℕ) (bytes : List ℕ) → 128 ≤ b → wide_at (b ∷ bytes) ≡ joined (b - 128) 128 1 (wide_at bytes)
unfolding wide_at
wide_at-large b bytes le = rw (le-ltb b 128 le) refl

joined-some : (value scale len high more : ℕ) → (high ≡ 0 → ⊥) → joined value scale len (Some (high, more)) ≡ Some (value + scale * high, len + more)
joined-some value scale len high more ne = rw (ne_eqb high 0 ne) refl

pub read_again : (more n : ℕ) (rest : List ℕ) → n < bound more → wide_at (groups more n ++ rest) ≡ Some (n, length (groups more n))
read_again zero n rest lt =
    let small : n < 128 = omega arith in
    let e = groups-small zero n small in
    rw (e, wide_at-small n rest small) refl
read_again (suc more) n rest lt =
    elim (cases_lt n 128) [
      | inl small ↦ let e = groups-small (suc more) n small in rw (e, wide_at-small n rest small) refl
      | inr large ↦
          let e = groups-large more n large in
          let high : n / 128 < bound more = omega arith in
          let some : n / 128 ≡ 0 → ⊥ = λ z. omega arith in
          let back : wide_at (groups more (n / 128) ++ rest) ≡ Some (n / 128, length (groups more (n / 128))) = read_again more (n / 128) rest high in
          let low : 128 + n % 128 - 128 ≡ n % 128 = omega arith in
          let whole : n % 128 + 128 * (n / 128) ≡ n = omega arith in
          rw (e, wide_at-large (128 + n % 128) (groups more (n / 128) ++ rest) (omega arith), back, low, joined-some (n % 128) 128 1 (n / 128) (length (groups more (n / 128))) some, whole)
          (ap (λ (k : ℕ). Some (n, k)) (omega arith))
    ]

-- ---- what is read is spelled so

joined_is : (value scale len : ℕ) (o : Option (ℕ × ℕ)) (x : ℕ × ℕ) → joined value scale len o ≡ Some x → (high : ℕ × ℕ) × (o ≡ Some high) × (high.0 ≡ 0 → ⊥) × (x.0 ≡ value + scale * high.0) × (x.1 ≡ len + high.1)
joined_is value scale len None x e = absurd cc
joined_is value scale len (Some high) x e =
    elim (cases_eq high.0 0) [
      | inl z ↦ let f = rw (eq-eqb high.0 0 z) at e in absurd cc
      | inr nz ↦
          let f : Some (value + scale * high.0, len + high.1) ≡ Some x = rw (ne_eqb high.0 0 nz) at e in
          let p = some_is (value + scale * high.0, len + high.1) x f in
          (high, refl, nz, ap (λ (q : ℕ × ℕ). q.0) (sym p), ap (λ (q : ℕ × ℕ). q.1) (sym p))
    ]

IsBytes-rest : (b : ℕ) (bytes : List ℕ) → IsBytes (b ∷ bytes) → IsBytes bytes
IsBytes-rest b bytes fits i = fits (suc i)

pub IsBytes-drop : (n : ℕ) (bytes : List ℕ) → IsBytes bytes → IsBytes (drop n bytes)
IsBytes-drop n bytes fits i = rw get_or-drop (fits (n + i))

spelled_large : (b : ℕ) (bytes : List ℕ) (more : ℕ) (x high : ℕ × ℕ) → IsBytes (b ∷ bytes) → 128 ≤ b → (high.0 ≡ 0 → ⊥) → x.0 ≡ b - 128 + 128 * high.0 → x.1 ≡ 1 + high.1 → x.0 < bound more
    → ((less : ℕ) → high.0 < bound less → (take high.1 bytes ≡ groups less high.0) × (high.1 ≤ length bytes)) → (take x.1 (b ∷ bytes) ≡ groups more x.0) × (x.1 ≤ length (b ∷ bytes))
spelled_large b bytes zero x high fits large nz value len lt back = absurd (omega arith)
spelled_large b bytes (suc more) x high fits large nz value len lt back =
    let byte : b < 256 = fits 0 in
    let back_here = back more (omega arith) in
    let front : take high.1 bytes ≡ groups more high.0 = back_here.0 in
    let short : high.1 ≤ length bytes = back_here.1 in
    let quotient : x.0 / 128 ≡ high.0 = omega arith in
    let remainder : 128 + x.0 % 128 ≡ b = omega arith in
    let long : x.1 ≡ suc high.1 = omega arith in
    let text : groups (suc more) x.0 ≡ b ∷ groups more high.0 = rw (groups-large more x.0 (omega arith), quotient, remainder) refl in
    (rw (long, text, front) refl, rw long (omega arith))

nothing : (x : ℕ × ℕ) → wide_at [] ≡ Some x → ⊥
unfolding wide_at
nothing x e = cc

pub spelled : (bytes : List ℕ) (more : ℕ) (x : ℕ × ℕ) → IsBytes bytes → wide_at bytes ≡ Some x → x.0 < bound more → (take x.1 bytes ≡ groups more x.0) × (x.1 ≤ length bytes)
spelled [] more x fits e lt = absurd (nothing x e)
spelled (b ∷ bytes) more x fits e lt =
    elim (cases_lt b 128) [
      | inl small ↦
          let f : Some (b, 1) ≡ Some x = sym (wide_at-small b bytes small) ∙ e in
          let p = some_is (b, 1) x f in
          subst (λ (q : ℕ × ℕ). (take q.1 (b ∷ bytes) ≡ groups more q.0) × (q.1 ≤ length (b ∷ bytes))) p (sym (groups-small more b small), omega arith)
      | inr large ↦
          let f : joined (b - 128) 128 1 (wide_at bytes) ≡ Some x = sym (wide_at-large b bytes large) ∙ e in
          let j = joined_is (b - 128) 128 1 (wide_at bytes) x f in
          spelled_large b bytes more x j.0 fits large j.2 j.3 j.4 lt (λ less h. spelled bytes less j.0 (IsBytes-rest b bytes fits) j.1 h)
    ]

narrow_is : (o : Option (ℕ × ℕ)) (x : ℕ × ℕ) → narrow o ≡ Some x → (o ≡ Some x) × (x.0 < 2 ^ 64)
narrow_is None x e = absurd cc
narrow_is (Some y) x e =
    elim (cases_lt y.0 (2 ^ 64)) [
      | inl lt ↦
          let f : Some y ≡ Some x = rw (lt-ltb y.0 (2 ^ 64) lt) at e in
          (f, subst (λ (q : ℕ × ℕ). q.0 < 2 ^ 64) (some_is y x f) lt)
      | inr le ↦ let f : None ≡ Some x = rw (le-ltb y.0 (2 ^ 64) le) at e in absurd cc
    ]

-- ---- numbers below 2 ^ 64

pub number_again : (n : ℕ) (rest : List ℕ) → n < 2 ^ 64 → number_at (number_bytes n ++ rest) ≡ Some (n, length (number_bytes n))
unfolding number_at number_bytes
number_again n rest lt = rw (read_again 9 n rest lt, lt-ltb n (2 ^ 64) lt) refl

pub record IsNumber (bytes : List ℕ) (n len : ℕ) : Type 0 where
  pub wide : n < 2 ^ 64
  pub front : take len bytes ≡ number_bytes n
  pub within : len ≤ length bytes

pub number_is : (bytes : List ℕ) (x : ℕ × ℕ) → IsBytes bytes → number_at bytes ≡ Some x → IsNumber bytes x.0 x.1
unfolding number_at number_bytes
number_is bytes x fits e =
    let p = narrow_is (wide_at bytes) x e in
    let q = spelled bytes 9 x fits p.0 p.1 in
    record { wide = p.1; front = q.0; within = q.1 }

pub number_narrow : (bytes : List ℕ) (x : ℕ × ℕ) → number_at bytes ≡ Some x → x.0 < 2 ^ 64
unfolding number_at
number_narrow bytes x e = (narrow_is (wide_at bytes) x e).1

pub number_none : (bytes : List ℕ) → number_at bytes ≡ None → (n : ℕ) (more : List ℕ) → n < 2 ^ 64 → bytes ≡ number_bytes n ++ more → ⊥
number_none bytes none n more lt e = none-some (n, length (number_bytes n)) (sym none ∙ ap number_at e ∙ number_again n more lt)

-- no number's spelling begins another's
pub one_front : (m n : ℕ) (x y : List ℕ) → m < 2 ^ 64 → n < 2 ^ 64 → number_bytes m ++ x ≡ number_bytes n ++ y → (m ≡ n) × (x ≡ y)
one_front m n x y wide-m wide-n e =
    let p : Some (m, length (number_bytes m)) ≡ Some (n, length (number_bytes n)) = sym (number_again m x wide-m) ∙ ap number_at e ∙ number_again n y wide-n in
    let same : m ≡ n = ap (λ (q : ℕ × ℕ). q.0) (some_is (m, length (number_bytes m)) (n, length (number_bytes n)) p) in
    (same, append_cancel_left (number_bytes m) x y (e ∙ ap (λ (k : ℕ). number_bytes k ++ y) (sym same)))

-- what `take_number` answers
pub is_found : {E : Type 0} (bytes : List ℕ) (o : Option (ℕ × ℕ)) (r : Result (ℕ × ℕ) E) (e : E) → IsBytes bytes → o ≡ number_at bytes → r ≡ ok_or o e → IfOk r (λ x. (x.1 ≤ length bytes) × (take x.1 bytes ≡ number_bytes x.0))
is_found bytes None r e fits value or = rw or tt
is_found bytes (Some x) r e fits value or = let p = number_is bytes x fits (sym value) in rw or (p.within, p.front)

pub is_bad : {E : Type 0} (bytes : List ℕ) (o : Option (ℕ × ℕ)) (r : Result (ℕ × ℕ) E) (e : E) → o ≡ number_at bytes → r ≡ ok_or o e → IfErr r (λ e. (n : ℕ) (more : List ℕ) → n < 2 ^ 64 → bytes ≡ number_bytes n ++ more → ⊥)
is_bad bytes None r e value or = rw or (number_none bytes (sym value))
is_bad bytes (Some x) r e value or = rw or tt

-- ---- the loop that reads

distribute : (v s d h : ℕ) → v + s * (d + 128 * h) ≡ v + d * s + s * 128 * h
distribute v s d h = omega arith

pub joined_again : (v s len b : ℕ) (o : Option (ℕ × ℕ)) → joined v s len (joined (b - 128) 128 1 o) ≡ joined (v + (b - 128) * s) (s * 128) (len + 1) o
joined_again v s len b None = refl
joined_again v s len b (Some high) =
    elim (cases_eq high.0 0) [
      | inl z ↦ rw (eq-eqb high.0 0 z) refl
      | inr nz ↦
          let not_zero : b - 128 + 128 * high.0 ≡ 0 → ⊥ = λ z. omega arith in
          let longer : len + (1 + high.1) ≡ len + 1 + high.1 = omega arith in
          rw (ne_eqb high.0 0 nz, ne_eqb (b - 128 + 128 * high.0) 0 not_zero, distribute v s (b - 128) high.0, longer) refl
    ]

-- a part of more than 64 bits
pub past : (v s len : ℕ) (o : Option (ℕ × ℕ)) → 2 ^ 64 ≤ v + s → narrow (joined v s len o) ≡ None
past v s len None big = refl
past v s len (Some high) big =
    elim (cases_eq high.0 0) [
      | inl z ↦ rw (eq-eqb high.0 0 z) refl
      | inr nz ↦
          let more : s * 1 ≤ s * high.0 = mul-le-mul_left s (omega arith) in
          rw (ne_eqb high.0 0 nz, le-ltb (v + s * high.0) (2 ^ 64) (omega arith)) refl
    ]

-- a byte that is not the last
pub goes_on : (v s len i : ℕ) (bytes : List ℕ) (total : Option (ℕ × ℕ)) → i < length bytes → 128 ≤ get_or bytes i 0 → narrow (joined v s len (wide_at (drop i bytes))) ≡ total
    → narrow (joined (v + (get_or bytes i 0 - 128) * s) (s * 128) (len + 1) (wide_at (drop (i + 1) bytes))) ≡ total
goes_on v s len i bytes total lt large so_far =
    let step : wide_at (drop i bytes) ≡ joined (get_or bytes i 0 - 128) 128 1 (wide_at (drop (i + 1) bytes)) = ap wide_at (drop_more bytes i 0 lt) ∙ wide_at-large (get_or bytes i 0) (drop (i + 1) bytes) large in
    sym (ap (λ (o : Option (ℕ × ℕ)). narrow (joined v s len o)) step ∙ ap narrow (joined_again v s len (get_or bytes i 0) (wide_at (drop (i + 1) bytes)))) ∙ so_far

-- a byte that is not the last, of which no room is left
pub goes_past : (v s len i : ℕ) (bytes : List ℕ) (total : Option (ℕ × ℕ)) → i < length bytes → 128 ≤ get_or bytes i 0 → 2 ^ 64 ≤ v + (get_or bytes i 0 - 128) * s + s * 128
    → narrow (joined v s len (wide_at (drop i bytes))) ≡ total → None ≡ total
goes_past v s len i bytes total lt large big so_far =
    sym (past (v + (get_or bytes i 0 - 128) * s) (s * 128) (len + 1) (wide_at (drop (i + 1) bytes)) big) ∙ goes_on v s len i bytes total lt large so_far

-- the last byte
pub ends : (v s len i : ℕ) (bytes : List ℕ) (total : Option (ℕ × ℕ)) → i < length bytes → get_or bytes i 0 < 128 → (get_or bytes i 0 ≡ 0 → ⊥) → v + get_or bytes i 0 * s < 2 ^ 64
    → narrow (joined v s len (wide_at (drop i bytes))) ≡ total → Some (v + get_or bytes i 0 * s, len + 1) ≡ total
ends v s len i bytes total lt small nz fits so_far =
    let step : wide_at (drop i bytes) ≡ Some (get_or bytes i 0, 1) = ap wide_at (drop_more bytes i 0 lt) ∙ wide_at-small (get_or bytes i 0) (drop (i + 1) bytes) small in
    let one : joined v s len (wide_at (drop i bytes)) ≡ Some (v + get_or bytes i 0 * s, len + 1) = rw (step, joined-some v s len (get_or bytes i 0) 1 nz, mul_comm s (get_or bytes i 0)) refl in
    let all : narrow (joined v s len (wide_at (drop i bytes))) ≡ Some (v + get_or bytes i 0 * s, len + 1) = rw (one, lt-ltb (v + get_or bytes i 0 * s) (2 ^ 64) fits) refl in
    sym all ∙ so_far

narrow_past : (v s len high more : ℕ) → 2 ^ 64 ≤ v + high * s → narrow (joined v s len (Some (high, more))) ≡ None
narrow_past v s len high more big =
    elim (cases_eq high 0) [
      | inl z ↦ rw (eq-eqb high 0 z) refl
      | inr nz ↦ rw (ne_eqb high 0 nz, le-ltb (v + s * high) (2 ^ 64) (omega arith)) refl
    ]

wide_at-nil : wide_at [] ≡ None
unfolding wide_at
wide_at-nil = refl

-- a last byte of which no room is left
pub ends_past : (v s len i : ℕ) (bytes : List ℕ) (total : Option (ℕ × ℕ)) → i < length bytes → get_or bytes i 0 < 128 → 2 ^ 64 ≤ v + get_or bytes i 0 * s
    → narrow (joined v s len (wide_at (drop i bytes))) ≡ total → None ≡ total
ends_past v s len i bytes total lt small big so_far =
    let step : wide_at (drop i bytes) ≡ Some (get_or bytes i 0, 1) = ap wide_at (drop_more bytes i 0 lt) ∙ wide_at-small (get_or bytes i 0) (drop (i + 1) bytes) small in
    let all : narrow (joined v s len (wide_at (drop i bytes))) ≡ None = rw step (narrow_past v s len (get_or bytes i 0) 1 big) in
    sym all ∙ so_far

-- a last byte of 0
pub ends_in_zero : (v s len i : ℕ) (bytes : List ℕ) (total : Option (ℕ × ℕ)) → i < length bytes → get_or bytes i 0 ≡ 0 → narrow (joined v s len (wide_at (drop i bytes))) ≡ total → None ≡ total
ends_in_zero v s len i bytes total lt zero_byte so_far =
    let step : wide_at (drop i bytes) ≡ Some (get_or bytes i 0, 1) = ap wide_at (drop_more bytes i 0 lt) ∙ wide_at-small (get_or bytes i 0) (drop (i + 1) bytes) (omega arith) in
    let all : narrow (joined v s len (wide_at (drop i bytes))) ≡ None = rw (step, eq-eqb (get_or bytes i 0) 0 zero_byte) refl in
    sym all ∙ so_far

-- no last byte
pub is_cut_off : (v s len i : ℕ) (bytes : List ℕ) (total : Option (ℕ × ℕ)) → length bytes ≤ i → narrow (joined v s len (wide_at (drop i bytes))) ≡ total → None ≡ total
is_cut_off v s len i bytes total le so_far =
    let step : wide_at (drop i bytes) ≡ None = ap wide_at (drop_all i bytes le) ∙ wide_at-nil in
    let all : narrow (joined v s len (wide_at (drop i bytes))) ≡ None = rw step refl in
    sym all ∙ so_far

-- ---- the loop that writes

-- some groups were added at the end, and those of the rest are still to come
pub record Writes (old out : List ℕ) (rest n : ℕ) : Type 0 where
  pub written : List ℕ
  pub more : ℕ
  pub added : out ≡ old ++ written
  pub fits : rest < bound more
  pub told : written ++ groups more rest ≡ groups 9 n

pub writes_none : (old : List ℕ) (n : ℕ) → n < 2 ^ 64 → Writes old old n n
writes_none old n wide = record { written = []; more = 9; added = sym (append-nil old); fits = wide; told = refl }

writes_step : (old out written : List ℕ) (more rest n : ℕ) → out ≡ old ++ written → rest < bound more → written ++ groups more rest ≡ groups 9 n → 128 ≤ rest → Writes old (out ++ (128 + rest % 128) ∷ []) (rest / 128) n
writes_step old out written zero rest n added fits told large = absurd (omega arith)
writes_step old out written (suc more) rest n added fits told large =
    let group : List ℕ = (128 + rest % 128) ∷ [] in
    record {
      written = written ++ group;
      more = more;
      added = ap (λ (o : List ℕ). o ++ group) added ∙ append_assoc old written group;
      fits = omega arith;
      told = append_assoc written group (groups more (rest / 128)) ∙ ap (λ (t : List ℕ). written ++ t) (sym (groups-large more rest large)) ∙ told;
    }

-- one more group
pub writes_more : (old out : List ℕ) (rest n : ℕ) → Writes old out rest n → 128 ≤ rest → Writes old (out ++ (128 + rest % 128) ∷ []) (rest / 128) n
writes_more old out rest n w large = writes_step old out w.written w.more rest n w.added w.fits w.told large

-- the last group
pub writes_last : (old out : List ℕ) (rest n : ℕ) → Writes old out rest n → rest < 128 → out ++ rest ∷ [] ≡ old ++ number_bytes n
unfolding number_bytes
writes_last old out rest n w small =
    ap (λ (o : List ℕ). o ++ rest ∷ []) w.added ∙ append_assoc old w.written (rest ∷ [])
    ∙ ap (λ (t : List ℕ). old ++ t) (ap (λ (t : List ℕ). w.written ++ t) (sym (groups-small w.more rest small)) ∙ w.told)
