-- Each number below 2 ^ 64 has one canonical spelling, which is the text that std prints.
use Rattle.std.proofs.Common.{◌≡◌, ◌≢◌, ℕ, zero, suc, ◌+◌, ◌*◌, ◌/◌, ◌%◌, ◌^◌, ◌<◌, ◌≤◌, ◌&&◌, Bool, true, false, not, cond, eqb, ltb, List, [], ◌∷◌, ◌++◌, length, get_or, refl, ap, sym, subst, ◌∙◌, arith, Some, None, if◌then◌else◌, ⊎_elim}
use Rattle.std.specs.List.{list_all}
use Rattle.std.specs.Fmt.{digit_glyph, digits_onto, digits}
use Rattle.std.proofs.lemmas.Bool.{ne_eqb, eq-eqb, cases_eq, cases_lt, lt-ltb, ltb-true, leb-true, le-leb, lt-leb, and_left, and_right, and_parts, and_from, true≢false}
use Rattle.std.proofs.lemmas.List.{length-append, append_assoc}
use Rattle.std.proofs.lemmas.List.Folds.{list_all-append}
use Rattle.std.proofs.Math.ListN.{get_or-append}
use Rattle.std.proofs.Math.Nat.{div-add-mod, mod-lt, mod-eq_of_lt, div-eq_of_lt, div-eq_of_lt-le, add-mul-mod_self_left, div-lt_iff_lt-mul, pow-zero, pow-suc}
use Rattle.text_num.specs.Numbers.{digit_value, is_digit, has_leading_zero, is_canonical, value_of, HasSpelling}
use Rattle.text_num.proofs.Digits.{value_after-push, value_after-ge, digit_value-glyph, glyph-digit_value, zero_digit, is_worth}

-- digits, one at least, and no needless `0` before them
pub record IsText (base : ℕ) (text : List ℕ) : Type 0 where
  pub digits : list_all (is_digit base) text ≡ true
  pub some : 0 < length text
  pub first : 2 ≤ length text → get_or text 0 0 ≢ 48

not_false : (b : Bool) → not b ≡ true → b ≡ false
not_false true h = cc
not_false false h = refl

-- the canonical spellings are these
pub canonical_text : (base : ℕ) (text : List ℕ) → is_canonical base text ≡ true → IsText base text
canonical_text base text h = let whole = and_parts _ _ h in let front = and_parts _ _ whole.0 in record {
  digits = whole.1;
  some = leb-true 1 (length text) front.0;
  first = λ l. λ e. true≢false (sym (and_from _ _ (le-leb 2 (length text) l) (eq-eqb (get_or text 0 0) 48 e)) ∙ not_false (has_leading_zero text) front.1);
}

no_leading : (text : List ℕ) → (2 ≤ length text → get_or text 0 0 ≢ 48) → has_leading_zero text ≡ false
no_leading text h = ⊎_elim
    (λ short. and_left _ _ (lt-leb 2 (length text) short))
    (λ long. and_right _ _ (ne_eqb (get_or text 0 0) 48 (h long)))
    (cases_lt (length text) 2)

pub text_canonical : (base : ℕ) (text : List ℕ) → IsText base text → is_canonical base text ≡ true
text_canonical base text t = and_from _ _ (and_from _ _ (le-leb 1 (length text) t.some) (ap not (no_leading text t.first))) t.digits

-- a text that is not empty ends in a byte
pub snoc : (text : List ℕ) → 0 < length text → (front : List ℕ) × (c : ℕ) × (text ≡ front ++ c ∷ [])
snoc [] h = absurd (omega arith)
snoc (x ∷ []) h = ([], x, refl)
snoc (x ∷ y ∷ more) h = let r = snoc (y ∷ more) (omega arith) in (x ∷ r.0, r.1, ap (λ (l : List ℕ). x ∷ l) r.2)

-- digits of which the first is not `0` are worth something
pub positive : (base : ℕ) (text : List ℕ) → 0 < base → 0 < length text → get_or text 0 0 ≢ 48 → 0 < value_of base text
positive base [] h some ne = absurd (omega arith)
positive base (c ∷ more) h some ne = ⊎_elim
    (λ e. absurd (ne (zero_digit c e)))
    (λ worth. omega (arith, value_after-ge base (base * 0 + digit_value c) more h))
    (cases_eq (digit_value c) 0)

-- digits that are worth something do not begin with `0`
pub first_of : (base : ℕ) (text : List ℕ) → IsText base text → 0 < value_of base text → get_or text 0 0 ≢ 48
first_of base [] t h = absurd (omega (arith, t.some))
first_of base (c ∷ []) t h = λ e. absurd (omega (arith, ap digit_value e))
first_of base (c ∷ d ∷ more) t h = t.first (omega arith)

-- a digit more
pub text_push : (base : ℕ) (front : List ℕ) (c : ℕ) → IsText base front → get_or front 0 0 ≢ 48 → is_digit base c ≡ true → IsText base (front ++ c ∷ [])
text_push base front c t ne h = record {
  digits = list_all-append (is_digit base) front (c ∷ []) ∙ and_from _ _ t.digits (and_from _ _ h refl);
  some = omega (arith, length-append front (c ∷ []));
  first = λ l. λ e. ne (sym (get_or-append front (c ∷ []) 0 0 t.some) ∙ e);
}

-- a digit less
pub text_front : (base : ℕ) (front : List ℕ) (c : ℕ) → IsText base (front ++ c ∷ []) → 0 < length front → IsText base front
text_front base front c t h = record {
  digits = (and_parts _ _ (sym (list_all-append (is_digit base) front (c ∷ [])) ∙ t.digits)).0;
  some = h;
  first = λ l. λ e. t.first (omega (arith, length-append front (c ∷ []))) (get_or-append front (c ∷ []) 0 0 h ∙ e);
}

either : (t : Bool) (g : ℕ) (before : List ℕ → List ℕ) (acc : List ℕ) → ((more : List ℕ) → before more ≡ before [] ++ more) → cond t (g ∷ acc) (before (g ∷ acc)) ≡ cond t (g ∷ []) (before (g ∷ [])) ++ acc
either true g before acc h = refl
either false g before acc h = h (g ∷ acc) ∙ sym (append_assoc (before []) (g ∷ []) acc) ∙ ap (λ (l : List ℕ). l ++ acc) (sym (h (g ∷ [])))

-- the digits of a number are put before others
pub onto-append : (k base n : ℕ) (acc : List ℕ) → digits_onto k base false n acc ≡ digits_onto k base false n [] ++ acc
onto-append zero base n acc = refl
onto-append (suc k) base n acc = either (eqb (n / base) 0) (digit_glyph false (n % base)) (digits_onto k base false (n / base)) acc (onto-append k base (n / base))

-- the two ways in which the digits of a number end
pub onto_last : (k base n : ℕ) → n / base ≡ 0 → digits_onto (suc k) base false n [] ≡ digit_glyph false (n % base) ∷ []
onto_last k base n e = rw (eq-eqb (n / base) 0 e) refl

pub onto_more : (k base n : ℕ) → n / base ≢ 0 → digits_onto (suc k) base false n [] ≡ digits_onto k base false (n / base) [] ++ digit_glyph false (n % base) ∷ []
onto_more k base n ne = rw (ne_eqb (n / base) 0 ne) (onto-append k base (n / base) (digit_glyph false (n % base) ∷ []))

-- a text and the number that it writes
pub record Writes (base n : ℕ) (bytes : List ℕ) : Type 0 where
  pub text : IsText base bytes
  pub value : value_of base bytes ≡ n

glyph_is_digit : (base d : ℕ) → d < base → base ≤ 16 → is_digit base (digit_glyph false d) ≡ true
glyph_is_digit base d h most = lt-ltb _ base (subst (λ (v : ℕ). v < base) (sym (digit_value-glyph d (omega arith))) h)

pow_one : (base : ℕ) → base ^ suc zero ≡ base
pow_one base = pow-suc base zero ∙ ap (λ (n : ℕ). n * base) (pow-zero base) ∙ omega arith

-- the last digit of a number and the digits before it, as far as they are known
module _ (base : ℕ) (two : 2 ≤ base) (most : base ≤ 16) where
  glyph_worth : (n : ℕ) → digit_value (digit_glyph false (n % base)) ≡ n % base
  glyph_worth n = digit_value-glyph (n % base) (omega (arith, mod-lt n {m = base} (omega arith)))

  one_digit : (k n : ℕ) → n / base ≡ 0 → Writes base n (digits_onto (suc k) base false n [])
  one_digit k n e = subst (Writes base n) (sym (onto_last k base n e)) (record {
    text = record { digits = and_from _ _ (glyph_is_digit base (n % base) (mod-lt n {m = base} (omega arith)) most) refl; some = omega arith; first = λ l. absurd (omega arith) };
    value = omega (arith, glyph_worth n, div-add-mod n base, ap (λ (q : ℕ). base * q) e);
  })

  more_digits : (k n : ℕ) → n / base ≢ 0 → Writes base (n / base) (digits_onto k base false (n / base) []) → Writes base n (digits_onto (suc k) base false n [])
  more_digits k n ne before = subst (Writes base n) (sym (onto_more k base n ne)) (record {
    text = text_push base (digits_onto k base false (n / base) []) (digit_glyph false (n % base)) before.text
        (first_of base (digits_onto k base false (n / base) []) before.text (subst (λ (v : ℕ). 0 < v) (sym before.value) (omega arith)))
        (glyph_is_digit base (n % base) (mod-lt n {m = base} (omega arith)) most);
    value = value_after-push base 0 (digits_onto k base false (n / base) []) (digit_glyph false (n % base))
        ∙ ap (λ (v : ℕ). base * v + digit_value (digit_glyph false (n % base))) before.value
        ∙ ap (λ (v : ℕ). base * (n / base) + v) (glyph_worth n) ∙ div-add-mod n base;
  })

  -- the digits of a number are a canonical spelling of it
  pub onto_writes : (k n : ℕ) → n < base ^ suc k → Writes base n (digits_onto (suc k) base false n [])
  onto_writes zero n small = one_digit zero n (div-eq_of_lt {n = n} {m = base} (omega (arith, small, pow_one base)))
  onto_writes (suc k) n small = ⊎_elim
      (λ e. one_digit (suc k) n e)
      (λ ne. more_digits (suc k) n ne (onto_writes k (n / base) ((div-lt_iff_lt-mul {k = base} {x = n} {y = base ^ suc k} (omega arith)).1 (omega (arith, small, pow-suc base (suc k))))))
      (cases_eq (n / base) 0)

  -- a spelling is made of its last digit and the spelling before it
  last_digit : (front : List ℕ) (c n : ℕ) → Writes base n (front ++ c ∷ []) → (n % base ≡ digit_value c) × (n / base ≡ value_of base front) × (digit_value c < base)
  last_digit front c n w =
      let all : (list_all (is_digit base) front && (is_digit base c && true)) ≡ true = sym (list_all-append (is_digit base) front (c ∷ [])) ∙ w.text.digits in
      let below : digit_value c < base = is_worth base c ((and_parts _ _ ((and_parts _ _ all).1)).0) in
      let whole : base * value_of base front + digit_value c ≡ n = sym (value_after-push base 0 front c) ∙ w.value in
      let turned : digit_value c + base * value_of base front ≡ n = omega (arith, whole) in (
        subst (λ (m : ℕ). m % base ≡ digit_value c) turned (add-mul-mod_self_left (digit_value c) base (value_of base front) ∙ mod-eq_of_lt below),
        div-eq_of_lt-le {k = value_of base front} base {m = n} (omega (arith, whole)) (omega (arith, whole, below)),
        below,
      )

  spelled_one : (k n c : ℕ) → Writes base n (c ∷ []) → c ∷ [] ≡ digits_onto (suc k) base false n []
  spelled_one k n c w = let d = last_digit [] c n w in
      sym (onto_last k base n d.1 ∙ ap (λ (x : ℕ). x ∷ []) (ap (λ (x : ℕ). digit_glyph false x) d.0 ∙ glyph-digit_value c (omega (arith, d.2))))

  spelled_more : (k n : ℕ) (front : List ℕ) (c : ℕ) → 0 < length front → Writes base n (front ++ c ∷ [])
      → (Writes base (n / base) front → front ≡ digits_onto k base false (n / base) []) → front ++ c ∷ [] ≡ digits_onto (suc k) base false n []
  spelled_more k n front c some w before = let d = last_digit front c n w in
      let text : IsText base front = text_front base front c w.text some in
      let first : get_or front 0 0 ≢ 48 = λ e. w.text.first (omega (arith, length-append front (c ∷ []))) (get_or-append front (c ∷ []) 0 0 some ∙ e) in
      let some_worth : 0 < value_of base front = positive base front (omega arith) some first in
      sym (onto_more k base n (λ e. absurd (omega (arith, e, d.1, some_worth)))
      ∙ ap (λ (l : List ℕ). l ++ digit_glyph false (n % base) ∷ []) (sym (before (record { text = text; value = sym d.1 })))
      ∙ ap (λ (x : ℕ). front ++ x ∷ []) (ap (λ (x : ℕ). digit_glyph false x) d.0 ∙ glyph-digit_value c (omega (arith, d.2))))

  by_front : (k n : ℕ) (front : List ℕ) (c : ℕ) → Writes base n (front ++ c ∷ []) → (0 < length front → Writes base (n / base) front → front ≡ digits_onto k base false (n / base) []) → front ++ c ∷ [] ≡ digits_onto (suc k) base false n []
  by_front k n [] c w before = spelled_one k n c w
  by_front k n (x ∷ xs) c w before = spelled_more k n (x ∷ xs) c (omega arith) w (before (omega arith))

  small_front : (n : ℕ) (front : List ℕ) (c : ℕ) → n < base → Writes base n (front ++ c ∷ []) → 0 < length front → ⊥
  small_front n front c small w some = let d = last_digit front c n w in
      let first : get_or front 0 0 ≢ 48 = λ e. w.text.first (omega (arith, length-append front (c ∷ []))) (get_or-append front (c ∷ []) 0 0 some ∙ e) in
      omega (arith, positive base front (omega arith) some first, d.1, div-eq_of_lt {n = n} {m = base} small)

  -- each canonical spelling of a number is its digits
  pub writes_onto : (k n : ℕ) (text : List ℕ) → n < base ^ suc k → Writes base n text → text ≡ digits_onto (suc k) base false n []
  writes_onto zero n text small w = let s = snoc text w.text.some in let w' = subst (Writes base n) s.2 w in
      s.2 ∙ by_front zero n s.0 s.1 w' (λ some _. absurd (small_front n s.0 s.1 (omega (arith, small, pow_one base)) w' some))
  writes_onto (suc k) n text small w = let s = snoc text w.text.some in
      s.2 ∙ by_front (suc k) n s.0 s.1 (subst (Writes base n) s.2 w)
      (λ _ front. writes_onto k (n / base) s.0 ((div-lt_iff_lt-mul {k = base} {x = n} {y = base ^ suc k} (omega arith)).1 (omega (arith, small, pow-suc base (suc k)))) front)

-- a number that is told was spelled canonically, and is below 2 ^ 64
pub told_of : (b c : Bool) (m n : ℕ) → (if b && c then Some m else None) ≡ Some n → (b ≡ true) × (c ≡ true) × (m ≡ n)
told_of true true m n e = (refl, refl, cc)
told_of true false m n e = cc
told_of false c m n e = cc

-- the law of both bases
pub has_spelling : (base : ℕ) → 2 ≤ base → base ≤ 16 → 2 ^ 64 ≤ base ^ 64 → HasSpelling base
unfolding digits
has_spelling base two most wide text n = (
  (λ e. let t = told_of (is_canonical base text) (ltb (value_of base text) (2 ^ 64)) (value_of base text) n e in
      let small : value_of base text < 2 ^ 64 = ltb-true _ _ t.1 in
      (omega (arith, small, t.2), writes_onto base two most 63 n text (omega (arith, small, t.2, wide)) (record { text = canonical_text base text t.0; value = t.2 }))),
  (λ h. let w = onto_writes base two most 63 n (omega (arith, h.0, wide)) in
      let again = subst (Writes base n) (sym h.1) w in
      rw (text_canonical base text again.text, again.value, lt-ltb n (2 ^ 64) h.0) refl),
)
