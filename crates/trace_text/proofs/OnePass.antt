-- The line of a sample that is read in one pass.
use Rattle.std.proofs.Common.{◌≡◌, ℕ, ◌+◌, ◌*◌, ◌-◌, ◌^◌, ◌<◌, ◌≤◌, ◌&&◌, ◌==◌, true, false, List, [], ◌∷◌, ◌++◌, length, map, take, drop, get_or, leb, ltb, suc, refl, ap, sym, ◌∙◌, arith, Some, All, take-append-drop, length-take, drop-cons}
use Rattle.std.specs.List.{list_all, range_with_len}
use Rattle.std.proofs.lemmas.Bool.{and_from, and_parts, ne_eqb, eq-eqb, le-leb, lt-ltb}
use Rattle.std.proofs.lemmas.List.{take_more, take_rest, take-append-le}
use Rattle.std.proofs.lemmas.List.Elements.{All-nil, All-cons}
use Rattle.std.proofs.lemmas.List.Folds.{list_all_more}
use Rattle.std.proofs.lemmas.List.FromFn.{get_or-map-range_with_len}
use Rattle.std.proofs.lemmas.List.Splits.{slice_split_at}
use Rattle.std.proofs.lemmas.Grind.{pow_more}
use Rattle.std.proofs.Math.Nat.{mul-le-mul_right, pow-le-pow_right}
use Rattle.sample_key.specs.declared.events.Event.{Event}
use Rattle.sample_key.specs.declared.events.Event.TheVariants.{Cycles, Imiss, Dmiss, Branchmp}
use Rattle.sample_key.specs.declared.limits.TheConstants.{LAST_CPU}
use Rattle.sample_key.specs.Events.{name_of}
use Rattle.text_num.specs.Numbers.{digit_value, has_leading_zero, is_canonical, is_digit, number, value_of}
use Rattle.text_num.proofs.Digits.{is_worth, value_after-push}
use Rattle.text_num.proofs.Spelling.{told_of}
use Rattle.trace_model.specs.Grammar.{body_of, cut_at_spaces}
use Rattle.trace_model.specs.Said.{Sampled, Decimal, Address}
use Rattle.trace_text.specs.declared.samples.TheConstants.{WORTHS}
use Rattle.trace_text.specs.Forms.{read_field}
use Rattle.trace_text.specs.Sampling.{LeadsWith, ReadsSample, WritesFront}

worths_are : WORTHS ≡ map digit_value (range_with_len 0 256)
worths_are = refl

-- the table has what each byte is worth
pub worth_at : (c : ℕ) → c < 256 → get_or WORTHS c 0 ≡ digit_value c
worth_at c h = ap (λ (l : List ℕ). get_or l c 0) worths_are ∙ get_or-map-range_with_len digit_value 0 256 c c 0 h (omega arith)

-- one digit more
pub digits_more : (base i : ℕ) (text : List ℕ) → i < length text → list_all (is_digit base) (take i text) ≡ true → digit_value (get_or text i 0) < base → list_all (is_digit base) (take (i + 1) text) ≡ true
digits_more base i text h all d = list_all_more (is_digit base) text i 0 h ∙ and_from _ _ all (lt-ltb _ _ d)

pub value_more : (base i n : ℕ) (text : List ℕ) → i < length text → n ≡ value_of base (take i text) → base * n + digit_value (get_or text i 0) ≡ value_of base (take (i + 1) text)
value_more base i n text h e = ap (λ m. base * m + digit_value (get_or text i 0)) e ∙ sym (ap (value_of base) (take_more text i 0 h) ∙ value_after-push base 0 (take i text) (get_or text i 0))

pub small_more : (base n digit i : ℕ) → base ≤ 16 → digit < base → n < 16 ^ i → base * n + digit < 16 ^ (i + 1)
small_more base n digit i most d small = let less : base * n ≤ 16 * n = mul-le-mul_right n most in omega (arith, less, pow_more 16 i)

-- sixteen digits write a number below 2 ^ 64
pub room : (i : ℕ) → i < 16 → 16 ^ (i + 1) ≤ 2 ^ 64
room i h = pow-le-pow_right {n = 16} (omega arith) {i = i + 1} {j = 16} (omega arith)

-- no digit is a space
no_space : (base c : ℕ) → base ≤ 16 → is_digit base c ≡ true → (c == 32) ≡ false
no_space base c most d = ne_eqb c 32 (λ e. omega (arith, is_worth base c d, ap digit_value e))

no_spaces : (base : ℕ) (digits : List ℕ) → base ≤ 16 → list_all (is_digit base) digits ≡ true → All (λ (b : ℕ). (b == 32) ≡ false) digits
no_spaces base [] most all = All-nil (λ (b : ℕ). (b == 32) ≡ false)
no_spaces base (c ∷ cs) most all = let p = and_parts _ _ all in All-cons (λ (b : ℕ). (b == 32) ≡ false) c cs (no_space base c most p.0) (no_spaces base cs most p.1)

-- a text is cut behind the digits at its front
cut_behind : (base n : ℕ) (text : List ℕ) → base ≤ 16 → n < length text → list_all (is_digit base) (take n text) ≡ true → get_or text n 0 ≡ 32
    → cut_at_spaces text ≡ take n text ∷ cut_at_spaces (take (length text - (n + 1)) (drop (n + 1) text))
cut_behind base n text most h all space =
    let whole : take n text ++ get_or text n 0 ∷ drop (suc n) text ≡ text = ap (λ (l : List ℕ). take n text ++ l) (sym (drop-cons text n 0 h)) ∙ take-append-drop n text in
    let cut : cut_at_spaces (take n text ++ get_or text n 0 ∷ drop (suc n) text) ≡ take n text ∷ cut_at_spaces (drop (suc n) text)
    = slice_split_at (λ b. b == 32) (take n text) (get_or text n 0) (drop (suc n) text) (no_spaces base (take n text) most all) (eq-eqb _ _ space) in
    ap (λ (l : List ℕ). cut_at_spaces l) (sym whole) ∙ cut
    ∙ ap (λ (l : List ℕ). take n text ∷ cut_at_spaces l) (ap (λ (k : ℕ). drop k text) {x = suc n} {y = n + 1} (omega arith) ∙ sym (take_rest text (n + 1)))

spells : (base n : ℕ) (field : List ℕ) → 0 < length field → has_leading_zero field ≡ false → list_all (is_digit base) field ≡ true → n ≡ value_of base field → n < 2 ^ 64 → number base field ≡ Some n
spells base n field some zero all is small = rw (le-leb 1 (length field) (omega arith), zero, all, lt-ltb (value_of base field) (2 ^ 64) (omega (arith, is, small))) (ap (λ (m : ℕ). Some m) (sym is))

-- the first field is the number that its digits write
pub leads : (base n count m : ℕ) (text : List ℕ) → base ≤ 16 → WritesFront base (take m text) n count → 0 < count → count < length text → get_or text count 0 ≡ 32 → has_leading_zero (take count text) ≡ false
    → LeadsWith base text n (take (length text - (count + 1)) (drop (count + 1) text))
leads base n count m text most w some within space zero =
    let same : take count (take m text) ≡ take count text = sym (take-append-le count (take m text) (drop m text) w.0) ∙ ap (take count) (take-append-drop m text) in
    let all : list_all (is_digit base) (take count text) ≡ true = ap (list_all (is_digit base)) (sym same) ∙ w.1 in (
      take count text,
      cut_behind base count text most within all space,
      spells base n (take count text) (omega (arith, length-take count text)) zero all (w.2 ∙ ap (value_of base) same) w.3,
    )

-- a number field in its range
decimal_field : (most n : ℕ) (field : List ℕ) → number 10 field ≡ Some n → n ≤ most → (read_field (Decimal 0 most field) ≡ true) × (n ≡ value_of 10 field)
decimal_field most n field e h =
    let v : ℕ = value_of 10 field in
    let t = told_of (is_canonical 10 field) (ltb v (2 ^ 64)) v n e in
    (and_from (is_canonical 10 field) (leb 0 v && leb v most) t.0 (and_from (leb 0 v) (leb v most) (le-leb 0 v (omega arith)) (le-leb v most (omega (arith, t.2, h)))), sym t.2)

address_field : (n : ℕ) (field : List ℕ) → number 16 field ≡ Some n → (read_field (Address field) ≡ true) × (n ≡ value_of 16 field)
address_field n field e =
    let v : ℕ = value_of 16 field in
    let t = told_of (is_canonical 16 field) (ltb v (2 ^ 64)) v n e in (and_from (is_canonical 16 field) (ltb v (2 ^ 64)) t.0 t.1, sym t.2)

-- an event's name is one field
one_name : (event : Event) → cut_at_spaces (name_of event) ≡ name_of event ∷ []
one_name Cycles = refl
one_name Imiss = refl
one_name Dmiss = refl
one_name Branchmp = refl

sampled : (a b c : List ℕ) (event : Event) → Some (Sampled a b c event) ≡ body_of ((115 ∷ []) ∷ a ∷ b ∷ c ∷ name_of event ∷ [])
sampled a b c Cycles = refl
sampled a b c Imiss = refl
sampled a b c Dmiss = refl
sampled a b c Branchmp = refl

-- the fields of a sample one after another
pub sample_read : (line fields behind_cpu behind_pid name : List ℕ) (cpu pid pc : ℕ) (event : Event) → cut_at_spaces line ≡ (115 ∷ []) ∷ cut_at_spaces fields
    → LeadsWith 10 fields cpu behind_cpu → LeadsWith 10 behind_cpu pid behind_pid → LeadsWith 16 behind_pid pc name → name ≡ name_of event → cpu ≤ LAST_CPU → pid ≤ 4294967295
    → ReadsSample line (record { cpu = cpu; pid = pid; pc = pc; event = event })
sample_read line fields behind_cpu behind_pid name cpu pid pc event word c p a named few low =
    let cut : cut_at_spaces line ≡ (115 ∷ []) ∷ c.0 ∷ p.0 ∷ a.0 ∷ name_of event ∷ []
    = word ∙ ap (λ l. (115 ∷ []) ∷ l) (c.1 ∙ ap (λ l. c.0 ∷ l) (p.1 ∙ ap (λ l. p.0 ∷ l) (a.1 ∙ ap (λ l. a.0 ∷ l) (ap cut_at_spaces named ∙ one_name event)))) in
    let x = decimal_field LAST_CPU cpu c.0 c.2 few in
    let y = decimal_field 4294967295 pid p.0 p.2 low in
    let z = address_field pc a.0 a.2 in (
      Sampled c.0 p.0 a.0 event,
      sampled c.0 p.0 a.0 event ∙ ap body_of (sym cut),
      rw (and_from _ _ x.0 (and_from _ _ y.0 z.0)) (λ i. Some (Sampled (x.1 i) (y.1 i) (z.1 i) event)),
    )
