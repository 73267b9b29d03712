-- The rows of the head after the first parts of a small run.
use Rattle.std.proofs.Common.{◌≡◌, ℕ, zero, suc, ◌+◌, ◌*◌, ◌/◌, ◌%◌, ◌<◌, ◌≤◌, ◌&&◌, Bool, true, false, List, [], length, get_or, refl, sym, ◌∙◌, ap, subst, arith, inl, inr, Option, Some, None, eqb, ltb, leb, if◌then◌else◌}
use Rattle.std.proofs.lemmas.Bool.{and_parts, and_from, or_left, or_right, cond-true, cond-false, eqb-true, eqb-false, eq-eqb, lt-ltb, ltb-true, ltb-false, leb-true, leb-false, cases_lt, true≢false}
use Rattle.std.proofs.lemmas.List.Quantifiers.{position-Some}
use Rattle.std.proofs.lemmas.Slice.Eq.{bytes_eq-Decides}
use Rattle.std.specs.Str.{bytes_eq}
use Rattle.image_catalog.specs.Images.{place_of}
use Rattle.trace_model.specs.declared.notices.Record.{Record}
use Rattle.database_model.specs.Runs.{Recorded}
use Rattle.database_state.specs.declared.rows.KnownRow.{KnownRow}
use Rattle.database_state.specs.declared.rows.UnknownRow.{UnknownRow}
use Rattle.database_state.specs.Rows.{known_before, unknown_before, known_same, unknown_same, known_place, unknown_place, known_row, unknown_row, is_rising}
use Rattle.growth_model.specs.Growth.{IsCounted}
use Rattle.growth_model.specs.Grown.{part_count}
use Rattle.growth_model.specs.Fitting.{IsCountedAt, RowGrows, known_written, unknown_written}
use Rattle.small_runs.specs.Small.{IsSmallRun}
use Rattle.small_runs.proofs.Picked.{picked, few, rising, none, found}
use Rattle.small_runs.proofs.Profiles.{is_counted, counted}
use Rattle.small_runs.proofs.Counts.{part_adds, names, known_where, unknown_where, is_counted_of, is_counted_at, names_within}

three_false : (a b c : Bool) → (a ≡ true → b ≡ true → c ≡ true → ⊥) → (a && b && c) ≡ false
three_false true true true h = absurd (h refl refl refl)
three_false true true false h = refl
three_false true false c h = refl
three_false false b c h = refl

three_true : (a b c : Bool) → a ≡ true → b ≡ true → c ≡ true → (a && b && c) ≡ true
three_true a b c p q r = λ i. p i && q i && r i

two_false : (a b : Bool) → (a ≡ true → b ≡ true → ⊥) → (a && b) ≡ false
two_false true true h = absurd (h refl refl)
two_false true false h = refl
two_false false b h = refl

-- a row of the first epoch
abbrev pub first_row : ℕ → ℕ → ℕ → KnownRow
first_row image event g = record { epoch = 0; image = image; event = event; g = g }

abbrev pub first_unknown : ℕ → ℕ → UnknownRow
first_unknown event g = record { epoch = 0; event = event; g = g }

-- the row, where its generation is one
abbrev pub row_if : ℕ → ℕ → ℕ → Option KnownRow
row_if image event g = if ltb 0 g then Some (first_row image event g) else None

abbrev pub unknown_if : ℕ → ℕ → Option UnknownRow
unknown_if event g = if ltb 0 g then Some (first_unknown event g) else None

-- rows of other places
apart : (e i v j w g : ℕ) → (e ≡ 0 → i ≡ j → v ≡ w → ⊥) → known_same (known_place e i v) (first_row j w g) ≡ false
apart e i v j w g h = three_false (eqb e 0) (eqb i j) (eqb v w) (λ a b c. h (eqb-true e 0 a) (eqb-true i j b) (eqb-true v w c))

alike : (i v j w g : ℕ) → i ≡ j → v ≡ w → known_same (known_place 0 i v) (first_row j w g) ≡ true
alike i v j w g a b = three_true (eqb 0 0) (eqb i j) (eqb v w) refl (eq-eqb i j a) (eq-eqb v w b)

unknown_apart : (e v w g : ℕ) → (e ≡ 0 → v ≡ w → ⊥) → unknown_same (unknown_place e v) (first_unknown w g) ≡ false
unknown_apart e v w g h = two_false (eqb e 0) (eqb v w) (λ a b. h (eqb-true e 0 a) (eqb-true v w b))

unknown_alike : (v w g : ℕ) → v ≡ w → unknown_same (unknown_place 0 v) (first_unknown w g) ≡ true
unknown_alike v w g b = and_from (eqb 0 0) (eqb v w) refl (eq-eqb v w b)

ordered : (a b f g : ℕ) → a < b → known_before (first_row (a / 4) (a % 4) f) (first_row (b / 4) (b % 4) g) ≡ true
ordered a b f g less = elim (cases_lt (a / 4) (b / 4)) as (λ z. known_before (first_row (a / 4) (a % 4) f) (first_row (b / 4) (b % 4) g) ≡ true) [
  | inl l ↦ or_right (ltb 0 0) _ (and_from (eqb 0 0) _ refl (or_left (ltb (a / 4) (b / 4)) _ (lt-ltb (a / 4) (b / 4) l)))
  | inr l ↦ or_right (ltb 0 0) _ (and_from (eqb 0 0) _ refl (or_right (ltb (a / 4) (b / 4)) _
      (and_from _ _ (eq-eqb (a / 4) (b / 4) (omega arith)) (lt-ltb (a % 4) (b % 4) (omega arith)))))
]

unknown_ordered : (a b f g : ℕ) → a < b → unknown_before (first_unknown a f) (first_unknown b g) ≡ true
unknown_ordered a b f g less = or_right (ltb 0 0) _ (and_from (eqb 0 0) _ refl (lt-ltb a b less))

-- whether a place is this one
abbrev pub is_at : Option ℕ → ℕ → Bool
is_at None i = false
is_at (Some k) i = eqb k i

at_some : (o : Option ℕ) (i : ℕ) → is_at o i ≡ true → o ≡ Some i
at_some None i e = absurd cc
at_some (Some k) i e = ap {B = Option ℕ} (λ (n : ℕ). Some n) (eqb-true k i e)

-- a name stands at its place
stands : (name : List ℕ) (held : List (List ℕ)) (i : ℕ) → place_of name held ≡ Some i → (i < length held) × (get_or held i [] ≡ name)
stands name held i e = let p = position-Some (λ h. bytes_eq h name) held i [] e in (p.0, (bytes_eq-Decides (get_or held i []) name).0 p.1)

module _ (images : List (List ℕ)) (records : List Record) (kept : Recorded) where
  -- how many images the head may have
  abbrev pub width : ℕ
  width = length images * part_count records

  abbrev pub text : ℕ → ℕ → List ℕ
  text part i = get_or (names images records kept part) i []

  -- whether a part writes a row
  abbrev pub writes : ℕ → ℕ → ℕ → Bool
  writes part i v =
      is_at (place_of (text (suc part) i) (names images records kept (suc part))) i
      && is_counted ((part_adds images records kept part).known 0 (text (suc part) i) v)

  -- the generation of a row after the first parts, 0 where there is none
  abbrev pub written : ℕ → ℕ → ℕ → ℕ
  written zero i v = 0
  written (suc part) i v = if writes part i v then suc part else written part i v

  abbrev pub unknown_at : ℕ → ℕ → ℕ
  unknown_at zero v = 0
  unknown_at (suc part) v = if is_counted ((part_adds images records kept part).unknown 0 v) then suc part else unknown_at part v

  abbrev pub known_list : ℕ → List KnownRow
  known_list zero = []
  known_list (suc part) =
      picked (λ n. first_row (n / 4) (n % 4) (written (suc part) (n / 4) (n % 4))) (λ n. ltb 0 (written (suc part) (n / 4) (n % 4))) 0 (4 * width)

  abbrev pub unknown_list : ℕ → List UnknownRow
  unknown_list zero = []
  unknown_list (suc part) = picked (λ n. first_unknown n (unknown_at (suc part) n)) (λ n. ltb 0 (unknown_at (suc part) n)) 0 4

  pub few_known : (part : ℕ) → length (known_list part) ≤ 4 * width
  few_known zero = omega arith
  few_known (suc part) =
      few (λ n. first_row (n / 4) (n % 4) (written (suc part) (n / 4) (n % 4))) (λ n. ltb 0 (written (suc part) (n / 4) (n % 4))) 0 (4 * width)

  pub few_unknown : (part : ℕ) → length (unknown_list part) ≤ 4
  few_unknown zero = omega arith
  few_unknown (suc part) = few (λ n. first_unknown n (unknown_at (suc part) n)) (λ n. ltb 0 (unknown_at (suc part) n)) 0 4

  pub known_rises : (part : ℕ) → is_rising known_before (known_list part) ≡ true
  known_rises zero = refl
  known_rises (suc part) =
      rising (λ n. first_row (n / 4) (n % 4) (written (suc part) (n / 4) (n % 4))) (λ n. ltb 0 (written (suc part) (n / 4) (n % 4))) known_before
      (λ a b less. ordered a b (written (suc part) (a / 4) (a % 4)) (written (suc part) (b / 4) (b % 4)) less) 0 (4 * width)

  pub unknown_rises : (part : ℕ) → is_rising unknown_before (unknown_list part) ≡ true
  unknown_rises zero = refl
  unknown_rises (suc part) =
      rising (λ n. first_unknown n (unknown_at (suc part) n)) (λ n. ltb 0 (unknown_at (suc part) n)) unknown_before
      (λ a b less. unknown_ordered a b (unknown_at (suc part) a) (unknown_at (suc part) b) less) 0 4

  -- the row of a place
  known_in : (part i v : ℕ) → i < width → v ≤ 3 → known_row (known_list part) 0 i v ≡ row_if i v (written part i v)
  known_in zero i v low few = refl
  known_in (suc part) i v low few =
      let di : (4 * i + v) / 4 ≡ i = omega arith in
      let mi : (4 * i + v) % 4 ≡ v = omega arith in
      found (λ n. first_row (n / 4) (n % 4) (written (suc part) (n / 4) (n % 4))) (λ n. ltb 0 (written (suc part) (n / 4) (n % 4)))
      (known_same (known_place 0 i v)) (4 * i + v)
      (alike i v ((4 * i + v) / 4) ((4 * i + v) % 4) (written (suc part) ((4 * i + v) / 4) ((4 * i + v) % 4)) (sym di) (sym mi))
      (λ m ne. apart 0 i v (m / 4) (m % 4) (written (suc part) (m / 4) (m % 4)) (λ z a b. ne (one_number i v m a b)))
      0 (4 * width) (omega arith) (omega arith)
      ∙ (λ t. row_if (di t) (mi t) (written (suc part) (di t) (mi t)))
    where
      one_number : (i v m : ℕ) → i ≡ m / 4 → v ≡ m % 4 → m ≡ 4 * i + v
      one_number i v m a b = omega arith

  known_out : (part e i v : ℕ) → (e ≡ 0 → i < width → v ≤ 3 → ⊥) → known_row (known_list part) e i v ≡ None
  known_out zero e i v out = refl
  known_out (suc part) e i v out =
      none (λ n. first_row (n / 4) (n % 4) (written (suc part) (n / 4) (n % 4))) (λ n. ltb 0 (written (suc part) (n / 4) (n % 4)))
      (known_same (known_place e i v)) 0 (4 * width)
      (λ n low high. apart e i v (n / 4) (n % 4) (written (suc part) (n / 4) (n % 4)) (λ z a b. out z (omega arith) (omega arith)))

  unknown_in : (part v : ℕ) → v ≤ 3 → unknown_row (unknown_list part) 0 v ≡ unknown_if v (unknown_at part v)
  unknown_in zero v few = refl
  unknown_in (suc part) v few =
      found (λ n. first_unknown n (unknown_at (suc part) n)) (λ n. ltb 0 (unknown_at (suc part) n)) (unknown_same (unknown_place 0 v)) v
      (unknown_alike v v (unknown_at (suc part) v) refl)
      (λ m ne. unknown_apart 0 v m (unknown_at (suc part) m) (λ z a. ne (sym a)))
      0 4 (omega arith) (omega arith)

  unknown_out : (part e v : ℕ) → (e ≡ 0 → v ≤ 3 → ⊥) → unknown_row (unknown_list part) e v ≡ None
  unknown_out zero e v out = refl
  unknown_out (suc part) e v out =
      none (λ n. first_unknown n (unknown_at (suc part) n)) (λ n. ltb 0 (unknown_at (suc part) n)) (unknown_same (unknown_place e v)) 0 4
      (λ n low high. unknown_apart e v n (unknown_at (suc part) n) (λ z a. out z (omega arith)))

  module _ (small : IsSmallRun images records kept) where
    -- what a part writes is counted there
    counted_at : (part i v : ℕ) → writes part i v ≡ true → IsCountedAt (part_adds images records kept part) (names images records kept (suc part)) 0 i v
    counted_at part i v e =
        let at = and_parts (is_at (place_of (text (suc part) i) (names images records kept (suc part))) i) (is_counted ((part_adds images records kept part).known 0 (text (suc part) i) v)) e in
        record {
          name = text (suc part) i;
          number = at_some (place_of (text (suc part) i) (names images records kept (suc part))) i at.0;
          counted = counted ((part_adds images records kept part).known 0 (text (suc part) i) v) at.1;
        }

    counted_writes : (part i v : ℕ) → IsCountedAt (part_adds images records kept part) (names images records kept (suc part)) 0 i v → writes part i v ≡ true
    counted_writes part i v is =
        let all = names images records kept (suc part) in
        let adds = part_adds images records kept part in
        let same : text (suc part) i ≡ is.name = (stands is.name all i is.number).1 in
        and_from (is_at (place_of (text (suc part) i) all) i) (is_counted (adds.known 0 (text (suc part) i) v))
        (ap (λ (n : List ℕ). is_at (place_of n all) i) same ∙ ap (λ (o : Option ℕ). is_at o i) is.number ∙ eq-eqb i i refl)
        (is_counted_of images records kept small part (text (suc part) i) v (subst (λ (n : List ℕ). IsCounted (adds.known 0 n v)) (sym same) is.counted))

    known_inside : (part i v : ℕ) → i < width → v ≤ 3
        → RowGrows (IsCountedAt (part_adds images records kept part) (names images records kept (suc part)) 0 i v) (known_written 0 i v (suc part))
        (known_row (known_list part) 0 i v) (known_row (known_list (suc part)) 0 i v)
    known_inside part i v low few = by (writes part i v) refl
      where
        by : (t : Bool) → writes part i v ≡ t
            → RowGrows (IsCountedAt (part_adds images records kept part) (names images records kept (suc part)) 0 i v) (known_written 0 i v (suc part))
            (known_row (known_list part) 0 i v) (known_row (known_list (suc part)) 0 i v)
        by true t =
            let g : written (suc part) i v ≡ suc part = cond-true (writes part i v) (suc part) (written part i v) t in
            inl (
              counted_at part i v t,
              known_in (suc part) i v low few ∙ ap (λ (n : ℕ). row_if i v n) g
                  ∙ cond-true (ltb 0 (suc part)) (Some (first_row i v (suc part))) None (lt-ltb 0 (suc part) (omega arith)),
            )
        by false t =
            let g : written (suc part) i v ≡ written part i v = cond-false (writes part i v) (suc part) (written part i v) t in
            inr (λ is. true≢false (sym (counted_writes part i v is) ∙ t), known_in (suc part) i v low few ∙ ap (λ (n : ℕ). row_if i v n) g ∙ sym (known_in part i v low few))

    pub known_grows : (part : ℕ) → part < part_count records → (e i v : ℕ)
        → RowGrows (IsCountedAt (part_adds images records kept part) (names images records kept (suc part)) e i v) (known_written e i v (suc part))
        (known_row (known_list part) e i v) (known_row (known_list (suc part)) e i v)
    known_grows part there e i v = by (eqb e 0) (ltb i width) (leb v 3) refl refl refl
      where
        outside : (e ≡ 0 → i < width → v ≤ 3 → ⊥)
            → RowGrows (IsCountedAt (part_adds images records kept part) (names images records kept (suc part)) e i v) (known_written e i v (suc part))
            (known_row (known_list part) e i v) (known_row (known_list (suc part)) e i v)
        outside out = inr (
          λ is. let at = known_where images records kept small part e is.name v is.counted in
              out at.0 (omega (arith, (stands is.name (names images records kept (suc part)) i is.number).0, names_within images records kept small (suc part) (omega arith))) at.1,
          known_out (suc part) e i v out ∙ sym (known_out part e i v out),
        )

        by : (a b c : Bool) → eqb e 0 ≡ a → ltb i width ≡ b → leb v 3 ≡ c
            → RowGrows (IsCountedAt (part_adds images records kept part) (names images records kept (suc part)) e i v) (known_written e i v (suc part))
            (known_row (known_list part) e i v) (known_row (known_list (suc part)) e i v)
        by true true true p q r = subst (λ (n : ℕ). RowGrows (IsCountedAt (part_adds images records kept part) (names images records kept (suc part)) n i v) (known_written n i v (suc part))
            (known_row (known_list part) n i v) (known_row (known_list (suc part)) n i v)) (sym (eqb-true e 0 p)) (known_inside part i v (ltb-true i width q) (leb-true v 3 r))
        by false b c p q r = outside (λ z l f. eqb-false e 0 p z)
        by true false c p q r = outside (λ z l f. let h = ltb-false i width q in omega arith)
        by true true false p q r = outside (λ z l f. let h = leb-false v 3 r in omega arith)

    pub unknown_grows : (part : ℕ) → (e v : ℕ)
        → RowGrows (IsCounted ((part_adds images records kept part).unknown e v)) (unknown_written e v (suc part))
        (unknown_row (unknown_list part) e v) (unknown_row (unknown_list (suc part)) e v)
    unknown_grows part e v = by (eqb e 0) (leb v 3) refl refl
      where
        outside : (e ≡ 0 → v ≤ 3 → ⊥)
            → RowGrows (IsCounted ((part_adds images records kept part).unknown e v)) (unknown_written e v (suc part))
            (unknown_row (unknown_list part) e v) (unknown_row (unknown_list (suc part)) e v)
        outside out = inr (
          λ is. let at = unknown_where images records kept small part e v is in out at.0 at.1,
          unknown_out (suc part) e v out ∙ sym (unknown_out part e v out),
        )

        inside : (t : Bool) → is_counted ((part_adds images records kept part).unknown 0 v) ≡ t → v ≤ 3
            → RowGrows (IsCounted ((part_adds images records kept part).unknown 0 v)) (unknown_written 0 v (suc part))
            (unknown_row (unknown_list part) 0 v) (unknown_row (unknown_list (suc part)) 0 v)
        inside true t few =
            let g : unknown_at (suc part) v ≡ suc part = cond-true (is_counted ((part_adds images records kept part).unknown 0 v)) (suc part) (unknown_at part v) t in
            inl (
              counted ((part_adds images records kept part).unknown 0 v) t,
              unknown_in (suc part) v few ∙ ap (λ (n : ℕ). unknown_if v n) g
                  ∙ cond-true (ltb 0 (suc part)) (Some (first_unknown v (suc part))) None (lt-ltb 0 (suc part) (omega arith)),
            )
        inside false t few =
            let g : unknown_at (suc part) v ≡ unknown_at part v = cond-false (is_counted ((part_adds images records kept part).unknown 0 v)) (suc part) (unknown_at part v) t in
            inr (λ is. true≢false (sym (is_counted_at images records kept small part v is) ∙ t), unknown_in (suc part) v few ∙ ap (λ (n : ℕ). unknown_if v n) g ∙ sym (unknown_in part v few))

        by : (a c : Bool) → eqb e 0 ≡ a → leb v 3 ≡ c
            → RowGrows (IsCounted ((part_adds images records kept part).unknown e v)) (unknown_written e v (suc part))
            (unknown_row (unknown_list part) e v) (unknown_row (unknown_list (suc part)) e v)
        by true true p r = subst (λ (n : ℕ). RowGrows (IsCounted ((part_adds images records kept part).unknown n v)) (unknown_written n v (suc part))
            (unknown_row (unknown_list part) n v) (unknown_row (unknown_list (suc part)) n v)) (sym (eqb-true e 0 p))
            (inside (is_counted ((part_adds images records kept part).unknown 0 v)) refl (leb-true v 3 r))
        by false c p r = outside (λ z f. eqb-false e 0 p z)
        by true false p r = outside (λ z f. let h = leb-false v 3 r in omega arith)
