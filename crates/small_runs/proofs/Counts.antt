-- What the first parts of a small run add, and the names that they bring.
use Rattle.std.proofs.Common.{◌≡◌, ℕ, zero, suc, ◌+◌, ◌*◌, ◌<◌, ◌≤◌, ◌&&◌, ◌||◌, Bool, true, false, List, [], ◌++◌, length, refl, sym, ◌∙◌, ap, subst, arith, inl, inr, Option, Some, None}
use Rattle.std.specs.Prelude.{filter}
use Rattle.std.specs.Option.{is_none}
use Rattle.std.proofs.Math.Nat.{mul-suc, mul-le-mul_left}
use Rattle.std.proofs.lemmas.Bool.{and_parts, and_from, or_cases, or_left, or_right, true_from_ne_false, true≢false}
use Rattle.std.proofs.lemmas.List.{length-append}
use Rattle.std.proofs.lemmas.List.Sums.{length-filter, count_by-le-length}
use Rattle.image_catalog.specs.Images.{place_of}
use Rattle.trace_model.specs.declared.notices.Record.{Record}
use Rattle.database_model.specs.declared.profiles.ProfileRow.{ProfileRow}
use Rattle.database_model.specs.Ranges.{AreRows}
use Rattle.database_model.specs.Runs.{Recorded}
use Rattle.run_model.specs.Shares.{drains_in_part}
use Rattle.growth_model.specs.Additions.{Additions, additions_of, known_drained, unknown_drained}
use Rattle.growth_model.specs.Growth.{count_at, IsCounted, IsNewName}
use Rattle.growth_model.specs.Grown.{part_count}
use Rattle.small_runs.specs.Small.{IsSmallRun}
use Rattle.small_runs.proofs.Profiles.{AreCounts, profile, are_rows, counts_are, is_counted, counted, not_counted}
use Rattle.growth_model.proofs.Weights.{known_weight, known_total, unknown_weight, unknown_total}
use Rattle.small_runs.proofs.Sharing.{upto, at_most_all, one_part}

none_is : {A : Type 0} (o : Option A) → is_none o ≡ true → o ≡ None
none_is None e = refl
none_is (Some x) e = absurd cc

is_none_of : {A : Type 0} (o : Option A) → o ≡ None → is_none o ≡ true
is_none_of o e = ap is_none e

-- a test of each of four events
abbrev pub any_event : (ℕ → Bool) → Bool
any_event test = test 0 || (test 1 || (test 2 || test 3))

-- an event passes
record Passes (test : ℕ → Bool) : Type 0 where
  event : ℕ
  passes : test event ≡ true

one_event : (test : ℕ → Bool) → any_event test ≡ true → Passes test
one_event test e = elim (or_cases (test 0) _ e) as (λ z. Passes test) [
  | inl a ↦ record { event = 0; passes = a }
  | inr f ↦ elim (or_cases (test 1) _ f) as (λ z. Passes test) [
    | inl b ↦ record { event = 1; passes = b }
    | inr g ↦ elim (or_cases (test 2) _ g) as (λ z. Passes test) [
      | inl c ↦ record { event = 2; passes = c }
      | inr d ↦ record { event = 3; passes = d }
    ]
  ]
]

of_event : (test : ℕ → Bool) (event : ℕ) → event ≤ 3 → test event ≡ true → any_event test ≡ true
of_event test zero few e = or_left (test 0) _ e
of_event test (suc zero) few e = or_right (test 0) _ (or_left (test 1) _ e)
of_event test (suc (suc zero)) few e = or_right (test 0) _ (or_right (test 1) _ (or_left (test 2) _ e))
of_event test (suc (suc (suc zero))) few e = or_right (test 0) _ (or_right (test 1) _ (or_right (test 2) _ e))
of_event test (suc (suc (suc (suc n)))) few e = absurd (omega arith)

module _ (images : List (List ℕ)) (records : List Record) (kept : Recorded) where
  -- what a part adds
  abbrev pub part_adds : ℕ → Additions
  part_adds part = additions_of images records (drains_in_part records part kept.drains)

  -- what the first parts add
  abbrev pub known_to : ℕ → ℕ → List ℕ → ℕ → ℕ → ℕ
  known_to zero e name v o = 0
  known_to (suc part) e name v o = known_to part e name v o + (part_adds part).known e name v o

  abbrev pub unknown_to : ℕ → ℕ → ℕ → ℕ → ℕ
  unknown_to zero e v o = 0
  unknown_to (suc part) e v o = unknown_to part e v o + (part_adds part).unknown e v o

  -- the rows that stand after the first parts
  abbrev pub known_rows : ℕ → ℕ → List ℕ → ℕ → List ProfileRow
  known_rows zero e name v = []
  known_rows (suc part) e name v = profile (known_to (suc part) e name v)

  abbrev pub unknown_rows : ℕ → ℕ → ℕ → List ProfileRow
  unknown_rows zero e v = []
  unknown_rows (suc part) e v = profile (unknown_to (suc part) e v)

  -- whether a part brings a name
  abbrev pub is_new : ℕ → List (List ℕ) → List ℕ → Bool
  is_new part held name = is_none (place_of name held) && any_event (λ v. is_counted ((part_adds part).known 0 name v))

  -- the names after the first parts
  abbrev pub names : ℕ → List (List ℕ)
  names zero = []
  names (suc part) = names part ++ filter (is_new part (names part)) images

  module _ (small : IsSmallRun images records kept) where
    all_adds : Additions
    all_adds = additions_of images records kept.drains

    known_upto : (part e : ℕ) (name : List ℕ) (v o : ℕ) → known_to part e name v o ≡ upto records (known_weight images records e name v o) part kept.drains
    unfolding upto
    known_upto zero e name v o = refl
    known_upto (suc part) e name v o =
        omega (arith, known_upto part e name v o, known_total images records e name v o (drains_in_part records part kept.drains))

    unknown_upto : (part e v o : ℕ) → unknown_to part e v o ≡ upto records (unknown_weight records e v o) part kept.drains
    unfolding upto
    unknown_upto zero e v o = refl
    unknown_upto (suc part) e v o = omega (arith, unknown_upto part e v o, unknown_total records e v o (drains_in_part records part kept.drains))

    known_less : (part e : ℕ) (name : List ℕ) (v o : ℕ) → known_to part e name v o ≤ known_drained images records e name v o kept.drains
    known_less part e name v o =
        omega (arith, known_upto part e name v o, at_most_all records (known_weight images records e name v o) part kept.drains, known_total images records e name v o kept.drains)

    unknown_less : (part e v o : ℕ) → unknown_to part e v o ≤ unknown_drained records e v o kept.drains
    unknown_less part e v o =
        omega (arith, unknown_upto part e v o, at_most_all records (unknown_weight records e v o) part kept.drains, unknown_total records e v o kept.drains)

    known_part : (part e : ℕ) (name : List ℕ) (v o : ℕ) → (part_adds part).known e name v o ≤ known_drained images records e name v o kept.drains
    known_part part e name v o =
        omega (arith, known_total images records e name v o (drains_in_part records part kept.drains), one_part records (known_weight images records e name v o) part kept.drains, known_total images records e name v o kept.drains)

    unknown_part : (part e v o : ℕ) → (part_adds part).unknown e v o ≤ unknown_drained records e v o kept.drains
    unknown_part part e v o =
        omega (arith, unknown_total records e v o (drains_in_part records part kept.drains), one_part records (unknown_weight records e v o) part kept.drains, unknown_total records e v o kept.drains)

    -- they are counts of a profile
    pub known_are : (part e : ℕ) (name : List ℕ) (v : ℕ) → AreCounts (known_to part e name v)
    known_are part e name v = record {
      most = λ o. omega (arith, known_less part e name v o, small.small.known e name v o);
      at = λ o some. let a = small.small.known_at e name v o (omega (arith, known_less part e name v o)) in (a.2, a.3);
    }

    pub unknown_are : (part e v : ℕ) → AreCounts (unknown_to part e v)
    unknown_are part e v = record {
      most = λ o. omega (arith, unknown_less part e v o, small.small.unknown e v o);
      at = λ o some. let a = small.small.unknown_at e v o (omega (arith, unknown_less part e v o)) in (a.2, a.3);
    }

    pub known_added : (part e : ℕ) (name : List ℕ) (v : ℕ) → AreCounts ((part_adds part).known e name v)
    known_added part e name v = record {
      most = λ o. omega (arith, known_part part e name v o, small.small.known e name v o);
      at = λ o some. let a = small.small.known_at e name v o (omega (arith, known_part part e name v o)) in (a.2, a.3);
    }

    pub unknown_added : (part e v : ℕ) → AreCounts ((part_adds part).unknown e v)
    unknown_added part e v = record {
      most = λ o. omega (arith, unknown_part part e v o, small.small.unknown e v o);
      at = λ o some. let a = small.small.unknown_at e v o (omega (arith, unknown_part part e v o)) in (a.2, a.3);
    }

    -- where something is added, it is in the first epoch and of an event
    pub known_where : (part e : ℕ) (name : List ℕ) (v : ℕ) → IsCounted ((part_adds part).known e name v) → (e ≡ 0) × (v ≤ 3)
    known_where part e name v is =
        let some : 0 < (part_adds part).known e name v is.offset = is.some in
        let a = small.small.known_at e name v is.offset (omega (arith, known_part part e name v is.offset)) in (a.0, a.1)

    pub unknown_where : (part e v : ℕ) → IsCounted ((part_adds part).unknown e v) → (e ≡ 0) × (v ≤ 3)
    unknown_where part e v is =
        let some : 0 < (part_adds part).unknown e v is.offset = is.some in
        let a = small.small.unknown_at e v is.offset (omega (arith, unknown_part part e v is.offset)) in (a.0, a.1)

    -- the rows are those of a profile
    pub known_rows_are : (part e : ℕ) (name : List ℕ) (v : ℕ) → AreRows (known_rows part e name v)
    known_rows_are zero e name v = tt
    known_rows_are (suc part) e name v = are_rows (known_to (suc part) e name v) (known_are (suc part) e name v)

    pub unknown_rows_are : (part e v : ℕ) → AreRows (unknown_rows part e v)
    unknown_rows_are zero e v = tt
    unknown_rows_are (suc part) e v = are_rows (unknown_to (suc part) e v) (unknown_are (suc part) e v)

    pub known_counts : (part e : ℕ) (name : List ℕ) (v o : ℕ) → count_at (known_rows part e name v) o ≡ known_to part e name v o
    known_counts zero e name v o = refl
    known_counts (suc part) e name v o = counts_are (known_to (suc part) e name v) (known_are (suc part) e name v) o

    pub unknown_counts : (part e v o : ℕ) → count_at (unknown_rows part e v) o ≡ unknown_to part e v o
    unknown_counts zero e v o = refl
    unknown_counts (suc part) e v o = counts_are (unknown_to (suc part) e v) (unknown_are (suc part) e v) o

    -- a name that a part brings is new and has a count
    pub new_holds : (part : ℕ) (held : List (List ℕ)) (name : List ℕ) → is_new part held name ≡ true → IsNewName held (part_adds part) name
    new_holds part held name e =
        let test : ℕ → Bool = λ v. is_counted ((part_adds part).known 0 name v) in
        let parts = and_parts (is_none (place_of name held)) (any_event test) e in
        let some = one_event test parts.1 in
        record {
          fresh = none_is (place_of name held) parts.0;
          epoch = 0;
          event = some.event;
          counted = counted ((part_adds part).known 0 name some.event) some.passes;
        }

    pub is_counted_of : (part : ℕ) (name : List ℕ) (v : ℕ) → IsCounted ((part_adds part).known 0 name v) → is_counted ((part_adds part).known 0 name v) ≡ true
    is_counted_of part name v is =
        true_from_ne_false (is_counted ((part_adds part).known 0 name v))
        (λ no. not_counted ((part_adds part).known 0 name v) (known_added part 0 name v) no is)

    pub is_counted_at : (part v : ℕ) → IsCounted ((part_adds part).unknown 0 v) → is_counted ((part_adds part).unknown 0 v) ≡ true
    is_counted_at part v is =
        true_from_ne_false (is_counted ((part_adds part).unknown 0 v))
        (λ no. not_counted ((part_adds part).unknown 0 v) (unknown_added part 0 v) no is)

    pub new_fails : (part : ℕ) (held : List (List ℕ)) (name : List ℕ) → is_new part held name ≡ false → IsNewName held (part_adds part) name → ⊥
    new_fails part held name e new =
        let test : ℕ → Bool = λ v. is_counted ((part_adds part).known 0 name v) in
        let at = known_where part new.epoch name new.event new.counted in
        let is : IsCounted ((part_adds part).known 0 name new.event) = subst (λ (n : ℕ). IsCounted ((part_adds part).known n name new.event)) at.0 new.counted in
        let yes : is_new part held name ≡ true
        = and_from (is_none (place_of name held)) (any_event test) (is_none_of (place_of name held) new.fresh)
        (of_event test new.event at.1 (is_counted_of part name new.event is)) in
        true≢false (sym yes ∙ e)

    -- each part brings no more names than the trace has
    pub few_names : (part : ℕ) → length (names part) ≤ length images * part
    few_names zero = omega arith
    few_names (suc part) =
        omega (
          arith,
          few_names part,
          length-append (names part) (filter (is_new part (names part)) images),
          length-filter (is_new part (names part)) images,
          count_by-le-length (is_new part (names part)) images,
          mul-suc (length images) part,
        )

    pub names_within : (part : ℕ) → part ≤ part_count records → length (names part) ≤ length images * part_count records
    names_within part within = let m : length images * part ≤ length images * part_count records = mul-le-mul_left (length images) within in omega (arith, few_names part)
