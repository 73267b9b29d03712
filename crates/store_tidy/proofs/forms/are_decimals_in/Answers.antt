-- A field fails, or all were read.
use Rattle.std.proofs.Common.{rules, arith, ◌≡◌, ℕ, ◌+◌, ◌<◌, ◌==◌, false, List, [], ◌∷◌, drop, length, get_or, None, Some, Option, refl, sym, ap, ◌∙◌, drop-cons, add-one}
use Rattle.std.specs.Prelude.{is_none}
use Rattle.std.specs.Borrow.{Bor}
use Rattle.std.proofs.lemmas.List.Splits.{length-slice_split}
use Rattle.std.proofs.lemmas.List.{drop_all}
use Rattle.store_tidy.specs.declared.forms.Range.{Range}
use Rattle.store_tidy.specs.FileForms.{cut_at_dots, is_decimal_in, are_decimals_in}
use Rattle.text_num.specs.Fields.{fields_behind}
use Rattle.store_tidy.proofs.forms.are_decimals_in.Goals as goal

-- the ranges that are left
left : (ranges : List Range) (i : ℕ) (d : Range) → i < length ranges → drop i ranges ≡ get_or ranges i d ∷ drop (i + 1) ranges
left ranges i d within = rw add-one (drop-cons ranges i d within)

-- no field for a range
none_for : (ranges : List Range) (i : ℕ) (d : Range) → i < length ranges → are_decimals_in (drop i ranges) [] ≡ false
none_for ranges i d within = rw (left ranges i d within) refl

-- a field that fails
fails : (ranges : List Range) (i : ℕ) (d : Range) (field : List ℕ) (fields all : List (List ℕ)) → i < length ranges → all ≡ field ∷ fields → is_decimal_in (get_or ranges i d) field ≡ false → are_decimals_in (drop i ranges) all ≡ false
fails ranges i d field fields all within is bad = rw (is, left ranges i d within, bad) refl

-- no field without a range
more_fields : (fields : List (List ℕ)) → 0 < length fields → are_decimals_in [] fields ≡ false
more_fields [] some = absurd (omega arith)
more_fields (field ∷ fields) some = refl

none_behind : (rest : Option (Bor (List ℕ))) → is_none rest ≡ are_decimals_in [] (fields_behind 46 rest)
none_behind None = refl
none_behind (Some text) = sym (more_fields (cut_at_dots text.now) (omega (arith, length-slice_split (λ (b : ℕ). b == 46) text.now)))

pub returns-in_default : goal.returns-in_default
returns-in_default c =
    let none = none_for c.args.ranges.now c.loop-range.range-index (record { low = 0; high = 0 }) c.loop-range-test.true in
    sym none ∙ ap (λ o. are_decimals_in (drop c.loop-range.range-index c.args.ranges.now) (fields_behind 46 o)) (sym c.in_default.is) ∙ c.loop-range.invariant

pub returns-then-not-is_decimal_in : goal.returns-then-not-is_decimal_in
returns-then-not-is_decimal_in c =
    let bad = fails c.args.ranges.now c.loop-range.range-index (record { low = 0; high = 0 }) c.cut_field.result.0.now (fields_behind 46 c.cut_field.result.1) (cut_at_dots c.in-Some.fields.now) c.loop-range-test.true c.cut_field.ensures (sym c.is_decimal_in.ensures ∙ c.if-not-is_decimal_in.true) in
    sym bad ∙ ap (λ o. are_decimals_in (drop c.loop-range.range-index c.args.ranges.now) (fields_behind 46 o)) (sym c.in-Some.is) ∙ c.loop-range.invariant

pub returns : goal.returns
returns c =
    let over : drop c.loop-range.range-index c.args.ranges.now ≡ [] = drop_all c.loop-range.range-index c.args.ranges.now c.loop-range-test.false in
    let none : c.is_none.result ≡ is_none c.loop-range.rest = search rules in
    none ∙ none_behind c.loop-range.rest ∙ ap (λ rs. are_decimals_in rs (fields_behind 46 c.loop-range.rest)) (sym over) ∙ c.loop-range.invariant
