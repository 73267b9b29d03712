-- The verdict on a line, test by test.
use Rattle.std.proofs.Common.{◌≡◌, ℕ, ◌&&◌, Bool, true, false, not, List, [], ◌∷◌, refl, ap, sym, ◌∙◌, Option, Some, None, Err, if◌then◌else◌}
use Rattle.std.proofs.lemmas.Bool.{and_parts, true≢false, false≢true}
use Rattle.trace_model.specs.declared.reasons.TraceWhy.{TraceWhy}
use Rattle.trace_model.specs.declared.reasons.TraceWhy.TheVariants.{BadNumber, OutOfRange, Unaligned, BadName}
use Rattle.trace_model.specs.Said.{Said, ShortHeader, LongHeader, Sampled, Scanned, Loaded, Unloaded, Executed, Exited, KernelMapped, Drained, Merged, EpochBegun, Ended, Turned, Polled, Advanced, every, tested, is_spelled, is_within, is_aligned, is_titled, values_of}
use Rattle.trace_model.specs.Grammar.{verdict_on, judged, first_that_applies, value_tests, context_tests, scans_too_late, is_sample_too_many, is_record_too_many, names_no_cpu}
use Rattle.trace_text.specs.Forms.{field_value, read_field}

swap_and : (a b c d : Bool) → ((a && b) && (c && d)) ≡ ((a && c) && (b && d))
swap_and true true c d = refl
swap_and true false true d = refl
swap_and true false false d = refl
swap_and false b c d = refl

pub and_true : (b : Bool) → (b && true) ≡ b
and_true true = refl
and_true false = refl

-- two tests of each are each test of each
every_and : {A : Type 0} (p q : A → Bool) (xs : List A) → every (λ x. p x && q x) xs ≡ (every p xs && every q xs)
every_and p q [] = refl
every_and p q (x ∷ []) = refl
every_and p q (x ∷ y ∷ more) = ap (λ b. (p x && q x) && b) (every_and p q (y ∷ more)) ∙ swap_and (p x) (q x) (every p (y ∷ more)) (every q (y ∷ more))

-- the ranges of the values are those of the texts' values
values_within : (raw : Said (List ℕ)) → every is_within (tested (values_of raw)) ≡ every (λ f. is_within (field_value f)) (tested raw)
values_within (ShortHeader cpus) = and_true _
values_within (LongHeader cpus buckets buffer) = refl
values_within (Sampled cpu pid pc event) = refl
values_within (Scanned pid base size image) = refl
values_within (Loaded pid base size image) = refl
values_within (Unloaded pid base size) = refl
values_within (Executed pid base size image) = refl
values_within (Exited pid) = refl
values_within (KernelMapped base size image) = refl
values_within Drained = refl
values_within Merged = refl
values_within EpochBegun = refl
values_within Ended = refl
values_within (Turned cpu) = refl
values_within (Polled cpu cell) = refl
values_within Advanced = refl

-- the fields read are those that are canonical and in their ranges
pub read_parts : (raw : Said (List ℕ)) → every read_field (tested raw) ≡ (every is_spelled (tested raw) && every is_within (tested (values_of raw)))
read_parts raw = every_and is_spelled (λ f. is_within (field_value f)) (tested raw) ∙ ap (λ b. every is_spelled (tested raw) && b) (sym (values_within raw))

-- the tests one after another
abbrev outcome : Bool → Bool → Bool → Bool → Option TraceWhy → Option TraceWhy
outcome spelled within aligned titled rest =
    if not spelled then Some BadNumber else (if not within then Some OutOfRange else (if not aligned then Some Unaligned else (if not titled then Some BadName else rest)))

module _ (before : List (Said ℕ)) (raw : Said (List ℕ)) where
  abbrev spelled : Bool
  spelled = every is_spelled (tested raw)

  abbrev within : Bool
  within = every is_within (tested (values_of raw))

  abbrev aligned : Bool
  aligned = every is_aligned (tested (values_of raw))

  abbrev titled : Bool
  titled = every is_titled (tested (values_of raw))

  by_tests : verdict_on before raw ≡ judged (values_of raw) (outcome spelled within aligned titled (first_that_applies (context_tests before (values_of raw))))
  by_tests = refl

  not_both : (s w : Bool) → (s && w) ≡ false → s ≡ true → w ≡ false
  not_both true w e h = e
  not_both false w e h = absurd (false≢true h)

  pub not_spelled : spelled ≡ false → verdict_on before raw ≡ Err BadNumber
  not_spelled h = by_tests ∙ ap (λ s. judged (values_of raw) (outcome s within aligned titled (first_that_applies (context_tests before (values_of raw))))) h

  pub not_within : spelled ≡ true → every read_field (tested raw) ≡ false → verdict_on before raw ≡ Err OutOfRange
  not_within h e = by_tests ∙ (λ i. judged (values_of raw) (outcome (h i) (not_both spelled within (sym (read_parts raw) ∙ e) h i) aligned titled (first_that_applies (context_tests before (values_of raw)))))

  module _ (read : every read_field (tested raw) ≡ true) where
    fields : (spelled ≡ true) × (within ≡ true)
    fields = and_parts spelled within (sym (read_parts raw) ∙ read)

    pub not_aligned : aligned ≡ false → verdict_on before raw ≡ Err Unaligned
    not_aligned a = by_tests ∙ (λ i. judged (values_of raw) (outcome (fields.0 i) (fields.1 i) (a i) titled (first_that_applies (context_tests before (values_of raw)))))

    pub not_titled : aligned ≡ true → titled ≡ false → verdict_on before raw ≡ Err BadName
    not_titled a t = by_tests ∙ (λ i. judged (values_of raw) (outcome (fields.0 i) (fields.1 i) (a i) (t i) (first_that_applies (context_tests before (values_of raw)))))

    pub by_context : (rest : Option TraceWhy) → aligned ≡ true → titled ≡ true → first_that_applies (context_tests before (values_of raw)) ≡ rest → verdict_on before raw ≡ judged (values_of raw) rest
    by_context rest a t c = by_tests ∙ (λ i. judged (values_of raw) (outcome (fields.0 i) (fields.1 i) (a i) (t i) (c i)))

    pub all_pass : aligned ≡ true → titled ≡ true → first_that_applies (context_tests before (values_of raw)) ≡ None → first_that_applies (value_tests before (values_of raw)) ≡ None
    all_pass a t c = λ i. outcome true (fields.1 i) (a i) (t i) (c i)

-- what passes the tests of values
pub record Passes (before : List (Said ℕ)) (said : Said ℕ) : Type 0 where
  pub within : every is_within (tested said) ≡ true
  pub aligned : every is_aligned (tested said) ≡ true
  pub titled : every is_titled (tested said) ≡ true
  pub has_cpu : names_no_cpu before said ≡ false
  pub in_time : scans_too_late before said ≡ false
  pub sample_room : is_sample_too_many before said ≡ false
  pub record_room : is_record_too_many before said ≡ false

first_none : (b : Bool) (why : TraceWhy) (rest : Option TraceWhy) → (if b then Some why else rest) ≡ None → (b ≡ false) × (rest ≡ None)
first_none true why rest e = absurd (some_none e)
  where
    some_none : Some why ≡ None → ⊥
    some_none e = cc
first_none false why rest e = (refl, e)

not_not : (b : Bool) → not b ≡ false → b ≡ true
not_not true h = refl
not_not false h = absurd (true≢false h)

pub passes : (before : List (Said ℕ)) (said : Said ℕ) → first_that_applies (value_tests before said) ≡ None → Passes before said
passes before said e =
    let a = first_none _ _ _ e in let b = first_none _ _ _ a.1 in let c = first_none _ _ _ b.1 in
    let d = first_none _ _ _ c.1 in let f = first_none _ _ _ d.1 in let g = first_none _ _ _ f.1 in let h = first_none _ _ _ g.1 in
    record { within = not_not _ a.0; aligned = not_not _ b.0; titled = not_not _ c.0; has_cpu = d.0; in_time = f.0; sample_room = g.0; record_room = h.0 }
