-- One line of the body: judged, and taken.
use Rattle.std.proofs.Common.{◌≡◌, ℕ, ◌%◌, ◌<◌, Bool, true, false, List, [], ◌∷◌, map, refl, ap, sym, subst, ◌∙◌, arith, Option, Some, None, Ok, Err, if◌then◌else◌}
use Rattle.std.specs.List.{list_any, count_by}
use Rattle.std.proofs.lemmas.Bool.{eq-eqb, eqb-true, leb-false, or_parts}
use Rattle.trace_model.specs.declared.reasons.TraceWhy.{TraceWhy}
use Rattle.trace_model.specs.declared.reasons.TraceWhy.TheVariants.{BadWord, BadNumber, OutOfRange, Unaligned, BadName}
use Rattle.trace_model.specs.declared.notices.Record.TheVariants.{Scan, Load, Unload, Exec, Exit, Kernel, Drain, Merge, Epoch}
use Rattle.trace_model.specs.declared.notices.Line.{Line}
use Rattle.trace_model.specs.declared.notices.Line.TheVariants.{Sample, Rec}
use Rattle.trace_model.specs.Said.{Said, Ended, every, tested, is_spelled, is_aligned, is_titled, is_record, is_sample, is_end, values_of}
use Rattle.trace_model.specs.Grammar.{verdict, verdict_on, verdict_of_form, stage_after, form_at, body_of, cut_at_spaces, AtBody, AtSchedule, why_no_form, judged, first_that_applies, value_tests, context_tests, is_record_too_many}
use Rattle.trace_model.specs.Recording.{line_said}
use Rattle.trace_model.specs.declared.limits.TheConstants.{MOST_RECORDS}
use Rattle.sample_key.specs.declared.limits.TheConstants.{MOST_SAMPLES}
use Rattle.trace_text.specs.declared.body_lines.NoticeLine.TheVariants as notices
use Rattle.trace_text.specs.declared.body_lines.SampleLine.{SampleLine}
use Rattle.trace_text.specs.declared.body.Body.{Body}
use Rattle.trace_text.specs.Forms.{BodyValues, NoticeValues, notice_values, sample_values, values_shown, read_field}
use Rattle.trace_text.specs.Faults.{sample_fault}
use Rattle.trace_text.specs.Sampling.{IsGoodSample, ReadsSample}
use Rattle.trace_text.specs.State.{FaultOf, IsSound, Passes, said_in_body}
use Rattle.trace_text.specs.declared.body.Taken.{Taken}
use Rattle.trace_text.specs.declared.body.Taken.TheVariants as kinds
use Rattle.trace_text.specs.Taking.{Adds, IsIndexed, TakesLine}
use Rattle.trace_text.proofs.Judged.{not_spelled, not_within, not_aligned, not_titled, by_context, all_pass, passes}

none_some : {A : Type 0} (x : A) → None ≡ Some x → ⊥
none_some x e = cc

some_none : {A : Type 0} (x : A) → Some x ≡ None → ⊥
some_none x e = cc

some_same : {A : Type 0} (x y : A) → Some x ≡ Some y → x ≡ y
some_same x y e = cc

pub none_if : {A : Type 0} (b : Bool) (x : A) → None ≡ (if b then Some x else None) → b ≡ false
none_if true x e = absurd (none_some x e)
none_if false x e = refl

pub some_if : {A : Type 0} (b : Bool) (x y : A) → Some y ≡ (if b then Some x else None) → (b ≡ true) × (y ≡ x)
some_if true x y e = (refl, some_same y x e)
some_if false x y e = absurd (some_none y e)

module _ (before : List (Said ℕ)) (raw : Said (List ℕ)) where
  -- no values were read
  pub unread : (spelled : Bool) (why : TraceWhy) → None ≡ (if every read_field (tested raw) then Some (values_of raw) else None)
      → spelled ≡ every is_spelled (tested raw) → why ≡ (if spelled then OutOfRange else BadNumber) → verdict_on before raw ≡ Err why
  unread true why e s w = not_within before raw (sym s) (none_if (every read_field (tested raw)) (values_of raw) e) ∙ ap (λ x. Err x) (sym w)
  unread false why e s w = not_spelled before raw (sym s) ∙ ap (λ x. Err x) (sym w)

  module _ (said : Said ℕ) (e : Some said ≡ (if every read_field (tested raw) then Some (values_of raw) else None)) where
    read : (every read_field (tested raw) ≡ true) × (said ≡ values_of raw)
    read = some_if (every read_field (tested raw)) (values_of raw) said e

    as_read : (test : Said ℕ → Bool) (b : Bool) → b ≡ test said → test (values_of raw) ≡ b
    as_read test b h = ap test (sym read.1) ∙ sym h

    pub unaligned : false ≡ every is_aligned (tested said) → verdict_on before raw ≡ Err Unaligned
    unaligned a = not_aligned before raw read.0 (as_read (λ s. every is_aligned (tested s)) false a)

    pub untitled : true ≡ every is_aligned (tested said) → false ≡ every is_titled (tested said) → verdict_on before raw ≡ Err BadName
    untitled a t = not_titled before raw read.0 (as_read (λ s. every is_aligned (tested s)) true a) (as_read (λ s. every is_titled (tested s)) false t)

    pub against : (why : TraceWhy) → true ≡ every is_aligned (tested said) → true ≡ every is_titled (tested said) → Some why ≡ first_that_applies (context_tests before said) → verdict_on before raw ≡ Err why
    against why a t c = by_context before raw read.0 (Some why) (as_read (λ s. every is_aligned (tested s)) true a) (as_read (λ s. every is_titled (tested s)) true t)
        (ap (λ s. first_that_applies (context_tests before s)) (sym read.1) ∙ sym c)

    pub good : true ≡ every is_aligned (tested said) → true ≡ every is_titled (tested said) → None ≡ first_that_applies (context_tests before said) → verdict_on before raw ≡ Ok said
    good a t c = by_context before raw read.0 None (as_read (λ s. every is_aligned (tested s)) true a) (as_read (λ s. every is_titled (tested s)) true t)
        (ap (λ s. first_that_applies (context_tests before s)) (sym read.1) ∙ sym c) ∙ ap (λ s. Ok s) (sym read.1)

    pub passing : true ≡ every is_aligned (tested said) → true ≡ every is_titled (tested said) → None ≡ first_that_applies (context_tests before said) → first_that_applies (value_tests before said) ≡ None
    passing a t c = subst (λ s. first_that_applies (value_tests before s) ≡ None) (sym read.1)
        (all_pass before raw read.0 (as_read (λ s. every is_aligned (tested s)) true a) (as_read (λ s. every is_titled (tested s)) true t)
        (ap (λ s. first_that_applies (context_tests before s)) (sym read.1) ∙ sym c))

-- what is said against the values is what is said against their kind
pub by_kind : (b : Body) (v w : NoticeValues) (x : Option TraceWhy) → v ≡ w → FaultOf (said_in_body b) (notice_values w) x → FaultOf (said_in_body b) (notice_values v) x
by_kind b v w x e h = h ∙ ap (λ (u : NoticeValues). first_that_applies (context_tests (said_in_body b) (notice_values u))) (sym e)

pub by_line : (b : Body) (v w : BodyValues) (x : Option TraceWhy) → v ≡ w → FaultOf (said_in_body b) (values_shown w) x → FaultOf (said_in_body b) (values_shown v) x
by_line b v w x e h = h ∙ ap (λ (u : BodyValues). first_that_applies (context_tests (said_in_body b) (values_shown u))) (sym e)

-- a record that passes is one of at most 65,536
few : (before : List (Said ℕ)) (v : NoticeValues) → is_record_too_many before (notice_values v) ≡ false → count_by is_record before < MOST_RECORDS
few before (notices.Scan m) h = leb-false _ _ h
few before (notices.Load m) h = leb-false _ _ h
few before (notices.Unload pid base size) h = leb-false _ _ h
few before (notices.Exec m) h = leb-false _ _ h
few before (notices.Exit pid) h = leb-false _ _ h
few before (notices.Kernel base size image) h = leb-false _ _ h
few before notices.Drain h = leb-false _ _ h
few before notices.Merge h = leb-false _ _ (or_parts _ _ h).0
few before notices.Epoch h = leb-false _ _ (or_parts _ _ h).0

pub few_records : (b : Body) (v : NoticeValues) → IsSound b → Passes (said_in_body b) (notice_values v) → b.records < MOST_RECORDS
few_records b v s p = omega (arith, few (said_in_body b) v ((passes (said_in_body b) (notice_values v) p).record_room), s.tracks.records_are)

-- a sample that passes has room, and its address is a multiple of 4
pub sample_fits : (b : Body) (s : SampleLine ℕ ℕ) → IsSound b → Passes (said_in_body b) (sample_values s) → (b.samples < MOST_SAMPLES) × (s.pc % 4 ≡ 0)
sample_fits b s sound p = let q = passes (said_in_body b) (sample_values s) p in
    (omega (arith, leb-false MOST_SAMPLES (count_by is_sample (said_in_body b)) q.sample_room, sound.tracks.samples_are), eqb-true (s.pc % 4) 0 q.aligned)

-- a record that passes has room, and its image has a name
pub notice_fits : (b : Body) (v : NoticeValues) → IsSound b → Passes (said_in_body b) (notice_values v) → IsIndexed b × (every is_titled (tested (notice_values v)) ≡ true)
notice_fits b v sound p = ((sound.index, omega (arith, few_records b v sound p, sound.tracks.few_images)), (passes (said_in_body b) (notice_values v) p).titled)

-- the values of a line pass where the line does
pub passes_as : (before : List (Said ℕ)) (v w : BodyValues) → v ≡ w → Passes before (values_shown v) → Passes before (values_shown w)
passes_as before v w e h = subst (λ (u : BodyValues). Passes before (values_shown u)) e h

pub adds_as : (taken : Taken) (old new : Body) (v w : BodyValues) → v ≡ w → Adds taken old (values_shown w) new → Adds taken old (values_shown v) new
adds_as taken old new v w e h = subst (λ (u : BodyValues). Adds taken old (values_shown u) new) (sym e) h

-- no line of the body is the end
no_end_in : (images : List (List ℕ)) (lines : List Line) → list_any is_end (map (line_said images) lines) ≡ false
no_end_in images [] = refl
no_end_in images (Sample cpu key ∷ lines) = no_end_in images lines
no_end_in images (Rec (Scan pid base size image) ∷ lines) = no_end_in images lines
no_end_in images (Rec (Load pid base size image) ∷ lines) = no_end_in images lines
no_end_in images (Rec (Unload pid base size) ∷ lines) = no_end_in images lines
no_end_in images (Rec (Exec pid base size image) ∷ lines) = no_end_in images lines
no_end_in images (Rec (Exit pid) ∷ lines) = no_end_in images lines
no_end_in images (Rec (Kernel base size image) ∷ lines) = no_end_in images lines
no_end_in images (Rec Drain ∷ lines) = no_end_in images lines
no_end_in images (Rec Merge ∷ lines) = no_end_in images lines
no_end_in images (Rec Epoch ∷ lines) = no_end_in images lines

pub no_end : (b : Body) → list_any is_end (said_in_body b) ≡ false
no_end b = no_end_in b.images.items b.lines.items

pub stage_is : (b : Body) → stage_after (said_in_body b) ≡ AtBody
stage_is b = ap (λ e. if e then AtSchedule else AtBody) (no_end b)

-- the verdict on a line of the body goes by its form
pub by_form : (b : Body) (line : List ℕ) (raw : Said (List ℕ)) → Some raw ≡ body_of (cut_at_spaces line) → verdict (said_in_body b) line ≡ verdict_on (said_in_body b) raw
by_form b line raw e = ap (λ s. verdict_of_form (said_in_body b) (form_at s (cut_at_spaces line))) (stage_is b) ∙ ap (λ o. verdict_of_form (said_in_body b) o) (sym e)

pub by_no_form : (b : Body) (line : List ℕ) → None ≡ body_of (cut_at_spaces line) → verdict (said_in_body b) line ≡ Err BadWord
by_no_form b line e = ap (λ s. verdict_of_form (said_in_body b) (form_at s (cut_at_spaces line))) (stage_is b) ∙ ap (λ o. verdict_of_form (said_in_body b) o) (sym e)
    ∙ ap (λ s. Err (why_no_form s)) (stage_is b)

-- what was taken says the line
pub takes : (taken : Taken) (old new : Body) (line : List ℕ) (raw : Said (List ℕ)) (said : Said ℕ) → Some raw ≡ body_of (cut_at_spaces line) → verdict_on (said_in_body old) raw ≡ Ok said
    → Adds taken old said new → TakesLine taken old line new
takes kinds.Line old new line raw said e judged a = (a.0, a.1, (said, by_form old line raw e ∙ judged, a.2))
takes kinds.End old new line raw said e judged a = (a.0, (Ended, by_form old line raw e ∙ judged ∙ ap (λ s. Ok s) a.1, refl))

-- a line that was read as a sample in one pass
pub sample_judged : (b : Body) (line : List ℕ) (s : SampleLine ℕ ℕ) → IsSound b → ReadsSample line s → s.pc % 4 ≡ 0 → None ≡ sample_fault b.sizes.cpus b.samples s.cpu → IsGoodSample b line s
sample_judged b line s sound r aligned fault =
    let context : None ≡ first_that_applies (context_tests (said_in_body b) (sample_values s)) = fault ∙ ap (λ n. sample_fault b.sizes.cpus n s.cpu) sound.tracks.samples_are in
    let even : true ≡ every is_aligned (tested (sample_values s)) = sym (eq-eqb (s.pc % 4) 0 aligned) in
    (by_form b line r.0 r.1 ∙ good (said_in_body b) r.0 (sample_values s) r.2 even refl context, passing (said_in_body b) r.0 (sample_values s) r.2 even refl context)
