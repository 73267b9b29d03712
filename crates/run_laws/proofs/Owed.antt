-- The flushes that are owed, and those that table batches answered.
use Rattle.std.proofs.Common.{◌≡◌, ℕ, ◌+◌, ◌<◌, ◌≤◌, List, [], ◌∷◌, ◌++◌, length, take, drop, map, refl, sym, ◌∙◌, ap, subst, arith, true, false, Some, None, Option, eqb, eq-eqb, append_assoc, length-take}
use Rattle.std.specs.Prelude.{slice_get}
use Rattle.std.proofs.lemmas.Bool.{cond_both, cond-true, cond-false}
use Rattle.std.proofs.lemmas.List.{take-append-drop, take_all}
use Rattle.std.proofs.lemmas.Option.{slice_get_within}
use Rattle.sample_key.specs.Sent.{Sent}
use Rattle.sample_key.specs.declared.losses.Pace.{Pace}
use Rattle.trace_model.specs.declared.notices.Record.{Record}
use Rattle.driver_model.specs.Lists.{AllOf}
use Rattle.driver_model.specs.Handover.{FarSide}
use Rattle.driver_model.specs.Invariant.{last_answer}
use Rattle.driver_laws.proofs.Lists.{append-nil}
use Rattle.run_model.specs.Daemon.{needs_flush, flush_before, answering, reaches}
use Rattle.run_model.specs.Validity.{flushes_of, answers_owed}
use Rattle.run_model.specs.Books.{AsksInNeed}
use Rattle.run_laws.proofs.Basics.{taken_one, none_there, eqb_apart}

-- the flushes asked for before the record of this number
abbrev pub asked_before : Pace → List Record → ℕ → List ℕ
asked_before pace records at = flushes_of pace 0 (take at records)

-- the values that batches answer
abbrev pub answers_of : List Sent → List ℕ
answers_of batches = map (λ batch. batch.note.answers) batches

-- the flushes of some records and of those after them
pub flushes_append : (pace : Pace) (number : ℕ) (xs ys : List Record)
    → flushes_of pace number (xs ++ ys) ≡ flushes_of pace number xs ++ flushes_of pace (number + length xs) ys
flushes_append pace number [] ys = ap (λ n. flushes_of pace n ys) (omega arith)
flushes_append pace number (x ∷ xs) ys =
    let shift : flushes_of pace ((number + 1) + length xs) ys ≡ flushes_of pace (number + length (x ∷ xs)) ys =
    ap (λ n. flushes_of pace n ys) (omega arith) in
    let rest : flushes_of pace (number + 1) (xs ++ ys) ≡ flushes_of pace (number + 1) xs ++ flushes_of pace (number + length (x ∷ xs)) ys =
    flushes_append pace (number + 1) xs ys ∙ ap {B = List ℕ} (λ (z : List ℕ). flushes_of pace (number + 1) xs ++ z) shift in
    cond_both (needs_flush pace x) (flush_before number ∷ flushes_of pace (number + 1) xs) (flushes_of pace (number + 1) xs)
    (λ (z : List ℕ). flushes_of pace number (x ∷ (xs ++ ys)) ≡ z ++ flushes_of pace (number + length (x ∷ xs)) ys)
    (λ e. cond-true (needs_flush pace x) (flush_before number ∷ flushes_of pace (number + 1) (xs ++ ys)) (flushes_of pace (number + 1) (xs ++ ys)) e
    ∙ ap {B = List ℕ} (λ (z : List ℕ). flush_before number ∷ z) rest)
    (λ e. cond-false (needs_flush pace x) (flush_before number ∷ flushes_of pace (number + 1) (xs ++ ys)) (flushes_of pace (number + 1) (xs ++ ys)) e ∙ rest)

-- all of them are below the next one
pub flushes_below : (pace : Pace) (number most : ℕ) (records : List Record) → number + length records ≤ most
    → AllOf (λ x. x < flush_before most) (flushes_of pace number records)
flushes_below pace number most [] h = tt
flushes_below pace number most (x ∷ xs) h =
    let rest : AllOf (λ x. x < flush_before most) (flushes_of pace (number + 1) xs) = flushes_below pace (number + 1) most xs (omega arith) in
    cond_both (needs_flush pace x) (flush_before number ∷ flushes_of pace (number + 1) xs) (flushes_of pace (number + 1) xs)
    (λ (z : List ℕ). AllOf (λ x. x < flush_before most) z) (λ e. (omega arith, rest)) (λ e. rest)

-- the flushes asked for before a record are below its own
pub asked_below : (pace : Pace) (records : List Record) (at : ℕ) → AllOf (λ x. x < flush_before at) (asked_before pace records at)
asked_below pace records at = flushes_below pace 0 at (take at records) (omega (arith, length-take at records))

-- the flushes before the next record
pub asked_next : (pace : Pace) (records : List Record) (at : ℕ) (notice : Record) → slice_get records at ≡ Some notice
    → asked_before pace records (at + 1) ≡ asked_before pace records at ++ flushes_of pace at (notice ∷ [])
asked_next pace records at notice there =
    let l : length (take at records) ≡ at = omega (arith, length-take at records, slice_get_within records at notice there) in
    ap {B = List ℕ} (λ (z : List Record). flushes_of pace 0 z) (taken_one records at notice there)
    ∙ flushes_append pace 0 (take at records) (notice ∷ [])
    ∙ ap {B = List ℕ} (λ (n : ℕ). asked_before pace records at ++ flushes_of pace n (notice ∷ [])) (omega arith)

-- one more, where it needs one
pub asked_more : (pace : Pace) (records : List Record) (at : ℕ) (notice : Record) → slice_get records at ≡ Some notice
    → needs_flush pace notice ≡ true → asked_before pace records (at + 1) ≡ asked_before pace records at ++ flush_before at ∷ []
asked_more pace records at notice there need = asked_next pace records at notice there
    ∙ ap {B = List ℕ} (λ (z : List ℕ). asked_before pace records at ++ z) (cond-true (needs_flush pace notice) (flush_before at ∷ []) [] need)

-- the same, where it needs none
pub asked_same : (pace : Pace) (records : List Record) (at : ℕ) (notice : Record) → slice_get records at ≡ Some notice
    → needs_flush pace notice ≡ false → asked_before pace records (at + 1) ≡ asked_before pace records at
asked_same pace records at notice there need = asked_next pace records at notice there
    ∙ ap {B = List ℕ} (λ (z : List ℕ). asked_before pace records at ++ z) (cond-false (needs_flush pace notice) (flush_before at ∷ []) [] need)
    ∙ append-nil (asked_before pace records at)

-- at the end all but the close were asked for
pub asked_all : (pace : Pace) (records : List Record) (at : ℕ) → at ≡ length records
    → asked_before pace records at ++ flush_before at ∷ [] ≡ answers_owed pace records
asked_all pace records at e =
    subst (λ (n : ℕ). asked_before pace records n ++ flush_before n ∷ [] ≡ answers_owed pace records) (sym e)
    (ap {B = List ℕ} (λ (z : List Record). flushes_of pace 0 z ++ flush_before (length records) ∷ []) (take_all (length records) records (omega arith)))

-- what is owed goes on behind what was asked for
pub owed_after : (pace : Pace) (records : List Record) (at : ℕ)
    → (rest : List ℕ) × (asked_before pace records at ++ rest ≡ answers_owed pace records)
owed_after pace records at =
    let more = flushes_of pace (0 + length (take at records)) (drop at records) in
    let close = flush_before (length records) ∷ [] in (
      more ++ close,
      sym (append_assoc (asked_before pace records at) more close)
          ∙ ap {B = List ℕ} (λ (z : List ℕ). z ++ close) (sym (flushes_append pace 0 (take at records) (drop at records)))
          ∙ ap {B = List ℕ} (λ (z : List Record). flushes_of pace 0 z ++ close) (take-append-drop at records),
    )

-- and behind a flush that is asked for now
pub owed_now : (pace : Pace) (records : List Record) (at : ℕ) → at ≤ length records → AsksInNeed pace (slice_get records at)
    → (rest : List ℕ) × ((asked_before pace records at ++ flush_before at ∷ []) ++ rest ≡ answers_owed pace records)
owed_now pace records at within need = owed_at (slice_get records at) refl need
  where
    owed_at : (next : Option Record) → slice_get records at ≡ next → AsksInNeed pace next
        → (rest : List ℕ) × ((asked_before pace records at ++ flush_before at ∷ []) ++ rest ≡ answers_owed pace records)
    owed_at None there need =
        let e : at ≡ length records = omega (arith, none_there records at there) in
        ([], append-nil (asked_before pace records at ++ flush_before at ∷ []) ∙ asked_all pace records at e)
    owed_at (Some notice) there need =
        let after = owed_after pace records (at + 1) in
        (after.0, ap {B = List ℕ} (λ (z : List ℕ). z ++ after.0) (sym (asked_more pace records at notice there need)) ∙ after.1)

-- batches that answer lower values do not answer this one
pub unreached : (value : ℕ) (batches : List Sent) (far : FarSide) → AllOf (λ x. x < value) (answers_of batches)
    → reaches far (answering value batches) ≡ true → ⊥
unreached value [] far below h = cc
unreached value (b ∷ bs) far below h =
    let no : eqb b.note.answers value ≡ false = eqb_apart b.note.answers value (λ e. omega (arith, below.0)) in
    unreached value bs far below.1
    (subst (λ (z : Option Sent). reaches far z ≡ true) (cond-false (eqb b.note.answers value) (Some b) (answering value bs) no) h)

-- Where the batches answer lower values and this one last, and the batch found names buffers that were taken, this is so of
-- each batch that answers the value.
pub answering_all : (value : ℕ) (low : List ℕ) (batches : List Sent) (far : FarSide) → AllOf (λ x. x < value) low
    → answers_of batches ≡ low ++ value ∷ [] → reaches far (answering value batches) ≡ true
    → AllOf (λ b. b.note.answers ≡ value → reaches far (Some b) ≡ true) batches
answering_all value low [] far below e h = tt
answering_all value [] (b ∷ []) far below e h =
    let same : b.note.answers ≡ value = cc in (
      (λ s. subst (λ (z : Option Sent). reaches far z ≡ true)
          (cond-true (eqb b.note.answers value) (Some b) (answering value []) (eq-eqb b.note.answers value same)) h),
      tt,
    )
answering_all value [] (b ∷ c ∷ bs) far below e h = cc
answering_all value (x ∷ low) (b ∷ bs) far below e h =
    let same : b.note.answers ≡ x = cc in
    let rest : answers_of bs ≡ low ++ value ∷ [] = cc in
    let no : eqb b.note.answers value ≡ false = eqb_apart b.note.answers value (λ e. omega (arith, below.0, same)) in (
      (λ s. absurd (omega (arith, below.0, same, s))),
      answering_all value low bs far below.1 rest
          (subst (λ (z : Option Sent). reaches far z ≡ true) (cond-false (eqb b.note.answers value) (Some b) (answering value bs) no) h),
    )

-- the value answered last is the last of the answers
pub last_of_answers : (least value : ℕ) (batches : List Sent) (low : List ℕ) → answers_of batches ≡ low ++ value ∷ [] → last_answer least batches ≡ value
last_of_answers least value [] [] e = cc
last_of_answers least value [] (x ∷ low) e = cc
last_of_answers least value (b ∷ []) [] e = cc
last_of_answers least value (b ∷ c ∷ bs) [] e = cc
last_of_answers least value (b ∷ bs) (x ∷ low) e = let rest : answers_of bs ≡ low ++ value ∷ [] = cc in last_of_answers b.note.answers value bs low rest
