-- One line of the schedule: judged, and taken.
use Rattle.std.proofs.Common.{◌≡◌, ℕ, ◌+◌, ◌<◌, ◌||◌, Bool, true, false, cond, List, [], ◌∷◌, ◌++◌, length, map, refl, ap, sym, subst, ◌∙◌, arith, Some, None, Ok, Err, if◌then◌else◌, append_assoc}
use Rattle.std.specs.List.{list_any, count_by, fold}
use Rattle.std.proofs.lemmas.Bool.{leb-false}
use Rattle.std.proofs.lemmas.List.{map-append, length-append}
use Rattle.std.proofs.lemmas.List.Folds.{list_any-append}
use Rattle.trace_model.specs.declared.reasons.TraceWhy.TheVariants.{AfterEnd}
use Rattle.trace_model.specs.declared.notices.Step.{Step}
use Rattle.trace_model.specs.declared.notices.Step.TheVariants.{Lane, Poll, Advance}
use Rattle.trace_model.specs.Said.{Said, Ended, every, tested, is_aligned, is_titled, is_step, is_end, images_named}
use Rattle.trace_model.specs.Grammar.{verdict, verdict_on, verdict_of_form, stage_after, form_at, step_of, cut_at_spaces, AtBody, AtSchedule, why_no_form, first_that_applies, value_tests, context_tests}
use Rattle.trace_model.specs.Recording.{step_said, with_name, images_in_order, are_good}
use Rattle.trace_text.specs.declared.body.Body.{Body}
use Rattle.trace_text.specs.State.{AreSteps, said_in_body, said_with_steps}
use Rattle.trace_model.specs.declared.limits.TheConstants.{MOST_STEPS}
use Rattle.trace_text.specs.Faults.{cpu_fault, number_fault, step_fault}
use Rattle.trace_text.specs.Progress.{SaysNext}
use Rattle.trace_text.proofs.Judged.{passes}
use Rattle.trace_model.proofs.Pushing.{images_push, good_push}
use Rattle.trace_text.proofs.Tracking.{count_push}

or_true : (b : Bool) → (b || true) ≡ true
or_true true = refl
or_true false = refl

-- the end was read
pub ended : (b : Body) (steps : List Step) → list_any is_end (said_with_steps b steps) ≡ true
ended b steps = list_any-append is_end (said_in_body b) (Ended ∷ map step_said steps) ∙ or_true (list_any is_end (said_in_body b))

pub stage_behind : (b : Body) (steps : List Step) → stage_after (said_with_steps b steps) ≡ AtSchedule
stage_behind b steps = ap (λ e. if e then AtSchedule else AtBody) (ended b steps)

pub by_step_form : (b : Body) (steps : List Step) (line : List ℕ) (raw : Said (List ℕ)) → Some raw ≡ step_of (cut_at_spaces line) → verdict (said_with_steps b steps) line ≡ verdict_on (said_with_steps b steps) raw
by_step_form b steps line raw e = ap (λ s. verdict_of_form (said_with_steps b steps) (form_at s (cut_at_spaces line))) (stage_behind b steps) ∙ ap (λ o. verdict_of_form (said_with_steps b steps) o) (sym e)

pub by_no_step_form : (b : Body) (steps : List Step) (line : List ℕ) → None ≡ step_of (cut_at_spaces line) → verdict (said_with_steps b steps) line ≡ Err AfterEnd
by_no_step_form b steps line e = ap (λ s. verdict_of_form (said_with_steps b steps) (form_at s (cut_at_spaces line))) (stage_behind b steps) ∙ ap (λ o. verdict_of_form (said_with_steps b steps) o) (sym e)
    ∙ ap (λ s. Err (why_no_form s)) (stage_behind b steps)

-- what the lines before it say against a step
pub step_context : (b : Body) (steps : List Step) (n : ℕ) (step : Step) → AreSteps b steps → n ≡ length steps → step_fault b.sizes.cpus n step ≡ first_that_applies (context_tests (said_with_steps b steps) (step_said step))
step_context b steps n (Lane cpu) s e = ap (λ k. cpu_fault b.sizes.cpus k cpu) (e ∙ s.steps_are)
step_context b steps n (Poll cpu cell) s e = ap (λ k. cpu_fault b.sizes.cpus k cpu) (e ∙ s.steps_are)
step_context b steps n Advance s e = ap number_fault (e ∙ s.steps_are)

pub step_aligned : (step : Step) → true ≡ every is_aligned (tested (step_said step))
step_aligned (Lane cpu) = refl
step_aligned (Poll cpu cell) = refl
step_aligned Advance = refl

pub step_titled : (step : Step) → true ≡ every is_titled (tested (step_said step))
step_titled (Lane cpu) = refl
step_titled (Poll cpu cell) = refl
step_titled Advance = refl

is_step_is : (step : Step) → (is_step (step_said step) ≡ true) × (images_named (step_said step) ≡ [])
is_step_is (Lane cpu) = (refl, refl)
is_step_is (Poll cpu cell) = (refl, refl)
is_step_is Advance = (refl, refl)

room_for : (said : List (Said ℕ)) (step : Step) → first_that_applies (value_tests said (step_said step)) ≡ None → count_by is_step said < MOST_STEPS
room_for said (Lane cpu) e = leb-false _ _ (passes said (step_said (Lane cpu)) e).record_room
room_for said (Poll cpu cell) e = leb-false _ _ (passes said (step_said (Poll cpu cell)) e).record_room
room_for said Advance e = leb-false _ _ (passes said (step_said Advance) e).record_room

-- a step was taken
pub step_added : (b : Body) (steps : List Step) (step : Step) → AreSteps b steps → first_that_applies (value_tests (said_with_steps b steps) (step_said step)) ≡ None
    → AreSteps b (steps ++ step ∷ []) × (said_with_steps b (steps ++ step ∷ []) ≡ said_with_steps b steps ++ step_said step ∷ [])
step_added b steps step s e =
    let whole : said_with_steps b (steps ++ step ∷ []) ≡ said_with_steps b steps ++ step_said step ∷ []
    = ap (λ l. said_in_body b ++ Ended ∷ l) (map-append step_said steps (step ∷ [])) ∙ sym (append_assoc (said_in_body b) (Ended ∷ map step_said steps) (step_said step ∷ [])) in
    let kind = is_step_is step in (
      record {
        images_are = s.images_are ∙ sym (ap images_in_order whole ∙ images_push (said_with_steps b steps) (step_said step) ∙ ap (λ l. fold with_name (images_in_order (said_with_steps b steps)) l) kind.1);
        steps_are = sym (ap (count_by is_step) whole ∙ count_push is_step (said_with_steps b steps) (step_said step) ∙ ap (λ t. count_by is_step (said_with_steps b steps) + cond t 1 0) kind.0
            ∙ omega (arith, s.steps_are, length-append steps (step ∷ [])));
        steps_most = omega (arith, room_for (said_with_steps b steps) step e, s.steps_are, length-append steps (step ∷ []));
        good = ap (are_good []) whole ∙ good_push [] (said_with_steps b steps) (step_said step) s.good e;
      },
      whole,
    )

pub step_taken : (b : Body) (steps new : List Step) (line : List ℕ) (raw : Said (List ℕ)) (step : Step) → Some raw ≡ step_of (cut_at_spaces line) → verdict_on (said_with_steps b steps) raw ≡ Ok (step_said step)
    → first_that_applies (value_tests (said_with_steps b steps) (step_said step)) ≡ None → AreSteps b steps → new ≡ steps ++ step ∷ [] → AreSteps b new × SaysNext (said_with_steps b steps) line (said_with_steps b new)
step_taken b steps new line raw step e judged pass s is = let a = step_added b steps step s pass in
    (subst (AreSteps b) (sym is) a.0, (step_said step, by_step_form b steps line raw e ∙ judged, ap (said_with_steps b) is ∙ a.1))
