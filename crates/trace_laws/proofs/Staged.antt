-- The part of a trace that a line belongs to.
use Rattle.std.proofs.Common.{◌≡◌, ℕ, true, false, List, [], ◌∷◌, ◌++◌, map, refl, sym, ◌∙◌, Some}
use Rattle.std.specs.List.{list_any}
use Rattle.std.proofs.lemmas.Bool.{or_from, or_left, or_right, false≢true}
use Rattle.std.proofs.lemmas.List.Folds.{list_any-append}
use Rattle.sample_key.specs.declared.events.Event.TheVariants.{Cycles, Imiss, Dmiss, Branchmp}
use Rattle.trace_model.specs.declared.notices.Record.{Record}
use Rattle.trace_model.specs.declared.notices.Record.TheVariants.{Scan, Load, Unload, Exec, Exit, Kernel, Drain, Merge, Epoch}
use Rattle.trace_model.specs.declared.notices.Line.{Line}
use Rattle.trace_model.specs.declared.notices.Line.TheVariants.{Sample, Rec}
use Rattle.trace_model.specs.declared.notices.Step.{Step}
use Rattle.trace_model.specs.declared.notices.Step.TheVariants.{Lane, Poll, Advance}
use Rattle.trace_model.specs.Said.{Said, ShortHeader, LongHeader, Sampled, Scanned, Loaded, Unloaded, Executed, Exited, KernelMapped, Drained, Merged, EpochBegun, Ended, Turned, Polled, Advanced, is_end, spellings_of, fields_of}
use Rattle.trace_model.specs.Grammar.{Stage, AtHeader, AtBody, AtSchedule, stage_after, form_at}
use Rattle.trace_model.specs.Recording.{Recording, record_said, line_said, step_said, said_in}
use Rattle.trace_laws.proofs.Lines.{is_short}

-- where a line of this form stands
abbrev pub stage_of : Said ℕ → Stage
stage_of (ShortHeader cpus) = AtHeader
stage_of (LongHeader cpus buckets buffer) = AtHeader
stage_of (Turned cpu) = AtSchedule
stage_of (Polled cpu cell) = AtSchedule
stage_of Advanced = AtSchedule
stage_of _ = AtBody

-- there a written line has its form
pub form_told : (said : Said ℕ) → is_short said ≡ false → form_at (stage_of said) (fields_of (spellings_of said)) ≡ Some (spellings_of said)
form_told (ShortHeader cpus) long = absurd (false≢true (sym long))
form_told (LongHeader cpus buckets buffer) long = refl
form_told (Sampled cpu pid pc Cycles) long = refl
form_told (Sampled cpu pid pc Imiss) long = refl
form_told (Sampled cpu pid pc Dmiss) long = refl
form_told (Sampled cpu pid pc Branchmp) long = refl
form_told (Scanned pid base size image) long = refl
form_told (Loaded pid base size image) long = refl
form_told (Unloaded pid base size) long = refl
form_told (Executed pid base size image) long = refl
form_told (Exited pid) long = refl
form_told (KernelMapped base size image) long = refl
form_told Drained long = refl
form_told Merged long = refl
form_told EpochBegun long = refl
form_told Ended long = refl
form_told (Turned cpu) long = refl
form_told (Polled cpu cell) long = refl
form_told Advanced long = refl

-- each of these lines stands in its place, and none is a short header
abbrev pub AreStaged : List (Said ℕ) → List (Said ℕ) → Type 0
AreStaged before [] = Unit {0}
AreStaged before (said ∷ more) = (stage_after before ≡ stage_of said) × (is_short said ≡ false) × AreStaged (before ++ said ∷ []) more

pub record IsBodyLine (said : Said ℕ) : Type 0 where
  pub body : stage_of said ≡ AtBody
  pub long : is_short said ≡ false
  pub no_end : is_end said ≡ false

record_in_body : (images : List (List ℕ)) (entry : Record) → IsBodyLine (record_said images entry)
record_in_body images (Scan process base size image) = record { body = refl; long = refl; no_end = refl }
record_in_body images (Load process base size image) = record { body = refl; long = refl; no_end = refl }
record_in_body images (Unload process base size) = record { body = refl; long = refl; no_end = refl }
record_in_body images (Exec process base size image) = record { body = refl; long = refl; no_end = refl }
record_in_body images (Exit process) = record { body = refl; long = refl; no_end = refl }
record_in_body images (Kernel base size image) = record { body = refl; long = refl; no_end = refl }
record_in_body images Drain = record { body = refl; long = refl; no_end = refl }
record_in_body images Merge = record { body = refl; long = refl; no_end = refl }
record_in_body images Epoch = record { body = refl; long = refl; no_end = refl }

pub line_in_body : (images : List (List ℕ)) (line : Line) → IsBodyLine (line_said images line)
line_in_body images (Sample cpu key) = record { body = refl; long = refl; no_end = refl }
line_in_body images (Rec entry) = record_in_body images entry

pub at_body : (first : Said ℕ) (more : List (Said ℕ)) → list_any is_end (first ∷ more) ≡ false → stage_after (first ∷ more) ≡ AtBody
at_body first more h = rw h refl

pub at_schedule : (first : Said ℕ) (more : List (Said ℕ)) → list_any is_end (first ∷ more) ≡ true → stage_after (first ∷ more) ≡ AtSchedule
at_schedule first more h = rw h refl

pub no_end_more : (before : List (Said ℕ)) (said : Said ℕ) → list_any is_end before ≡ false → is_end said ≡ false → list_any is_end (before ++ said ∷ []) ≡ false
no_end_more before said h e = list_any-append is_end before (said ∷ []) ∙ or_from _ _ h (or_from _ _ e refl)

body_staged : (first : Said ℕ) (before : List (Said ℕ)) (images : List (List ℕ)) (lines : List Line) (rest : List (Said ℕ)) → list_any is_end (first ∷ before) ≡ false
    → ((more : List (Said ℕ)) → list_any is_end (first ∷ more) ≡ false → AreStaged (first ∷ more) rest) → AreStaged (first ∷ before) (map (line_said images) lines ++ rest)
body_staged first before images [] rest h k = k before h
body_staged first before images (line ∷ lines) rest h k = let l = line_in_body images line in
    (at_body first before h ∙ sym l.body, l.long, body_staged first (before ++ line_said images line ∷ []) images lines rest (no_end_more (first ∷ before) (line_said images line) h l.no_end) k)

step_stage : (step : Step) → stage_of (step_said step) ≡ AtSchedule
step_stage (Lane cpu) = refl
step_stage (Poll cpu cell) = refl
step_stage Advance = refl

step_long : (step : Step) → is_short (step_said step) ≡ false
step_long (Lane cpu) = refl
step_long (Poll cpu cell) = refl
step_long Advance = refl

steps_staged : (first : Said ℕ) (before : List (Said ℕ)) (steps : List Step) → list_any is_end (first ∷ before) ≡ true → AreStaged (first ∷ before) (map step_said steps)
steps_staged first before [] h = tt
steps_staged first before (step ∷ steps) h = (
  at_schedule first before h ∙ sym (step_stage step),
  step_long step,
  steps_staged first (before ++ step_said step ∷ []) steps (list_any-append is_end (first ∷ before) (step_said step ∷ []) ∙ or_left _ _ h),
)

end_staged : (first : Said ℕ) (before : List (Said ℕ)) (steps : List Step) → list_any is_end (first ∷ before) ≡ false → AreStaged (first ∷ before) (Ended ∷ map step_said steps)
end_staged first before steps h = (at_body first before h, refl, steps_staged first (before ++ Ended ∷ []) steps (list_any-append is_end (first ∷ before) (Ended ∷ []) ∙ or_right _ _ refl))

-- the lines of a trace stand in their places
pub trace_staged : (r : Recording) → AreStaged [] (said_in r)
trace_staged r = (refl, refl, body_staged (LongHeader r.cpus r.buckets r.buffer) [] r.images r.lines (Ended ∷ map step_said r.schedule) refl (λ more h. end_staged (LongHeader r.cpus r.buckets r.buffer) more r.schedule h))

pub trace_ended : (r : Recording) → list_any is_end (said_in r) ≡ true
trace_ended r = list_any-append is_end (map (line_said r.images) r.lines) (Ended ∷ map step_said r.schedule) ∙ or_right _ _ refl
