-- Lines that say something are those of a trace.
use Rattle.std.proofs.Common.{◌≡◌, ℕ, ◌%◌, ◌⊎◌, inl, inr, Bool, true, false, List, [], ◌∷◌, ◌++◌, map, refl, ap, sym, subst, ◌∙◌}
use Rattle.std.specs.List.{AllByRecursion, list_any}
use Rattle.std.specs.Option.{is_none}
use Rattle.std.proofs.lemmas.Bool.{and_parts, or_right, or_left, not-false, eqb-true, false≢true, true≢false}
use Rattle.std.proofs.lemmas.List.{append-nil, append_assoc}
use Rattle.std.proofs.lemmas.List.Folds.{list_any-append}
use Rattle.trace_model.specs.declared.notices.Record.TheVariants.{Scan, Load, Unload, Exec, Exit, Kernel, Drain, Merge, Epoch}
use Rattle.trace_model.specs.declared.notices.Line.{Line}
use Rattle.trace_model.specs.declared.notices.Line.TheVariants.{Sample, Rec}
use Rattle.trace_model.specs.declared.notices.Step.{Step}
use Rattle.trace_model.specs.declared.notices.Step.TheVariants.{Lane, Poll, Advance}
use Rattle.trace_model.specs.Said.{Said, ShortHeader, LongHeader, Sampled, Scanned, Loaded, Unloaded, Executed, Exited, KernelMapped, Drained, Merged, EpochBegun, Ended, Turned, Polled, Advanced, every, tested, is_aligned, is_end}
use Rattle.trace_model.specs.Grammar.{AtHeader, AtBody, AtSchedule, Says, first_that_applies, value_tests}
use Rattle.trace_model.specs.Recording.{Recording, recording, are_good, line_said, step_said, said_in, images_in_order}
use Rattle.trace_laws.specs.Readings.{IsTrace, IsRefused}
use Rattle.trace_laws.proofs.Lines.{is_short, each}
use Rattle.trace_laws.proofs.Staged.{AreStaged, IsBodyLine, stage_of, at_body, at_schedule, no_end_more}
use Rattle.trace_model.proofs.Tests.{all_clear}
use Rattle.trace_laws.proofs.Images.{HasImages, images_named_all, all_front}
use Rattle.trace_laws.proofs.Inverse.{says_good, says_staged}
use Rattle.trace_laws.proofs.Scanned.{scanned}

body_header : AtBody ≡ AtHeader → ⊥
body_header e = cc

schedule_header : AtSchedule ≡ AtHeader → ⊥
schedule_header e = cc

header_schedule : AtHeader ≡ AtSchedule → ⊥
header_schedule e = cc

body_schedule : AtBody ≡ AtSchedule → ⊥
body_schedule e = cc

header_body : AtHeader ≡ AtBody → ⊥
header_body e = cc

schedule_body : AtSchedule ≡ AtBody → ⊥
schedule_body e = cc

-- a header, told by its sizes
record IsHeader (said : Said ℕ) : Type 0 where
  cpus : ℕ
  buckets : ℕ
  buffer : ℕ
  is : said ≡ LongHeader cpus buckets buffer

header_told : (said : Said ℕ) → AtHeader ≡ stage_of said → is_short said ≡ false → IsHeader said
header_told (ShortHeader cpus) h long = absurd (true≢false long)
header_told (LongHeader cpus buckets buffer) h long = record { cpus = cpus; buckets = buckets; buffer = buffer; is = refl }
header_told (Sampled cpu pid pc event) h long = absurd (header_body h)
header_told (Scanned pid base size image) h long = absurd (header_body h)
header_told (Loaded pid base size image) h long = absurd (header_body h)
header_told (Unloaded pid base size) h long = absurd (header_body h)
header_told (Executed pid base size image) h long = absurd (header_body h)
header_told (Exited pid) h long = absurd (header_body h)
header_told (KernelMapped base size image) h long = absurd (header_body h)
header_told Drained h long = absurd (header_body h)
header_told Merged h long = absurd (header_body h)
header_told EpochBegun h long = absurd (header_body h)
header_told Ended h long = absurd (header_body h)
header_told (Turned cpu) h long = absurd (header_schedule h)
header_told (Polled cpu cell) h long = absurd (header_schedule h)
header_told Advanced h long = absurd (header_schedule h)

end_told : (said : Said ℕ) → is_end said ≡ true → said ≡ Ended
end_told (ShortHeader cpus) h = absurd (false≢true h)
end_told (LongHeader cpus buckets buffer) h = absurd (false≢true h)
end_told (Sampled cpu pid pc event) h = absurd (false≢true h)
end_told (Scanned pid base size image) h = absurd (false≢true h)
end_told (Loaded pid base size image) h = absurd (false≢true h)
end_told (Unloaded pid base size) h = absurd (false≢true h)
end_told (Executed pid base size image) h = absurd (false≢true h)
end_told (Exited pid) h = absurd (false≢true h)
end_told (KernelMapped base size image) h = absurd (false≢true h)
end_told Drained h = absurd (false≢true h)
end_told Merged h = absurd (false≢true h)
end_told EpochBegun h = absurd (false≢true h)
end_told Ended h = refl
end_told (Turned cpu) h = absurd (false≢true h)
end_told (Polled cpu cell) h = absurd (false≢true h)
end_told Advanced h = absurd (false≢true h)

-- a step that says this
abbrev IsStep : Said ℕ → Type 0
IsStep said = (step : Step) × (step_said step ≡ said)

step_told : (said : Said ℕ) → AtSchedule ≡ stage_of said → IsStep said
step_told (ShortHeader cpus) h = absurd (schedule_header h)
step_told (LongHeader cpus buckets buffer) h = absurd (schedule_header h)
step_told (Sampled cpu pid pc event) h = absurd (schedule_body h)
step_told (Scanned pid base size image) h = absurd (schedule_body h)
step_told (Loaded pid base size image) h = absurd (schedule_body h)
step_told (Unloaded pid base size) h = absurd (schedule_body h)
step_told (Executed pid base size image) h = absurd (schedule_body h)
step_told (Exited pid) h = absurd (schedule_body h)
step_told (KernelMapped base size image) h = absurd (schedule_body h)
step_told Drained h = absurd (schedule_body h)
step_told Merged h = absurd (schedule_body h)
step_told EpochBegun h = absurd (schedule_body h)
step_told Ended h = absurd (schedule_body h)
step_told (Turned cpu) h = (Lane cpu, refl)
step_told (Polled cpu cell) h = (Poll cpu cell, refl)
step_told Advanced h = (Advance, refl)

-- a line that says this, with these images
abbrev IsLineSaid : List (List ℕ) → Said ℕ → Type 0
IsLineSaid images said = (line : Line) × (line_said images line ≡ said)

line_told : (images : List (List ℕ)) (said : Said ℕ) → IsBodyLine said → every is_aligned (tested said) ≡ true → HasImages images said → IsLineSaid images said
line_told images (ShortHeader cpus) b aligned named = absurd (header_body b.body)
line_told images (LongHeader cpus buckets buffer) b aligned named = absurd (header_body b.body)
line_told images (Sampled cpu pid pc event) b aligned named = let r = each is_aligned (tested (Sampled cpu pid pc event)) aligned in
    (Sample cpu (record { pid = pid; pc = pc; event = event; aligned = eqb-true (pc % 4) 0 r.1.1.0 }), refl)
line_told images (Scanned pid base size image) b aligned named = (Rec (Scan pid base size named.0.at), ap (λ (name : List ℕ). Scanned pid base size name) named.0.is)
line_told images (Loaded pid base size image) b aligned named = (Rec (Load pid base size named.0.at), ap (λ (name : List ℕ). Loaded pid base size name) named.0.is)
line_told images (Unloaded pid base size) b aligned named = (Rec (Unload pid base size), refl)
line_told images (Executed pid base size image) b aligned named = (Rec (Exec pid base size named.0.at), ap (λ (name : List ℕ). Executed pid base size name) named.0.is)
line_told images (Exited pid) b aligned named = (Rec (Exit pid), refl)
line_told images (KernelMapped base size image) b aligned named = (Rec (Kernel base size named.0.at), ap (λ (name : List ℕ). KernelMapped base size name) named.0.is)
line_told images Drained b aligned named = (Rec Drain, refl)
line_told images Merged b aligned named = (Rec Merge, refl)
line_told images EpochBegun b aligned named = (Rec Epoch, refl)
line_told images Ended b aligned named = absurd (true≢false b.no_end)
line_told images (Turned cpu) b aligned named = absurd (schedule_body b.body)
line_told images (Polled cpu cell) b aligned named = absurd (schedule_body b.body)
line_told images Advanced b aligned named = absurd (schedule_body b.body)

-- lines of the body, the end, and steps
record Split (more : List (Said ℕ)) : Type 0 where
  body : List (Said ℕ)
  steps : List (Said ℕ)
  whole : more ≡ body ++ Ended ∷ steps
  are_body : AllByRecursion IsBodyLine body
  are_steps : AllByRecursion IsStep steps

steps_of : (first : Said ℕ) (before more : List (Said ℕ)) → AreStaged (first ∷ before) more → list_any is_end (first ∷ before) ≡ true → AllByRecursion IsStep more
steps_of first before [] h e = tt
steps_of first before (said ∷ more) h e =
    (step_told said (sym (at_schedule first before e) ∙ h.0), steps_of first (before ++ said ∷ []) more h.2 (list_any-append is_end (first ∷ before) (said ∷ []) ∙ or_left _ _ e))

end_here : (first : Said ℕ) (before more : List (Said ℕ)) (said : Said ℕ) → AreStaged (first ∷ before) (said ∷ more) → is_end said ≡ true → Split (said ∷ more)
end_here first before more said h e = record {
  body = [];
  steps = more;
  whole = ap (λ (s : Said ℕ). s ∷ more) (end_told said e);
  are_body = tt;
  are_steps = steps_of first (before ++ said ∷ []) more h.2 (list_any-append is_end (first ∷ before) (said ∷ []) ∙ or_right _ _ (or_left _ _ e));
}

line_here : (said : Said ℕ) (more : List (Said ℕ)) → IsBodyLine said → Split more → Split (said ∷ more)
line_here said more b s = record { body = said ∷ s.body; steps = s.steps; whole = ap (λ (l : List (Said ℕ)). said ∷ l) s.whole; are_body = (b, s.are_body); are_steps = s.are_steps }

split_by : (b : Bool) (first : Said ℕ) (before more : List (Said ℕ)) (said : Said ℕ) → is_end said ≡ b → list_any is_end (first ∷ before) ≡ false → AreStaged (first ∷ before) (said ∷ more)
    → (is_end said ≡ false → Split more) → Split (said ∷ more)
split_by true first before more said e none h next = end_here first before more said h e
split_by false first before more said e none h next = line_here said more (record { body = sym h.0 ∙ at_body first before none; long = h.1; no_end = e }) (next e)

split : (first : Said ℕ) (before more : List (Said ℕ)) → AreStaged (first ∷ before) more → list_any is_end (first ∷ before) ≡ false → list_any is_end (first ∷ (before ++ more)) ≡ true → Split more
split first before [] h none some = absurd (true≢false (sym (subst (λ (l : List (Said ℕ)). list_any is_end (first ∷ l) ≡ true) (append-nil before) some) ∙ none))
split first before (said ∷ more) h none some = split_by (is_end said) first before more said refl none h
    (λ e. split first (before ++ said ∷ []) more h.2 (no_end_more (first ∷ before) said none e) (subst (λ (l : List (Said ℕ)). list_any is_end (first ∷ l) ≡ true) (sym (append_assoc before (said ∷ []) more)) some))

-- the lines and steps that say these
lines_told : (images : List (List ℕ)) (before body rest : List (Said ℕ)) → AllByRecursion IsBodyLine body → are_good before (body ++ rest) ≡ true → AllByRecursion (HasImages images) body → (lines : List Line) × (map (line_said images) lines ≡ body)
lines_told images before [] rest b h named = ([], refl)
lines_told images before (said ∷ body) rest b h named =
    let p = and_parts (is_none (first_that_applies (value_tests before said))) (are_good (before ++ said ∷ []) (body ++ rest)) h in
    let line = line_told images said b.0 (not-false (every is_aligned (tested said)) (all_clear (value_tests before said) p.0).1.0) named.0 in
    let lines = lines_told images (before ++ said ∷ []) body rest b.1 p.1 named.1 in
    (line.0 ∷ lines.0, ap (λ (s : Said ℕ). s ∷ map (line_said images) lines.0) line.1 ∙ ap (λ (l : List (Said ℕ)). said ∷ l) lines.1)

steps_told : (steps : List (Said ℕ)) → AllByRecursion IsStep steps → (schedule : List Step) × (map step_said schedule ≡ steps)
steps_told [] h = ([], refl)
steps_told (said ∷ steps) h = let rest = steps_told steps h.1 in (h.0.0 ∷ rest.0, ap (λ (s : Said ℕ). s ∷ map step_said rest.0) h.0.1 ∙ ap (λ (l : List (Said ℕ)). said ∷ l) rest.1)

-- the trace that says all
record IsSaid (said : List (Said ℕ)) : Type 0 where
  trace : Recording
  says : said_in trace ≡ said
  images : trace.images ≡ images_in_order said

rebuilt_by : (said : List (Said ℕ)) → AreStaged [] said → are_good [] said ≡ true → list_any is_end said ≡ true → AllByRecursion (HasImages (images_in_order said)) said → (images : List (List ℕ)) → images ≡ images_in_order said → IsSaid said
rebuilt_by [] h good ended named images is = absurd (false≢true ended)
rebuilt_by (first ∷ more) h good ended named images is =
    let header = header_told first h.0 h.1 in
    let parts = split first [] more h.2 (ap (λ (s : Said ℕ). list_any is_end (s ∷ [])) header.is) ended in
    let p = and_parts (is_none (first_that_applies (value_tests [] first))) (are_good (first ∷ []) more) good in
    let named_body = (all_front (HasImages images) parts.body (Ended ∷ parts.steps) (subst (λ (l : List (Said ℕ)). AllByRecursion (HasImages images) l) parts.whole (subst (λ (names : List (List ℕ)). AllByRecursion (HasImages names) more) (sym is) named.1))).0 in
    let lines = lines_told images (first ∷ []) parts.body (Ended ∷ parts.steps) parts.are_body (subst (λ (l : List (Said ℕ)). are_good (first ∷ []) l ≡ true) parts.whole p.1) named_body in
    let steps = steps_told parts.steps parts.are_steps in
    record {
      trace = recording header.cpus header.buckets header.buffer images lines.0 steps.0;
      says = ap (λ (l : List (Said ℕ)). LongHeader header.cpus header.buckets header.buffer ∷ (l ++ Ended ∷ map step_said steps.0)) lines.1
          ∙ ap (λ (l : List (Said ℕ)). LongHeader header.cpus header.buckets header.buffer ∷ (parts.body ++ Ended ∷ l)) steps.1
          ∙ ap (λ (l : List (Said ℕ)). LongHeader header.cpus header.buckets header.buffer ∷ l) (sym parts.whole)
          ∙ ap (λ (s : Said ℕ). s ∷ more) (sym header.is);
      images = is;
    }

rebuilt : (bytes : List ℕ) (said : List (Said ℕ)) → Says bytes said → IsTrace bytes
rebuilt bytes said s =
    let r = rebuilt_by said (says_staged bytes said s) (says_good bytes said s) s.ended (images_named_all said) (images_in_order said) refl in
    (r.trace, record { says = subst (Says bytes) (sym r.says) s; images = r.images ∙ ap images_in_order (sym r.says) })

either : {bytes : List ℕ} → ((said : List (Said ℕ)) × Says bytes said) ⊎ IsRefused bytes → IsTrace bytes ⊎ IsRefused bytes
either {bytes} (inl s) = inl (rebuilt bytes s.0 s.1)
either {bytes} (inr r) = inr r

-- every input reads as a trace, or is refused
pub trace_or_refused : (bytes : List ℕ) → IsTrace bytes ⊎ IsRefused bytes
trace_or_refused bytes = either (scanned bytes)
