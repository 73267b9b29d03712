-- The parts of a trace, read one after another.
use Rattle.std.proofs.Common.{◌≡◌, ℕ, ◌+◌, ◌≤◌, true, List, [], ◌∷◌, ◌++◌, length, suc, drop, refl, ap, sym, subst, ◌∙◌, arith, append_assoc, Option, Some, None}
use Rattle.std.specs.List.{list_any}
use Rattle.std.specs.Io.KnownBytes.{Consumes, IsAtEnd, prepend_known}
use Rattle.std.proofs.lemmas.List.{length-map, append-nil}
use Rattle.std.proofs.KnownBytes.{prepend_known-nil}
use Rattle.text_num.specs.Lines.{text_of_lines}
use Rattle.line_reader.specs.declared.faults.Ending.TheVariants as endings
use Rattle.line_reader.specs.Reading.{ReadsLine, StandsWhole}
use Rattle.trace_model.specs.declared.reasons.TraceWhy.{TraceWhy}
use Rattle.trace_model.specs.declared.notices.Step.{Step}
use Rattle.trace_model.specs.Said.{Said, Ended, is_end, is_step}
use Rattle.trace_model.specs.Grammar.{verdict, FirstBad}
use Rattle.std.specs.Option.{IfSome}
use Rattle.trace_model.specs.Recording.{line_said, Recording, Reads, said_in, images_in_order}
use Rattle.trace_text.specs.declared.body.Body.{Body}
use Rattle.trace_text.specs.declared.body.Taken.{Taken}
use Rattle.trace_text.specs.declared.body.Taken.TheVariants as kinds
use Rattle.trace_text.specs.declared.refusals.LineRefusal.{LineRefusal}
use Rattle.trace_text.specs.declared.refusals.LineRefusal.TheVariants as lines
use Rattle.trace_text.specs.declared.refusals.TraceRefusal.{TraceRefusal}
use Rattle.trace_text.specs.declared.refusals.TraceRefusal.TheVariants.{Bad, ReadFault, Memory}
use Rattle.trace_text.specs.State.{IsSound, AreSteps, said_in_body, said_with_steps}
use Rattle.trace_text.specs.Taking.{TakesLine}
use Rattle.trace_text.specs.Progress.{Went, Stops, StopsIn, SaysNext, IsRefusal}
use Rattle.trace_text.specs.Phases.{StepsBody, StepsSchedule}
use Rattle.trace_text.specs.Refusing.{HaltsBy, HaltsWithinBy, IsOfLineRefusal, IsFirstBadBy}
use Rattle.trace_model.proofs.Pushing.{images_push, good_push}
use Rattle.trace_text.proofs.Tracking.{count_push}
use Rattle.trace_text.proofs.ScheduleSteps.{ended}
use Rattle.trace_text.proofs.Walking.{went_line, went_on, stops_on, stops_finished}

-- a line of the body that was taken
pub body_stepped : (taken : Taken) (left rest : Option (List ℕ)) (old new : Body) (line line' : List ℕ) → line' ≡ line → ReadsLine 400 endings.Finished line left rest → TakesLine taken old line' new → StepsBody taken left rest old new
body_stepped kinds.Line left rest old new line line' e r t = (t.0, t.1, went_line left rest line (said_in_body old) (said_in_body new) t.2.0 r (ap (verdict (said_in_body old)) (sym e) ∙ t.2.1) t.2.2)
body_stepped kinds.End left rest old new line line' e r t = (t.0, went_line left rest line (said_in_body old) (said_in_body old ++ Ended ∷ []) t.1.0 r (ap (verdict (said_in_body old)) (sym e) ∙ t.1.1) t.1.2)

-- a line that stood in the buffer was passed over
behind : (line more : List ℕ) → drop (length line + 1) (line ++ 10 ∷ more) ≡ more
behind [] more = refl
behind (c ∷ line) more = ap (λ (k : ℕ). drop k (c ∷ line ++ 10 ∷ more)) {x = length (c ∷ line) + 1} {y = suc (length line + 1)} (omega arith) ∙ behind line more

passed_over : (reader line more : List ℕ) (left : Option (List ℕ)) → reader ≡ line ++ 10 ∷ more → Consumes (prepend_known reader left) (prepend_known more left) (line ++ 10 ∷ [])
passed_over reader line more None e = tt
passed_over reader line more (Some rest) e = ap (λ (l : List ℕ). l ++ rest) e ∙ append_assoc line (10 ∷ more) rest ∙ sym (append_assoc line (10 ∷ []) (more ++ rest))

pub stood : (reader line passed : List ℕ) (left : Option (List ℕ)) → StandsWhole 400 line reader → passed ≡ drop (length line + 1) reader
    → ReadsLine 400 endings.Finished line (prepend_known reader left) (prepend_known passed left)
stood reader line passed left w e =
    let more : passed ≡ w.2.0 = e ∙ ap (drop (length line + 1)) w.2.1 ∙ behind line w.2.0 in
    (w.0, w.1, subst (λ (l : List ℕ). Consumes (prepend_known reader left) (prepend_known l left) (line ++ 10 ∷ [])) (sym more) (passed_over reader line w.2.0 left w.2.1))

-- a line of the schedule that was taken
pub schedule_stepped : (left rest : Option (List ℕ)) (b : Body) (old new : List Step) (line line' : List ℕ) → line' ≡ line → ReadsLine 400 endings.Finished line left rest
    → AreSteps b new → SaysNext (said_with_steps b old) line' (said_with_steps b new) → StepsSchedule true left rest b old new
schedule_stepped left rest b old new line line' e r s t = (s, went_line left rest line (said_with_steps b old) (said_with_steps b new) t.0 r (ap (verdict (said_with_steps b old)) (sym e) ∙ t.1) t.2)

-- where a line is refused the reading stops
pub halted_at : (left : Option (List ℕ)) (before : List (Said ℕ)) (k number : ℕ) (why : TraceWhy) (refusal : TraceRefusal) → refusal ≡ Bad number why → Stops left before k number why → HaltsBy left before k refusal
halted_at left before k number why refusal e s = subst (λ (r : TraceRefusal). HaltsBy left before k r) (sym e) s

pub halted : (left rest : Option (List ℕ)) (before : List (Said ℕ)) (line line' : List ℕ) (k number : ℕ) (refusal : LineRefusal) (result : TraceRefusal) → line' ≡ line → number ≡ k + 1
    → ReadsLine 400 endings.Finished line left rest → IsRefusal (verdict before line') refusal → IsOfLineRefusal number refusal result → HaltsBy left before k result
halted left rest before line line' k number (lines.Bad why) result e n r v is = halted_at left before k number why result is (stops_finished left rest line before k number why n r (ap (verdict before) (sym e) ∙ v))
halted left rest before line line' k number lines.Memory result e n r v is = subst (λ (x : TraceRefusal). HaltsBy left before k x) (sym is) tt

-- what stops behind lines that were read stops before them
pub halts_on : (a b : Option (List ℕ)) (x y : List (Said ℕ)) (m k j : ℕ) (refusal : TraceRefusal) → Went a b x y m → j ≡ k + m → HaltsBy b y j refusal → HaltsBy a x k refusal
halts_on a b x y m k j (Bad line why) w e h = stops_on a b x y m k j line why w e h
halts_on a b x y m k j ReadFault w e h = tt
halts_on a b x y m k j Memory w e h = tt

-- a line that is refused is no later than another
pub within_at : (last number : ℕ) (why : TraceWhy) (refusal : TraceRefusal) → refusal ≡ Bad number why → number ≤ last → HaltsWithinBy last refusal
within_at last number why refusal e h = subst (λ (r : TraceRefusal). HaltsWithinBy last r) (sym e) h

pub within_of : (last number : ℕ) (refusal : LineRefusal) (result : TraceRefusal) → IsOfLineRefusal number refusal result → number ≤ last → HaltsWithinBy last result
within_of last number (lines.Bad why) result e h = within_at last number why result e h
within_of last number lines.Memory result e h = subst (λ (r : TraceRefusal). HaltsWithinBy last r) (sym e) tt

pub within_more : (last more : ℕ) (refusal : TraceRefusal) → last ≤ more → HaltsWithinBy last refusal → HaltsWithinBy more refusal
within_more last more (Bad line why) h w = omega (arith, h, w)
within_more last more ReadFault h w = tt
within_more last more Memory h w = tt

-- the first bad line of the input
first_bad_in : (bytes : List ℕ) (number : ℕ) (why : TraceWhy) → StopsIn bytes [] 0 number why → FirstBad bytes number why
first_bad_in bytes number why s = record { lines = s.lines; rest = s.rest; said = s.said; are_lines = s.are_lines; text = s.text; says = s.says; number_is = s.number_is ∙ omega arith; refused = s.refused }

first_bad_of : (left : Option (List ℕ)) (number : ℕ) (why : TraceWhy) → Stops left [] 0 number why → IfSome left (λ bytes. FirstBad bytes number why)
first_bad_of None number why s = tt
first_bad_of (Some bytes) number why s = first_bad_in bytes number why s

pub first_bad : (left : Option (List ℕ)) (refusal : TraceRefusal) → HaltsBy left [] 0 refusal → IsFirstBadBy left refusal
first_bad left (Bad line why) h = first_bad_of left line why h
first_bad left ReadFault h = tt
first_bad left Memory h = tt

-- a body has at most 2,065,536 lines
pub body_bound : (b : Body) → IsSound b → length (said_in_body b) ≤ 2065537
body_bound b s = omega (arith, length-map b.lines.items (line_said b.images.items), s.lines_are, s.tracks.samples_most, s.tracks.records_most)

-- the end stands behind the body, and no step yet
pub none_yet : (b : Body) → IsSound b → AreSteps b []
none_yet b s = record {
  images_are = s.tracks.images_are ∙ sym (images_push (said_in_body b) Ended);
  steps_are = sym (count_push is_step (said_in_body b) Ended ∙ omega (arith, s.tracks.no_steps));
  steps_most = omega arith;
  good = good_push [] (said_in_body b) Ended s.tracks.good refl;
}

no_cons : (x : ℕ) (xs : List ℕ) → x ∷ xs ≡ [] → ⊥
no_cons x xs e = cc

whole_text : (bytes taken : List ℕ) (rest : Option (List ℕ)) → Consumes (Some bytes) rest taken → IsAtEnd rest → bytes ≡ taken
whole_text bytes taken None c h = absurd c
whole_text bytes taken (Some rest) c h = c ∙ ap (λ l. taken ++ l) h ∙ append-nil taken

-- the input was read to its end, and reads as the trace
pub reads_whole : (left rest : Option (List ℕ)) (b : Body) (steps : List Step) (r : Recording) (n : ℕ) → Went left rest [] (said_with_steps b steps) n → IsAtEnd rest → said_in r ≡ said_with_steps b steps → r.images ≡ images_in_order (said_in r) → IfSome left (λ bytes. Reads bytes r)
reads_whole None rest b steps r n w h e i = tt
reads_whole (Some bytes) rest b steps r n w h e i = record {
  says = record { lines = w.lines; are_lines = w.are_lines; text = whole_text bytes (text_of_lines w.lines) rest w.taken h; says = w.says ∙ ap (λ l. Some l) (sym e); ended = ap (list_any is_end) e ∙ ended b steps };
  images = i;
}

-- a refusal before the first line was done
pub bad_at_start : (front : List ℕ) (left : Option (List ℕ)) (refusal : TraceRefusal) → front ≡ [] → HaltsBy (prepend_known front left) [] 0 refusal → IsFirstBadBy left refusal
bad_at_start front left refusal none h = first_bad left refusal (subst (λ (o : Option (List ℕ)). HaltsBy o [] 0 refusal) (ap (λ (l : List ℕ). prepend_known l left) none ∙ prepend_known-nil left) h)

-- a refusal behind lines that were read
pub bad_behind : (front : List ℕ) (left rest : Option (List ℕ)) (said : List (Said ℕ)) (n k : ℕ) (refusal : TraceRefusal) → front ≡ [] → Went (prepend_known front left) rest [] said n → k ≡ n → HaltsBy rest said k refusal → IsFirstBadBy left refusal
bad_behind front left rest said n k refusal none w e h = bad_at_start front left refusal none (halts_on (prepend_known front left) rest [] said n 0 k refusal w (omega (arith, e)) h)

-- the header and the body were read
pub behind_body : (a b c : Option (List ℕ)) (header before after : List (Said ℕ)) (n : ℕ) → before ≡ header → Went a b [] header 1 → Went b c before after n → Went a c [] after (1 + n)
behind_body a b c header before after n e w v = went_on a b c [] before after 1 n (1 + n) (subst (λ (l : List (Said ℕ)). Went a b [] l 1) (sym e) w) v refl

-- all was read
pub reads_all : (front : List ℕ) (left middle rest : Option (List ℕ)) (b : Body) (steps : List Step) (r : Recording) (m n : ℕ) → front ≡ []
    → Went (prepend_known front left) middle [] (said_with_steps b []) m → Went middle rest (said_with_steps b []) (said_with_steps b steps) n
    → IsAtEnd rest → said_in r ≡ said_with_steps b steps → r.images ≡ images_in_order (said_in r) → IfSome left (λ bytes. Reads bytes r)
reads_all front left middle rest b steps r m n none w v h e i = reads_whole left rest b steps r (m + n)
    (subst (λ (o : Option (List ℕ)). Went o rest [] (said_with_steps b steps) (m + n)) (ap (λ (l : List ℕ). prepend_known l left) none ∙ prepend_known-nil left) (went_on (prepend_known front left) middle rest [] (said_with_steps b []) (said_with_steps b steps) m n (m + n) w v refl)) h e i
