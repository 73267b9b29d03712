-- What a trace says tells the trace.
use Rattle.std.proofs.Common.{◌≡◌, ℕ, zero, suc, ◌%◌, ◌<◌, Bool, true, false, List, [], ◌∷◌, ◌++◌, length, map, refl, ap, sym, subst, ◌∙◌, arith, Option, Some, None, Result, Ok, Err}
use Rattle.std.specs.Option.{is_none}
use Rattle.std.proofs.Math.Nat.{ℕ_set}
use Rattle.std.proofs.lemmas.List.{append-nil, append_assoc}
use Rattle.std.proofs.lemmas.Bool.{and_parts, and_from, not-false, false≢true, true≢false}
use Rattle.sample_key.specs.declared.events.Event.{Event}
use Rattle.sample_key.specs.declared.keys.Key.{Key}
use Rattle.text_num.specs.Names.{is_name}
use Rattle.trace_model.specs.declared.reasons.TraceWhy.{TraceWhy}
use Rattle.trace_model.specs.declared.reasons.TraceWhy.TheVariants.{BadNumber}
use Rattle.trace_model.specs.declared.notices.Record.{Record}
use Rattle.trace_model.specs.declared.notices.Record.TheVariants.{Scan, Load, Unload, Exec, Exit, Kernel, Drain, Merge, Epoch}
use Rattle.trace_model.specs.declared.notices.Line.{Line}
use Rattle.trace_model.specs.declared.notices.Line.TheVariants.{Sample, Rec}
use Rattle.trace_model.specs.declared.notices.Step.{Step}
use Rattle.trace_model.specs.declared.notices.Step.TheVariants.{Lane, Poll, Advance}
use Rattle.trace_model.specs.Said.{Said, ShortHeader, LongHeader, Sampled, Scanned, Loaded, Unloaded, Executed, Exited, KernelMapped, Drained, Merged, EpochBegun, Ended, Turned, Polled, Advanced, every, tested, is_titled, is_end, is_sample, values_of}
use Rattle.trace_model.specs.Grammar.{Stage, verdict, verdict_of_form, judged, where_said, said_by, Says, first_that_applies, value_tests, tests_of, form_at, stage_after, cut_at_spaces}
use Rattle.trace_model.specs.Recording.{Recording, recording, Reads, are_good, name_at, record_said, line_said, step_said, said_in, images_in_order}
use Rattle.trace_model.proofs.Tests.{all_clear}
use Rattle.trace_laws.proofs.Exclusive.{says_one}
use Rattle.trace_laws.proofs.Lines.{is_short}
use Rattle.trace_laws.proofs.Staged.{AreStaged, stage_of, line_in_body}
use Rattle.trace_laws.proofs.Forms.{IsFormOf, form_is}
use Rattle.trace_laws.proofs.Images.{AreDistinct, images_distinct, place_of, place_at}

some_none : {A : Type 0} {x : A} → Some x ≡ None → ⊥
some_none e = cc

none_some : {A : Type 0} {x : A} → None ≡ Some x → ⊥
none_some e = cc

err_ok : (why : TraceWhy) (said : Said ℕ) → Err why ≡ Ok said → ⊥
err_ok why said e = cc

ok_same : (a b : Said ℕ) (r : Result (Said ℕ) TraceWhy) → r ≡ Ok a → r ≡ Ok b → a ≡ b
ok_same a b r e f = cc

-- a line that is taken is good
judged_good : (found : Option TraceWhy) (value said : Said ℕ) → judged value found ≡ Ok said → (found ≡ None) × (value ≡ said)
judged_good None value said e = (refl, ok_same value said (Ok value) refl e)
judged_good (Some why) value said e = absurd (err_ok why said e)

spelled_good : (b : Bool) (tests : List (TraceWhy × Bool)) → first_that_applies ((BadNumber, b) ∷ tests) ≡ None → first_that_applies tests ≡ None
spelled_good true tests e = absurd (some_none e)
spelled_good false tests e = e

form_staged : (before : List (Said ℕ)) (stage : Stage) (form : Option (Said (List ℕ))) (said : Said ℕ) → IsFormOf stage form → verdict_of_form before form ≡ Ok said → (stage ≡ stage_of said) × (is_short said ≡ false)
form_staged before stage None said h e = absurd (err_ok _ said e)
form_staged before stage (Some raw) said h e =
    let p = judged_good (first_that_applies (tests_of before raw)) (values_of raw) said e in
    (sym h.0 ∙ ap stage_of p.1, sym (ap is_short p.1) ∙ h.1)

form_good : (before : List (Said ℕ)) (form : Option (Said (List ℕ))) (said : Said ℕ) → verdict_of_form before form ≡ Ok said → is_none (first_that_applies (value_tests before said)) ≡ true
form_good before None said e = absurd (err_ok _ said e)
form_good before (Some raw) said e =
    let p = judged_good (first_that_applies (tests_of before raw)) (values_of raw) said e in
    subst (λ (s : Said ℕ). is_none (first_that_applies (value_tests before s)) ≡ true) p.1 (ap is_none (spelled_good _ (value_tests before (values_of raw)) p.0))

good_by : (r : Result (Said ℕ) TraceWhy) (before whole : List (Said ℕ)) (lines : List (List ℕ)) → where_said r (λ s. said_by (before ++ s ∷ []) lines) ≡ Some whole → (s : Said ℕ) × (r ≡ Ok s) × (said_by (before ++ s ∷ []) lines ≡ Some whole)
good_by (Ok s) before whole lines e = (s, refl, e)
good_by (Err why) before whole lines e = absurd (none_some e)

-- what is said behind these lines, and that it is good
record Follows (before said : List (Said ℕ)) : Type 0 where
  more : List (Said ℕ)
  whole : said ≡ before ++ more
  good : are_good before more ≡ true
  staged : AreStaged before more

some_is : {A : Type 0} (a b : A) → Some a ≡ Some b → a ≡ b
some_is a b e = cc

follows : (before said : List (Said ℕ)) (lines : List (List ℕ)) → said_by before lines ≡ Some said → Follows before said
follows before said [] e = record { more = []; whole = sym (some_is before said e) ∙ sym (append-nil before); good = refl; staged = tt }
follows before said (line ∷ lines) e =
    let step = good_by (verdict before line) before said lines e in
    let rest = follows (before ++ step.0 ∷ []) said lines step.2 in
    let stands = form_staged before (stage_after before) (form_at (stage_after before) (cut_at_spaces line)) step.0 (form_is (stage_after before) (cut_at_spaces line)) step.1 in
    record {
      more = step.0 ∷ rest.more;
      whole = rest.whole ∙ append_assoc before (step.0 ∷ []) rest.more;
      good = and_from _ _ (form_good before (form_at (stage_after before) (cut_at_spaces line)) step.0 step.1) rest.good;
      staged = (stands.0, stands.1, rest.staged);
    }

-- a text that says something says good lines
pub says_good : (bytes : List ℕ) (said : List (Said ℕ)) → Says bytes said → are_good [] said ≡ true
says_good bytes said s = let f = follows [] said s.lines s.says in subst (λ (l : List (Said ℕ)). are_good [] l ≡ true) (sym f.whole) f.good

-- and each in its part
pub says_staged : (bytes : List ℕ) (said : List (Said ℕ)) → Says bytes said → AreStaged [] said
says_staged bytes said s = let f = follows [] said s.lines s.says in subst (λ (l : List (Said ℕ)). AreStaged [] l) (sym f.whole) f.staged

-- the record that says this, with the image by its place
abbrev entry_of : List (List ℕ) → Said ℕ → Option Record
entry_of images (ShortHeader cpus) = None
entry_of images (LongHeader cpus buckets buffer) = None
entry_of images (Sampled cpu pid pc event) = None
entry_of images (Scanned pid base size image) = Some (Scan pid base size (place_of images image))
entry_of images (Loaded pid base size image) = Some (Load pid base size (place_of images image))
entry_of images (Unloaded pid base size) = Some (Unload pid base size)
entry_of images (Executed pid base size image) = Some (Exec pid base size (place_of images image))
entry_of images (Exited pid) = Some (Exit pid)
entry_of images (KernelMapped base size image) = Some (Kernel base size (place_of images image))
entry_of images Drained = Some Drain
entry_of images Merged = Some Merge
entry_of images EpochBegun = Some Epoch
entry_of images Ended = None
entry_of images (Turned cpu) = None
entry_of images (Polled cpu cell) = None
entry_of images Advanced = None

pub named_below : (images : List (List ℕ)) (index : ℕ) → is_name (name_at images index) ≡ true → index < length images
named_below [] index h = absurd (false≢true h)
named_below (image ∷ images) zero h = omega arith
named_below (image ∷ images) (suc index) h = omega (arith, named_below images index h)

place_named : (images : List (List ℕ)) (index : ℕ) → AreDistinct images → is_name (name_at images index) ≡ true → place_of images (name_at images index) ≡ index
place_named images index d h = place_at images index d (named_below images index h)

entry_said : (images : List (List ℕ)) (entry : Record) → AreDistinct images → every is_titled (tested (record_said images entry)) ≡ true → entry_of images (record_said images entry) ≡ Some entry
entry_said images (Scan process base size image) d h = rw (place_named images image d h) refl
entry_said images (Load process base size image) d h = rw (place_named images image d h) refl
entry_said images (Unload process base size) d h = refl
entry_said images (Exec process base size image) d h = rw (place_named images image d h) refl
entry_said images (Exit process) d h = refl
entry_said images (Kernel base size image) d h = rw (place_named images image d h) refl
entry_said images Drain d h = refl
entry_said images Merge d h = refl
entry_said images Epoch d h = refl

no_sample : (images : List (List ℕ)) (entry : Record) → is_sample (record_said images entry) ≡ false
no_sample images (Scan process base size image) = refl
no_sample images (Load process base size image) = refl
no_sample images (Unload process base size) = refl
no_sample images (Exec process base size image) = refl
no_sample images (Exit process) = refl
no_sample images (Kernel base size image) = refl
no_sample images Drain = refl
no_sample images Merge = refl
no_sample images Epoch = refl

some_entry : (a b : Record) (found : Option Record) → found ≡ Some a → found ≡ Some b → a ≡ b
some_entry a b found e f = cc

abbrev made : ℕ → (pc : ℕ) → Event → pc % 4 ≡ 0 → Key
made pid pc event aligned = record { pid = pid; pc = pc; event = event; aligned = aligned }

same_key : (k j : Key) → k.pid ≡ j.pid → k.pc ≡ j.pc → k.event ≡ j.event → k ≡ j
same_key k j p q r =
    let here : (a : k.pc % 4 ≡ 0) → k ≡ made k.pid k.pc k.event a = λ a. ap (λ (x : k.pc % 4 ≡ 0). made k.pid k.pc k.event x) (ℕ_set (k.pc % 4) 0 k.aligned a) in
    let there : (a : j.pc % 4 ≡ 0) → k ≡ made k.pid j.pc k.event a = subst (λ (pc : ℕ). (a : pc % 4 ≡ 0) → k ≡ made k.pid pc k.event a) q here in
    there j.aligned ∙ ap (λ (n : ℕ). made n j.pc k.event j.aligned) p ∙ ap (λ (e : Event). made j.pid j.pc e j.aligned) r

record SameSample (cpu other : ℕ) (k j : Key) : Type 0 where
  cpus : cpu ≡ other
  pid : k.pid ≡ j.pid
  pc : k.pc ≡ j.pc
  event : k.event ≡ j.event

same_sample : (cpu other : ℕ) (k j : Key) → Sampled cpu k.pid k.pc k.event ≡ Sampled other j.pid j.pc j.event → SameSample cpu other k j
same_sample cpu other k j e = record { cpus = cc; pid = cc; pc = cc; event = cc }

same_line : (images : List (List ℕ)) (line other : Line) → AreDistinct images → every is_titled (tested (line_said images line)) ≡ true → every is_titled (tested (line_said images other)) ≡ true → line_said images line ≡ line_said images other → line ≡ other
same_line images (Sample cpu key) (Sample second other) d h k e = let p = same_sample cpu second key other e in
    ap (λ (c : ℕ). Sample c key) p.cpus ∙ ap (λ (j : Key). Sample second j) (same_key key other p.pid p.pc p.event)
same_line images (Sample cpu key) (Rec entry) d h k e = absurd (true≢false (ap is_sample e ∙ no_sample images entry))
same_line images (Rec entry) (Sample cpu key) d h k e = absurd (true≢false (sym (ap is_sample e) ∙ no_sample images entry))
same_line images (Rec entry) (Rec other) d h k e = ap Rec (some_entry entry other (entry_of images (record_said images other)) (sym (ap (entry_of images) e) ∙ entry_said images entry d h) (entry_said images other d k))

-- the step that says this
abbrev step_of : Said ℕ → Option Step
step_of (Turned cpu) = Some (Lane cpu)
step_of (Polled cpu cell) = Some (Poll cpu cell)
step_of Advanced = Some Advance
step_of _ = None

step_back : (step : Step) → step_of (step_said step) ≡ Some step
step_back (Lane cpu) = refl
step_back (Poll cpu cell) = refl
step_back Advance = refl

some_step : (a b : Step) (found : Option Step) → found ≡ Some a → found ≡ Some b → a ≡ b
some_step a b found e f = cc

same_step : (step other : Step) → step_said step ≡ step_said other → step ≡ other
same_step step other e = some_step step other (step_of (step_said other)) (sym (ap step_of e) ∙ step_back step) (step_back other)

head_said : {A : Type 0} (x y : A) (xs ys : List A) → x ∷ xs ≡ y ∷ ys → x ≡ y
head_said x y xs ys e = cc

rest_said : {A : Type 0} (x y : A) (xs ys : List A) → x ∷ xs ≡ y ∷ ys → xs ≡ ys
rest_said x y xs ys e = cc

nil_said : {A : Type 0} (x : A) (xs : List A) → [] ≡ x ∷ xs → ⊥
nil_said x xs e = cc

same_steps : (steps others : List Step) → map step_said steps ≡ map step_said others → steps ≡ others
same_steps [] [] e = refl
same_steps [] (other ∷ others) e = absurd (nil_said _ _ e)
same_steps (step ∷ steps) [] e = absurd (nil_said _ _ (sym e))
same_steps (step ∷ steps) (other ∷ others) e =
    ap (λ (s : Step). s ∷ steps) (same_step step other (head_said _ _ _ _ e)) ∙ ap (λ (l : List Step). other ∷ l) (same_steps steps others (rest_said _ _ _ _ e))

-- the line of a body is no end
no_end : (images : List (List ℕ)) (line : Line) → is_end (line_said images line) ≡ false
no_end images line = (line_in_body images line).no_end

-- the same body and the same schedule
record SameParts (lines others : List Line) (steps left : List Step) : Type 0 where
  body : lines ≡ others
  schedule : steps ≡ left

same_parts : (before told : List (Said ℕ)) (images : List (List ℕ)) (lines others : List Line) (steps left : List Step) → AreDistinct images
    → are_good before (map (line_said images) lines ++ Ended ∷ map step_said steps) ≡ true → are_good told (map (line_said images) others ++ Ended ∷ map step_said left) ≡ true
    → map (line_said images) lines ++ Ended ∷ map step_said steps ≡ map (line_said images) others ++ Ended ∷ map step_said left → SameParts lines others steps left
same_parts before told images [] [] steps left d h k e = record { body = refl; schedule = same_steps steps left (rest_said _ _ _ _ e) }
same_parts before told images [] (other ∷ others) steps left d h k e = absurd (true≢false (ap is_end (head_said Ended (line_said images other) _ _ e) ∙ no_end images other))
same_parts before told images (line ∷ lines) [] steps left d h k e = absurd (true≢false (sym (ap is_end (head_said (line_said images line) Ended _ _ e)) ∙ no_end images line))
same_parts before told images (line ∷ lines) (other ∷ others) steps left d h k e =
    let p = and_parts (is_none (first_that_applies (value_tests before (line_said images line)))) _ h in
    let q = and_parts (is_none (first_that_applies (value_tests told (line_said images other)))) _ k in
    let titled = not-false (every is_titled (tested (line_said images line))) (all_clear (value_tests before (line_said images line)) p.0).1.1.0 in
    let other_titled = not-false (every is_titled (tested (line_said images other))) (all_clear (value_tests told (line_said images other)) q.0).1.1.0 in
    let rest = same_parts (before ++ line_said images line ∷ []) (told ++ line_said images other ∷ []) images lines others steps left d p.1 q.1 (rest_said _ _ _ _ e) in
    record {
      body = ap (λ (x : Line). x ∷ lines) (same_line images line other d titled other_titled (head_said _ _ _ _ e)) ∙ ap (λ (l : List Line). other ∷ l) rest.body;
      schedule = rest.schedule;
    }

record SameSizes (c b f d e g : ℕ) : Type 0 where
  cpus : c ≡ d
  buckets : b ≡ e
  buffer : f ≡ g

same_sizes : (c b f d e g : ℕ) → LongHeader c b f ≡ LongHeader d e g → SameSizes c b f d e g
same_sizes c b f d e g h = record { cpus = cc; buckets = cc; buffer = cc }

body_good : (r : Recording) → are_good [] (said_in r) ≡ true → are_good (LongHeader r.cpus r.buckets r.buffer ∷ []) (map (line_said r.images) r.lines ++ Ended ∷ map step_said r.schedule) ≡ true
body_good r h = (and_parts (is_none (first_that_applies (value_tests [] (LongHeader r.cpus r.buckets r.buffer)))) _ h).1

joined : (r s : Recording) → r.cpus ≡ s.cpus → r.buckets ≡ s.buckets → r.buffer ≡ s.buffer → r.images ≡ s.images → r.lines ≡ s.lines → r.schedule ≡ s.schedule → r ≡ s
joined r s c b f i l t =
    ap (λ (n : ℕ). recording n r.buckets r.buffer r.images r.lines r.schedule) c ∙ ap (λ (n : ℕ). recording s.cpus n r.buffer r.images r.lines r.schedule) b
    ∙ ap (λ (n : ℕ). recording s.cpus s.buckets n r.images r.lines r.schedule) f ∙ ap (λ (names : List (List ℕ)). recording s.cpus s.buckets s.buffer names r.lines r.schedule) i
    ∙ ap (λ (lines : List Line). recording s.cpus s.buckets s.buffer s.images lines r.schedule) l ∙ ap (λ (steps : List Step). recording s.cpus s.buckets s.buffer s.images s.lines steps) t

-- a text reads as one trace
pub one_trace : (bytes : List ℕ) (r s : Recording) → Reads bytes r → Reads bytes s → r ≡ s
one_trace bytes r s a b =
    let whole : said_in r ≡ said_in s = says_one bytes (said_in r) (said_in s) a.says b.says in
    let images : r.images ≡ s.images = a.images ∙ ap images_in_order whole ∙ sym b.images in
    let distinct : AreDistinct s.images = subst AreDistinct (sym b.images) (images_distinct (said_in s)) in
    let sizes = same_sizes r.cpus r.buckets r.buffer s.cpus s.buckets s.buffer (head_said _ _ _ _ whole) in
    let rest : map (line_said s.images) r.lines ++ Ended ∷ map step_said r.schedule ≡ map (line_said s.images) s.lines ++ Ended ∷ map step_said s.schedule
    = subst (λ (names : List (List ℕ)). map (line_said names) r.lines ++ Ended ∷ map step_said r.schedule ≡ map (line_said s.images) s.lines ++ Ended ∷ map step_said s.schedule) images (rest_said _ _ _ _ whole) in
    let good = subst (λ (names : List (List ℕ)). are_good (LongHeader r.cpus r.buckets r.buffer ∷ []) (map (line_said names) r.lines ++ Ended ∷ map step_said r.schedule) ≡ true) images (body_good r (says_good bytes (said_in r) a.says)) in
    let parts = same_parts (LongHeader r.cpus r.buckets r.buffer ∷ []) (LongHeader s.cpus s.buckets s.buffer ∷ []) s.images r.lines s.lines r.schedule s.schedule distinct good (body_good s (says_good bytes (said_in s) b.says)) rest in
    joined r s sizes.cpus sizes.buckets sizes.buffer images parts.body parts.schedule
