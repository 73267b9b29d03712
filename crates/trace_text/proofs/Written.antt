-- The text of a trace, part by part.
use Rattle.std.proofs.Common.{◌≡◌, ℕ, true, List, [], ◌∷◌, ◌++◌, length, map, refl, ap, sym, ◌∙◌, nat_lt, Result, Ok, Err, OnOk}
use Rattle.std.specs.Prelude.{codes}
use Rattle.std.specs.Fmt.{decimal}
use Rattle.std.specs.List.{list_all}
use Rattle.std.specs.Option.{is_none}
use Rattle.std.proofs.lemmas.Bool.{lt-ltb, and_parts, and_from, not-false}
use Rattle.std.proofs.lemmas.List.{append_assoc, map-append}
use Rattle.text_num.specs.Lines.{text_of_lines}
use Rattle.text_num.specs.Names.{is_name}
use Rattle.trace_model.specs.declared.notices.Record.{Record}
use Rattle.trace_model.specs.declared.notices.Record.TheVariants.{Scan, Load, Unload, Exec, Exit, Kernel, Drain, Merge, Epoch}
use Rattle.trace_model.specs.declared.notices.Line.{Line}
use Rattle.trace_model.specs.declared.notices.Line.TheVariants.{Sample, Rec}
use Rattle.trace_model.specs.declared.notices.Step.{Step}
use Rattle.trace_model.specs.declared.recordings.Trace.{Trace}
use Rattle.trace_model.specs.Said.{Said, LongHeader, Ended, every, tested, is_titled, line_text}
use Rattle.trace_model.specs.Grammar.{first_that_applies, value_tests}
use Rattle.trace_model.specs.Recording.{are_good, name_at, record_said, line_said, step_said, trace_text}
use Rattle.trace_model.specs.Traces.{recording_of}
use Rattle.trace_laws.proofs.Inverse.{named_below}
use Rattle.trace_model.proofs.Tests.{all_clear}
use Rattle.trace_text.specs.State.{is_among, line_is_among}
use Rattle.trace_text.specs.Writing.{header_text, sizes_text}

-- a name is at an index of the list
named_within : (images : List (List ℕ)) (index : ℕ) → is_name (name_at images index) ≡ true → nat_lt index (length images) ≡ true
named_within images index h = lt-ltb index (length images) (named_below images index h)

record_among : (images : List (List ℕ)) (notice : Record) → every is_titled (tested (record_said images notice)) ≡ true → is_among (length images) notice ≡ true
record_among images (Scan process base size image) h = named_within images image h
record_among images (Load process base size image) h = named_within images image h
record_among images (Unload process base size) h = refl
record_among images (Exec process base size image) h = named_within images image h
record_among images (Exit process) h = refl
record_among images (Kernel base size image) h = named_within images image h
record_among images Drain h = refl
record_among images Merge h = refl
record_among images Epoch h = refl

line_among : (images : List (List ℕ)) (line : Line) → every is_titled (tested (line_said images line)) ≡ true → line_is_among (length images) line ≡ true
line_among images (Sample cpu key) h = refl
line_among images (Rec notice) h = record_among images notice h

lines_among : (before : List (Said ℕ)) (images : List (List ℕ)) (lines : List Line) (rest : List (Said ℕ)) → are_good before (map (line_said images) lines ++ rest) ≡ true → list_all (line_is_among (length images)) lines ≡ true
lines_among before images [] rest h = refl
lines_among before images (line ∷ lines) rest h =
    let said = line_said images line in
    let p = and_parts (is_none (first_that_applies (value_tests before said))) (are_good (before ++ said ∷ []) (map (line_said images) lines ++ rest)) h in
    and_from _ _ (line_among images line (not-false (every is_titled (tested said)) (all_clear (value_tests before said) p.0).1.1.0)) (lines_among (before ++ said ∷ []) images lines rest p.1)

-- the images that a trace names are among its images
pub trace_among : (t : Trace) → list_all (line_is_among (length t.images.items)) t.lines.items ≡ true
trace_among t = lines_among (LongHeader t.cpus t.buckets t.buffer ∷ []) t.images.items t.lines.items (Ended ∷ map step_said t.schedule.items) (and_parts _ _ t.good).1

text_append : (lines more : List (List ℕ)) → text_of_lines (lines ++ more) ≡ text_of_lines lines ++ text_of_lines more
text_append [] more = refl
text_append (line ∷ lines) more = ap (λ (l : List ℕ). line ++ 10 ∷ l) (text_append lines more) ∙ sym (append_assoc line (10 ∷ text_of_lines lines) (text_of_lines more))

header_is : (cpus buckets buffer : ℕ) → header_text cpus buckets buffer ≡ line_text (LongHeader cpus buckets buffer) ++ 10 ∷ []
header_is cpus buckets buffer =
    let last : (decimal buckets ++ (codes " buffer " ++ decimal buffer)) ++ 10 ∷ [] ≡ decimal buckets ++ (codes " buffer " ++ (decimal buffer ++ 10 ∷ [])) = append_assoc (decimal buckets) (codes " buffer " ++ decimal buffer) (10 ∷ []) in
    ap (λ (l : List ℕ). codes "dcpi-trace 1 cpus " ++ l) (sym (append_assoc (decimal cpus) (codes " buckets " ++ (decimal buckets ++ (codes " buffer " ++ decimal buffer))) (10 ∷ []) ∙ ap (λ (l : List ℕ). decimal cpus ++ (codes " buckets " ++ l)) last))

-- header, body, end and schedule are the whole
whole_text : (t : Trace) → header_text t.cpus t.buckets t.buffer ++ (text_of_lines (map line_text (map (line_said t.images.items) t.lines.items)) ++ ((codes "end" ++ 10 ∷ []) ++ text_of_lines (map line_text (map step_said t.schedule.items)))) ≡ trace_text (recording_of t)
whole_text t =
    let header = line_text (LongHeader t.cpus t.buckets t.buffer) in
    let body = map (line_said t.images.items) t.lines.items in
    let steps = map step_said t.schedule.items in
    let rest : List ℕ = text_of_lines (map line_text body) ++ text_of_lines (map line_text (Ended ∷ steps)) in
    ap (λ (l : List ℕ). l ++ rest) (header_is t.cpus t.buckets t.buffer) ∙ append_assoc header (10 ∷ []) rest
    ∙ ap (λ (l : List ℕ). header ++ 10 ∷ l) (sym (ap text_of_lines (map-append line_text body (Ended ∷ steps)) ∙ text_append (map line_text body) (map line_text (Ended ∷ steps))))

pub written_whole : (t : Trace) (images : List (List ℕ)) (lines : List Line) (steps : List Step) (none header body end all : List ℕ) → none ≡ [] → header ≡ none ++ header_text t.cpus t.buckets t.buffer
    → body ≡ header ++ text_of_lines (map line_text (map (line_said images) lines)) → end ≡ body ++ (codes "end" ++ 10 ∷ []) → all ≡ end ++ text_of_lines (map line_text (map step_said steps))
    → images ≡ t.images.items → lines ≡ t.lines.items → steps ≡ t.schedule.items → all ≡ trace_text (recording_of t)
written_whole t images lines steps none header body end all n h b e a i l s =
    let first = header_text t.cpus t.buckets t.buffer in
    let middle = text_of_lines (map line_text (map (line_said t.images.items) t.lines.items)) in
    let last = text_of_lines (map line_text (map step_said t.schedule.items)) in
    rw (a, e, b, h, n, i, l, s) (append_assoc (first ++ middle) (codes "end" ++ 10 ∷ []) last ∙ append_assoc first middle ((codes "end" ++ 10 ∷ []) ++ last) ∙ whole_text t)

-- the header, piece by piece
pub header_put : {T E : Type 0} (r : Result T E) (cpus buckets buffer : ℕ) (old first second all : List ℕ) → first ≡ old ++ codes "dcpi-trace 1 cpus " → second ≡ first ++ decimal cpus → OnOk r (all ≡ second ++ sizes_text buckets buffer) → OnOk r (all ≡ old ++ header_text cpus buckets buffer)
header_put (Err error) cpus buckets buffer old first second all f s h = h
header_put (Ok done) cpus buckets buffer old first second all f s h =
    rw (h, s, f) (append_assoc (old ++ codes "dcpi-trace 1 cpus ") (decimal cpus) (sizes_text buckets buffer) ∙ append_assoc old (codes "dcpi-trace 1 cpus ") (decimal cpus ++ sizes_text buckets buffer))
