-- What the reader counts, one line later.
use Rattle.std.proofs.Common.{◌≡◌, ℕ, zero, suc, ◌+◌, ◌<◌, ◌≤◌, ◌&&◌, Bool, true, false, cond, List, [], ◌∷◌, ◌++◌, length, map, refl, ap, sym, ◌∙◌, arith, None, if◌then◌else◌}
use Rattle.std.specs.List.{count_by, list_all, list_any, fold}
use Rattle.std.specs.Str.{bytes_eq}
use Rattle.std.proofs.lemmas.Bool.{and_parts, and_from, or_parts, leb-false, ltb-true, lt-ltb}
use Rattle.std.proofs.lemmas.List.{append-nil, length-append}
use Rattle.std.proofs.lemmas.List.Sums.{sum_by-append}
use Rattle.std.proofs.lemmas.List.Folds.{list_all-append}
use Rattle.trace_model.specs.declared.notices.Record.{Record}
use Rattle.trace_model.specs.declared.notices.Record.TheVariants.{Scan, Load, Unload, Exec, Exit, Kernel, Drain, Merge, Epoch}
use Rattle.trace_model.specs.declared.notices.Line.{Line}
use Rattle.trace_model.specs.declared.notices.Line.TheVariants.{Sample, Rec}
use Rattle.sample_key.specs.declared.events.Event.{Event}
use Rattle.sample_key.specs.declared.limits.TheConstants.{MOST_SAMPLES}
use Rattle.trace_model.specs.declared.limits.TheConstants.{MOST_PARTS, MOST_RECORDS}
use Rattle.trace_model.specs.Said.{Said, Sampled, Scanned, Loaded, Executed, KernelMapped, is_sample, is_record, is_step, is_part_end, may_precede_scan, images_named}
use Rattle.trace_model.specs.Grammar.{first_that_applies, value_tests, is_record_too_many}
use Rattle.trace_model.specs.Recording.{line_said, record_said, name_at, with_name}
use Rattle.trace_model.proofs.Pushing.{images_push, good_push}
use Rattle.trace_text.specs.State.{Tracks, is_among, line_is_among}
use Rattle.trace_text.proofs.Judged.{and_true, passes}

-- one element more
pub count_push : {A : Type 0} (p : A → Bool) (xs : List A) (x : A) → count_by p (xs ++ x ∷ []) ≡ count_by p xs + cond (p x) 1 0
count_push p xs x = sum_by-append (λ y. cond (p y) 1 0) xs (x ∷ []) ∙ omega arith

pub all_push : {A : Type 0} (p : A → Bool) (xs : List A) (x : A) → list_all p (xs ++ x ∷ []) ≡ (list_all p xs && p x)
all_push p xs x = list_all-append p xs (x ∷ []) ∙ ap (λ b. list_all p xs && b) (and_true (p x))

-- an image keeps its index when one more is named
pub name_at_front : (images more : List (List ℕ)) (i : ℕ) → i < length images → name_at (images ++ more) i ≡ name_at images i
name_at_front [] more i h = absurd (omega arith)
name_at_front (image ∷ images) more zero h = refl
name_at_front (image ∷ images) more (suc i) h = name_at_front images more i (omega arith)

said_front : (images more : List (List ℕ)) (notice : Record) → is_among (length images) notice ≡ true → record_said (images ++ more) notice ≡ record_said images notice
said_front images more (Scan pid base size image) h = ap (λ n. Scanned pid base size n) (name_at_front images more image (ltb-true _ _ h))
said_front images more (Load pid base size image) h = ap (λ n. Loaded pid base size n) (name_at_front images more image (ltb-true _ _ h))
said_front images more (Unload pid base size) h = refl
said_front images more (Exec pid base size image) h = ap (λ n. Executed pid base size n) (name_at_front images more image (ltb-true _ _ h))
said_front images more (Exit pid) h = refl
said_front images more (Kernel base size image) h = ap (λ n. KernelMapped base size n) (name_at_front images more image (ltb-true _ _ h))
said_front images more Drain h = refl
said_front images more Merge h = refl
said_front images more Epoch h = refl

line_front : (images more : List (List ℕ)) (line : Line) → line_is_among (length images) line ≡ true → line_said (images ++ more) line ≡ line_said images line
line_front images more (Sample cpu key) h = refl
line_front images more (Rec notice) h = said_front images more notice h

-- what the lines say stays
pub lines_front : (images more : List (List ℕ)) (lines : List Line) → list_all (line_is_among (length images)) lines ≡ true → map (line_said (images ++ more)) lines ≡ map (line_said images) lines
lines_front images more [] h = refl
lines_front images more (line ∷ lines) h = let a = and_parts _ _ h in λ i. line_front images more line a.0 i ∷ lines_front images more lines a.1 i

among_more : (m n : ℕ) (notice : Record) → m ≤ n → is_among m notice ≡ true → is_among n notice ≡ true
among_more m n (Scan pid base size image) le h = lt-ltb image n (omega (arith, ltb-true image m h))
among_more m n (Load pid base size image) le h = lt-ltb image n (omega (arith, ltb-true image m h))
among_more m n (Unload pid base size) le h = refl
among_more m n (Exec pid base size image) le h = lt-ltb image n (omega (arith, ltb-true image m h))
among_more m n (Exit pid) le h = refl
among_more m n (Kernel base size image) le h = lt-ltb image n (omega (arith, ltb-true image m h))
among_more m n Drain le h = refl
among_more m n Merge le h = refl
among_more m n Epoch le h = refl

pub lines_among_more : (m n : ℕ) (lines : List Line) → m ≤ n → list_all (line_is_among m) lines ≡ true → list_all (line_is_among n) lines ≡ true
lines_among_more m n [] le h = refl
lines_among_more m n (Sample cpu key ∷ lines) le h = lines_among_more m n lines le h
lines_among_more m n (Rec notice ∷ lines) le h = let a = and_parts _ _ h in and_from _ _ (among_more m n notice le a.0) (lines_among_more m n lines le a.1)

-- the names after one more are those before with at most one behind them
pub with_name_front : (images : List (List ℕ)) (name : List ℕ) → (more : List (List ℕ)) × (with_name images name ≡ images ++ more) × (length more ≤ 1)
with_name_front images name = by (list_any (bytes_eq name) images)
  where
    by : (found : Bool) → (more : List (List ℕ)) × ((if found then images else images ++ name ∷ []) ≡ images ++ more) × (length more ≤ 1)
    by true = ([], sym (append-nil images), omega arith)
    by false = (name ∷ [], refl, omega arith)

-- a record that passes is one of at most 65,536, and ends one of at most 1,024 parts
pub room : (said : List (Said ℕ)) (images : List (List ℕ)) (notice : Record) → count_by is_part_end said ≤ MOST_PARTS → is_record_too_many said (record_said images notice) ≡ false
    → (count_by is_record said < MOST_RECORDS) × (count_by is_part_end said + cond (is_part_end (record_said images notice)) 1 0 ≤ MOST_PARTS)
room said images (Scan pid base size image) p h = (leb-false _ _ h, omega arith)
room said images (Load pid base size image) p h = (leb-false _ _ h, omega arith)
room said images (Unload pid base size) p h = (leb-false _ _ h, omega arith)
room said images (Exec pid base size image) p h = (leb-false _ _ h, omega arith)
room said images (Exit pid) p h = (leb-false _ _ h, omega arith)
room said images (Kernel base size image) p h = (leb-false _ _ h, omega arith)
room said images Drain p h = (leb-false _ _ h, omega arith)
room said images Merge p h = let o = or_parts _ _ h in (leb-false _ _ o.0, omega (arith, leb-false _ _ o.1))
room said images Epoch p h = let o = or_parts _ _ h in (leb-false _ _ o.0, omega (arith, leb-false _ _ o.1))

is_record_is : (images : List (List ℕ)) (notice : Record) → (is_record (record_said images notice) ≡ true) × (is_sample (record_said images notice) ≡ false) × (is_step (record_said images notice) ≡ false)
is_record_is images (Scan pid base size image) = (refl, refl, refl)
is_record_is images (Load pid base size image) = (refl, refl, refl)
is_record_is images (Unload pid base size) = (refl, refl, refl)
is_record_is images (Exec pid base size image) = (refl, refl, refl)
is_record_is images (Exit pid) = (refl, refl, refl)
is_record_is images (Kernel base size image) = (refl, refl, refl)
is_record_is images Drain = (refl, refl, refl)
is_record_is images Merge = (refl, refl, refl)
is_record_is images Epoch = (refl, refl, refl)

named : (images : List (List ℕ)) (name : List ℕ) → length (with_name images name) ≤ length images + 1
named images name = let f = with_name_front images name in omega (arith, ap length f.1, length-append images f.0, f.2)

at_most_one : (images : List (List ℕ)) (all : List (List ℕ)) (notice : Record) → length (fold with_name images (images_named (record_said all notice))) ≤ length images + 1
at_most_one images all (Scan pid base size image) = named images (name_at all image)
at_most_one images all (Load pid base size image) = named images (name_at all image)
at_most_one images all (Unload pid base size) = omega arith
at_most_one images all (Exec pid base size image) = named images (name_at all image)
at_most_one images all (Exit pid) = omega arith
at_most_one images all (Kernel base size image) = named images (name_at all image)
at_most_one images all Drain = omega arith
at_most_one images all Merge = omega arith
at_most_one images all Epoch = omega arith

-- a record more
pub tracks_record : (said : List (Said ℕ)) (images all : List (List ℕ)) (samples records parts : ℕ) (scans : Bool) (notice : Record)
    → Tracks said images samples records parts scans → first_that_applies (value_tests said (record_said all notice)) ≡ None
    → all ≡ fold with_name images (images_named (record_said all notice))
    → Tracks (said ++ record_said all notice ∷ []) all samples (records + 1) (parts + cond (is_part_end (record_said all notice)) 1 0) (scans && may_precede_scan (record_said all notice))
tracks_record said images all samples records parts scans notice t e named =
    let kind = is_record_is all notice in
    let rooms = room said all notice (omega (arith, t.parts_are, t.parts_most)) (passes said (record_said all notice) e).record_room in
    record {
      images_are = named ∙ ap (λ l. fold with_name l (images_named (record_said all notice))) t.images_are ∙ sym (images_push said (record_said all notice));
      samples_are = t.samples_are ∙ sym (count_push is_sample said (record_said all notice) ∙ ap (λ b. count_by is_sample said + cond b 1 0) kind.1 ∙ omega arith);
      records_are = sym (count_push is_record said (record_said all notice) ∙ ap (λ b. count_by is_record said + cond b 1 0) kind.0 ∙ ap (λ n. n + 1) (sym t.records_are));
      parts_are = ap (λ n. n + cond (is_part_end (record_said all notice)) 1 0) t.parts_are ∙ sym (count_push is_part_end said (record_said all notice));
      no_steps = count_push is_step said (record_said all notice) ∙ ap (λ b. count_by is_step said + cond b 1 0) kind.2 ∙ omega (arith, t.no_steps);
      scans_are = ap (λ b. b && may_precede_scan (record_said all notice)) t.scans_are ∙ sym (all_push may_precede_scan said (record_said all notice));
      samples_most = t.samples_most;
      records_most = omega (arith, rooms.0, t.records_are);
      parts_most = omega (arith, rooms.1, t.parts_are);
      few_images = omega (arith, t.few_images, ap length named, at_most_one images all notice);
      good = good_push [] said (record_said all notice) t.good e;
    }

and_false : (b : Bool) → (b && false) ≡ false
and_false true = refl
and_false false = refl

-- a sample more
pub tracks_sample : (said : List (Said ℕ)) (images : List (List ℕ)) (samples records parts : ℕ) (scans : Bool) (cpu pid pc : ℕ) (event : Event)
    → Tracks said images samples records parts scans → first_that_applies (value_tests said (Sampled cpu pid pc event)) ≡ None
    → Tracks (said ++ Sampled cpu pid pc event ∷ []) images (samples + 1) records parts false
tracks_sample said images samples records parts scans cpu pid pc event t e =
    let next : Said ℕ = Sampled cpu pid pc event in
    record {
      images_are = t.images_are ∙ sym (images_push said next);
      samples_are = ap (λ n. n + 1) t.samples_are ∙ sym (count_push is_sample said next);
      records_are = t.records_are ∙ sym (count_push is_record said next ∙ omega arith);
      parts_are = t.parts_are ∙ sym (count_push is_part_end said next ∙ omega arith);
      no_steps = count_push is_step said next ∙ omega (arith, t.no_steps);
      scans_are = sym (all_push may_precede_scan said next ∙ and_false (list_all may_precede_scan said));
      samples_most = omega (arith, leb-false MOST_SAMPLES (count_by is_sample said) ((passes said next e).sample_room), t.samples_are);
      records_most = t.records_most;
      parts_most = t.parts_most;
      few_images = t.few_images;
      good = good_push [] said next t.good e;
    }
