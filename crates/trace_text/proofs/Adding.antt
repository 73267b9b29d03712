-- The body after one more line.
use Rattle.std.proofs.Common.{◌≡◌, ℕ, ◌+◌, ◌≤◌, ◌&&◌, Bool, true, false, cond, List, [], ◌∷◌, ◌++◌, length, map, refl, ap, sym, subst, ◌∙◌, arith, Some, None}
use Rattle.std.specs.List.{list_all, fold}
use Rattle.std.proofs.lemmas.Bool.{and_from}
use Rattle.std.proofs.lemmas.List.{map-append, length-append, append-nil}
use Rattle.std.specs.Ordering.{nat_cmp}
use Rattle.std.specs.Cmp.Lexicographic.{slice_cmp}
use Rattle.std.specs.BTreeMap.{get}
use Rattle.sample_key.specs.declared.events.Event.{Event}
use Rattle.trace_model.specs.declared.notices.Record.{Record}
use Rattle.trace_model.specs.declared.notices.Record.TheVariants.{Scan, Load, Unload, Exec, Exit, Kernel, Drain, Merge, Epoch}
use Rattle.trace_model.specs.declared.notices.Line.{Line}
use Rattle.trace_model.specs.declared.notices.Line.TheVariants.{Rec}
use Rattle.trace_model.specs.Said.{Said, Sampled, images_named, is_part_end, may_precede_scan}
use Rattle.trace_model.specs.Grammar.{first_that_applies, value_tests}
use Rattle.trace_model.specs.Recording.{line_said, record_said, name_at, with_name}
use Rattle.trace_text.specs.declared.body.Body.{Body}
use Rattle.trace_text.specs.Judging.{size_shown}
use Rattle.trace_model.specs.Parts.{ends_part}
use Rattle.trace_text.specs.Entries.{record_may_precede_scan}
use Rattle.trace_text.specs.State.{IsSound, Tracks, frame_of, said_in_body, index_from, is_among, line_is_among}
use Rattle.trace_text.specs.Taking.{Names, NamesImage, PushesRecord, PushesSample, IsIndexed}
use Rattle.std.specs.Ordering.{is_eq}
use Rattle.trace_text.proofs.Index.{found, absent, tied_push, with_known, with_new, last_named}
use Rattle.trace_text.proofs.Tracking.{tracks_record, tracks_sample, lines_front, lines_among_more, with_name_front, all_push}

-- the kind of a record does not hang on its image's name
kind_of : (images : List (List ℕ)) (notice : Record) → (is_part_end (record_said images notice) ≡ ends_part notice) × (may_precede_scan (record_said images notice) ≡ record_may_precede_scan notice)
kind_of images (Scan pid base size image) = (refl, refl)
kind_of images (Load pid base size image) = (refl, refl)
kind_of images (Unload pid base size) = (refl, refl)
kind_of images (Exec pid base size image) = (refl, refl)
kind_of images (Exit pid) = (refl, refl)
kind_of images (Kernel base size image) = (refl, refl)
kind_of images Drain = (refl, refl)
kind_of images Merge = (refl, refl)
kind_of images Epoch = (refl, refl)

-- images with at most one name more
front_of : (images : List (List ℕ)) (names : List (List ℕ)) → length names ≤ 1 → (more : List (List ℕ)) × (fold with_name images names ≡ images ++ more)
front_of images [] h = ([], sym (append-nil images))
front_of images (name ∷ []) h = let f = with_name_front images name in (f.0, f.1)
front_of images (name ∷ other ∷ names) h = absurd (omega arith)

one_image : (images : List (List ℕ)) (notice : Record) → length (images_named (record_said images notice)) ≤ 1
one_image images (Scan pid base size image) = omega arith
one_image images (Load pid base size image) = omega arith
one_image images (Unload pid base size) = omega arith
one_image images (Exec pid base size image) = omega arith
one_image images (Exit pid) = omega arith
one_image images (Kernel base size image) = omega arith
one_image images Drain = omega arith
one_image images Merge = omega arith
one_image images Epoch = omega arith

-- what the lines said before, by the images after
said_before : (old new : List (List ℕ)) (notice : Record) (lines : List Line) → new ≡ fold with_name old (images_named (record_said new notice)) → list_all (line_is_among (length old)) lines ≡ true
    → (map (line_said new) lines ≡ map (line_said old) lines) × (length old ≤ length new)
said_before old new notice lines e among = let f = front_of old (images_named (record_said new notice)) (one_image new notice) in
    let is : new ≡ old ++ f.0 = e ∙ f.1 in
    (ap (λ (l : List (List ℕ)). map (line_said l) lines) is ∙ lines_front old f.0 lines among, omega (arith, ap length is, length-append old f.0))

track_as : (said said' : List (Said ℕ)) (images : List (List ℕ)) (a a' b b' c c' : ℕ) (d d' : Bool) → said ≡ said' → a ≡ a' → b ≡ b' → c ≡ c' → d ≡ d' → Tracks said images a b c d → Tracks said' images a' b' c' d'
track_as said said' images a a' b b' c c' d d' p q r s t h = coe 0 1 (i. Tracks (p i) images (q i) (r i) (s i) (t i)) h

-- a record was added
pub record_added : (old mid new : Body) (said : Said ℕ) (notice : Record) → IsSound old → Names old mid said notice → PushesRecord mid new notice → first_that_applies (value_tests (said_in_body old) said) ≡ None
    → IsSound new × (frame_of new ≡ frame_of old) × (said_in_body new ≡ said_in_body old ++ said ∷ [])
record_added old mid new said notice s n p passes =
    let images : new.images.items ≡ mid.images.items = ap (λ v. v.items) p.images in
    let says : record_said new.images.items notice ≡ said = ap (λ l. record_said l notice) images ∙ n.says in
    let named : new.images.items ≡ fold with_name old.images.items (images_named (record_said new.images.items notice))
    = images ∙ n.images ∙ ap (λ t. fold with_name old.images.items (images_named t)) (sym says) in
    let lines : new.lines.items ≡ old.lines.items ++ Rec notice ∷ [] = p.lines ∙ ap (λ v. v.items ++ Rec notice ∷ []) n.kept.lines in
    let before = said_before old.images.items new.images.items notice old.lines.items named s.among in
    let whole : said_in_body new ≡ said_in_body old ++ said ∷ []
    = (λ i. size_shown (p.sizes i) ∷ map (line_said new.images.items) (lines i))
    ∙ (λ i. size_shown (n.kept.sizes i) ∷ map-append (line_said new.images.items) old.lines.items (Rec notice ∷ []) i)
    ∙ (λ i. size_shown old.sizes ∷ (before.0 i ++ says i ∷ [])) in
    let tracked = tracks_record (said_in_body old) old.images.items new.images.items old.samples old.records old.parts old.scans notice s.tracks
    (subst (λ t. first_that_applies (value_tests (said_in_body old) t) ≡ None) (sym says) passes) named in
    let kind = kind_of new.images.items notice in (
      record {
        tracks = track_as (said_in_body old ++ record_said new.images.items notice ∷ []) (said_in_body new) new.images.items
            old.samples new.samples (old.records + 1) new.records (old.parts + cond (is_part_end (record_said new.images.items notice)) 1 0) new.parts
            (old.scans && may_precede_scan (record_said new.images.items notice)) new.scans
            (ap (λ t. said_in_body old ++ t ∷ []) says ∙ sym whole)
            (sym (p.samples ∙ n.kept.samples)) (sym (p.records ∙ ap (λ k. k + 1) n.kept.records))
            (ap (λ b. old.parts + cond b 1 0) kind.0 ∙ sym (p.parts ∙ ap (λ k. k + cond (ends_part notice) 1 0) n.kept.parts))
            (ap (λ b. old.scans && b) kind.1 ∙ sym (p.scans ∙ ap (λ b. b && record_may_precede_scan notice) n.kept.scans))
            tracked;
        index = λ name. ap (λ m. get (slice_cmp nat_cmp) m name) p.index ∙ n.kept.index name ∙ ap (λ l. index_from 0 l name) (sym images);
        among = ap (list_all (line_is_among (length new.images.items))) lines ∙ all_push (line_is_among (length new.images.items)) old.lines.items (Rec notice)
            ∙ and_from _ _ (lines_among_more (length old.images.items) (length new.images.items) old.lines.items before.1 s.among) (ap (λ l. is_among (length l) notice) images ∙ n.among);
        lines_are = ap length lines ∙ omega (arith, length-append old.lines.items (Rec notice ∷ []), s.lines_are, p.samples, n.kept.samples, p.records, n.kept.records);
      },
      (λ i. ((p.sizes ∙ n.kept.sizes) i, (p.cpus ∙ ap (λ v. v.cpus) n.kept.lines) i)),
      whole,
    )

-- a sample was added
pub sample_added : (old new : Body) (cpu pid pc : ℕ) (event : Event) → IsSound old → PushesSample old new (Sampled cpu pid pc event) → first_that_applies (value_tests (said_in_body old) (Sampled cpu pid pc event)) ≡ None
    → IsSound new × (frame_of new ≡ frame_of old) × (said_in_body new ≡ said_in_body old ++ Sampled cpu pid pc event ∷ [])
sample_added old new cpu pid pc event s p passes =
    let images : new.images.items ≡ old.images.items = ap (λ v. v.items) p.images in
    let line = p.lines.0 in
    let lines : new.lines.items ≡ old.lines.items ++ line ∷ [] = p.lines.1 in
    let whole : said_in_body new ≡ said_in_body old ++ Sampled cpu pid pc event ∷ []
    = (λ i. size_shown (p.sizes i) ∷ map (line_said (images i)) (lines i))
    ∙ (λ i. size_shown old.sizes ∷ map-append (line_said old.images.items) old.lines.items (line ∷ []) i)
    ∙ (λ i. size_shown old.sizes ∷ (map (line_said old.images.items) old.lines.items ++ p.lines.2 old.images.items i ∷ [])) in
    let tracked = tracks_sample (said_in_body old) old.images.items old.samples old.records old.parts old.scans cpu pid pc event s.tracks passes in (
      record {
        tracks = subst (λ l. Tracks (said_in_body new) l new.samples new.records new.parts new.scans) (sym images)
            (track_as (said_in_body old ++ Sampled cpu pid pc event ∷ []) (said_in_body new) old.images.items
            (old.samples + 1) new.samples old.records new.records old.parts new.parts false new.scans
            (sym whole) (sym p.samples) (sym p.records) (sym p.parts) (sym p.scans) tracked);
        index = λ name. ap (λ m. get (slice_cmp nat_cmp) m name) p.index ∙ s.index name ∙ ap (λ l. index_from 0 l name) (sym images);
        among = ap (list_all (line_is_among (length new.images.items))) lines ∙ all_push (line_is_among (length new.images.items)) old.lines.items line
            ∙ and_from _ _ (ap (λ l. list_all (line_is_among (length l)) old.lines.items) images ∙ s.among) (p.lines.3 (length new.images.items));
        lines_are = ap length lines ∙ omega (arith, length-append old.lines.items (line ∷ []), s.lines_are, p.samples, p.records);
      },
      (λ i. (p.sizes i, p.cpus i)),
      whole,
    )

-- an image that is known has its index
pub image_known : (b : Body) (name : List ℕ) (i : ℕ) → IsIndexed b → get (slice_cmp nat_cmp) b.index name ≡ Some i → NamesImage b b name i
image_known b name i h e = let f = found 0 b.images.items name i (sym (h.0 name) ∙ e) in
    let is : i ≡ f.at = omega (arith, f.is) in
    record {
      kept = record { sizes = refl; lines = refl; samples = refl; records = refl; parts = refl; scans = refl; index = h.0 };
      images = with_known b.images.items name f.known;
      within = omega (arith, is, f.within);
      named = ap (name_at b.images.items) is ∙ f.named;
    }

-- a new image has the next one
pub image_new : (old new : Body) (name : List ℕ) (i : ℕ) → IsIndexed old → get (slice_cmp nat_cmp) old.index name ≡ None → i ≡ length old.images.items
    → new.sizes ≡ old.sizes → new.lines ≡ old.lines → new.samples ≡ old.samples → new.records ≡ old.records → new.parts ≡ old.parts → new.scans ≡ old.scans
    → new.images.items ≡ old.images.items ++ name ∷ []
    → ((q : List ℕ) → get (slice_cmp nat_cmp) new.index q ≡ cond (is_eq (slice_cmp nat_cmp name q)) (Some i) (get (slice_cmp nat_cmp) old.index q))
    → NamesImage old new name i
image_new old new name i h none is sizes lines samples records parts scans images updated =
    let fresh = absent 0 old.images.items name (sym (h.0 name) ∙ none) in
    record {
      kept = record {
        sizes = sizes;
        lines = lines;
        samples = samples;
        records = records;
        parts = parts;
        scans = scans;
        index = λ q. tied_push old.images.items name (λ n. get (slice_cmp nat_cmp) old.index n) (λ n. get (slice_cmp nat_cmp) new.index n) h.0 fresh
            (λ n. updated n ∙ ap (λ k. cond (is_eq (slice_cmp nat_cmp name n)) (Some k) (get (slice_cmp nat_cmp) old.index n)) is) q
            ∙ ap (λ l. index_from 0 l q) (sym images);
      };
      images = images ∙ with_new old.images.items name fresh;
      within = omega (arith, is, ap length images, length-append old.images.items (name ∷ []));
      named = ap (λ l. name_at l i) images ∙ ap (name_at (old.images.items ++ name ∷ [])) is ∙ last_named old.images.items name;
    }
