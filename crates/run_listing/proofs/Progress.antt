-- What is known of the segments that were read: none of them is bad or out of order, and the run and the text are theirs.
use Rattle.std.proofs.Common.{arith, ◌≡◌, ◌≢◌, ℕ, suc, zero, ◌+◌, ◌<◌, ◌≤◌, ◌⊎◌, inl, inr, Bool, true, false, cond, ◌&&◌, List, [], ◌∷◌, ◌++◌, None, Some, Option, length, refl, sym, ap, ◌∙◌, subst, append_assoc, add-one, eqb, eqb-true, eq-eqb, length-append}
use Rattle.std.specs.Prelude.{not, ◌==◌, ◌||◌}
use Rattle.std.specs.List.{flat_map}
use Rattle.std.proofs.lemmas.Bool.{cases_lt}
use Rattle.std.proofs.lemmas.List.{append-nil}
use Rattle.std.proofs.lemmas.List.Sums.{fold-append}
use Rattle.std.proofs.lemmas.List.Elements.{filter-append}
use Rattle.std.proofs.lemmas.Grind.{flat_map-append}
use Rattle.store_io.specs.Files.{Files}
use Rattle.store_io.specs.declared.file_refs.FileRef.TheVariants as named
use Rattle.sample_key.specs.declared.losses.Loss.{Loss}
use Rattle.database_model.specs.Runs.{Segment, Drained}
use Rattle.database_model.specs.SegmentForm.{segment}
use Rattle.database_state.specs.Standing.{segments_to, segment_file, value_in}
use Rattle.epoch_store.proofs.Order.{and_first, and_second}
use Rattle.run_listing.specs.Orders.{Reached, reached, goes_on, begins_next, follows, first_bad_from, first_bad}
use Rattle.run_listing.specs.Runs.{readable, last_run, parts_of, first_epoch_of, losses_of, is_whole, joined}
use Rattle.run_listing.specs.Texts.{texts_to, listing_of}
use Rattle.run_listing.specs.Steps.{reached_by, no_parts, started, appended, shown, run_with, text_with}
use Rattle.run_listing.specs.declared.joins.JoinedRun.{JoinedRun}

-- ---- the run of some parts

abbrev pub run_of : ℕ → List Segment → JoinedRun
run_of run parts = record { kept = joined run parts; parts = length parts; whole = is_whole parts }

-- the texts of the runs before this one
abbrev pub texts_before : ℕ → List Segment → List ℕ
texts_before zero segments = []
texts_before (suc run) segments = texts_to run segments

pub record Lists (segments : List Segment) (text : List ℕ) (run : JoinedRun) : Type 0 where
  pub run_is : run ≡ run_of (last_run segments) (parts_of (last_run segments) segments)
  pub text_is : text ≡ texts_before (last_run segments) segments
  pub above : (k : ℕ) → last_run segments < k → parts_of k segments ≡ []

-- ---- one more segment

pub last_with : (segments : List Segment) (s : Segment) → last_run (segments ++ s ∷ []) ≡ s.run
last_with segments s = fold-append (λ (before : ℕ) (t : Segment). t.run) 0 segments (s ∷ [])

pub parts_with : (segments : List Segment) (s : Segment) (k : ℕ) → parts_of k (segments ++ s ∷ []) ≡ parts_of k segments ++ cond (s.run == k) (s ∷ []) []
parts_with segments s k = filter-append (λ (t : Segment). t.run == k) segments (s ∷ [])

pub other_run : (a k : ℕ) → a ≢ k → eqb a k ≡ false
other_run a k apart = tell (eqb a k) refl
  where
    tell : (t : Bool) → eqb a k ≡ t → t ≡ false
    tell true is = absurd (apart (eqb-true a k is))
    tell false is = refl

pub parts_same : (segments : List Segment) (s : Segment) (k : ℕ) → s.run ≢ k → parts_of k (segments ++ s ∷ []) ≡ parts_of k segments
parts_same segments s k apart = parts_with segments s k ∙ rw (other_run s.run k apart) (append-nil (parts_of k segments))

own_run : (a : ℕ) → eqb a a ≡ true
own_run a = eq-eqb a a refl

pub parts_more : (segments : List Segment) (s : Segment) → parts_of s.run (segments ++ s ∷ []) ≡ parts_of s.run segments ++ s ∷ []
parts_more segments s = parts_with segments s s.run ∙ rw (own_run s.run) refl

texts_same : (segments : List Segment) (s : Segment) (run : ℕ) → run < s.run → texts_to run (segments ++ s ∷ []) ≡ texts_to run segments
texts_same segments s zero below = refl
texts_same segments s (suc run) below =
    rw (texts_same segments s run (omega (arith, below)), parts_same segments s (suc run) (λ same. omega (arith, below, same))) refl

before_same : (segments : List Segment) (s : Segment) (run : ℕ) → run ≡ s.run → texts_before run (segments ++ s ∷ []) ≡ texts_before run segments
before_same segments s zero is = refl
before_same segments s (suc run) is = texts_same segments s run (omega (arith, is))

pub above_with : (segments : List Segment) (s : Segment) (k : ℕ) → last_run segments ≤ s.run → ((n : ℕ) → last_run segments < n → parts_of n segments ≡ []) → s.run < k → parts_of k (segments ++ s ∷ []) ≡ []
above_with segments s k up above over = parts_same segments s k (λ same. omega (arith, over, same)) ∙ above k (omega (arith, up, over))

-- a run with one more part
run_more : (run : ℕ) (parts : List Segment) (s : Segment) → s.part ≡ length parts → s.part ≢ 0 → appended (run_of run parts) s ≡ run_of run (parts ++ s ∷ [])
run_more run parts s next some =
    let epoch : first_epoch_of (parts ++ s ∷ []) ≡ first_epoch_of parts =
    fold-append (λ (before : ℕ) (t : Segment). cond (t.part == 0) t.first_epoch before) 0 parts (s ∷ []) ∙ rw (other_run s.part 0 some) refl in
    let drains : flat_map (λ (t : Segment). t.drains) (parts ++ s ∷ []) ≡ flat_map (λ (t : Segment). t.drains) parts ++ s.drains =
    flat_map-append (λ (t : Segment). t.drains) parts (s ∷ []) ∙ ap (λ (l : List Drained). flat_map (λ (t : Segment). t.drains) parts ++ l) (append-nil s.drains) in
    let losses : losses_of (parts ++ s ∷ []) ≡ s.losses = fold-append (λ (before : List (List Loss)) (t : Segment). t.losses) [] parts (s ∷ []) in
    let count : length (parts ++ s ∷ []) ≡ s.part + 1 = omega (arith, length-append parts (s ∷ []), next) in
    let whole : is_whole (parts ++ s ∷ []) ≡ s.last = fold-append (λ (before : Bool) (t : Segment). t.last) true parts (s ∷ []) in
    rw (epoch, drains, losses, count, whole) refl

run_first : (s : Segment) → s.part ≡ 0 → started s ≡ run_of s.run (s ∷ [])
run_first s first = rw (first, append-nil s.drains) refl

-- the text is whole once its last run is shown
whole_at : (segments : List Segment) (run : ℕ) → texts_before run segments ++ shown (run_of run (parts_of run segments)) ≡ texts_to run segments
whole_at segments zero = refl
whole_at segments (suc run) = rw (other_run (suc run) 0 (λ same. omega (arith, same))) refl

pub lists_whole : (segments : List Segment) (text : List ℕ) (run : JoinedRun) → Lists segments text run → text ++ shown run ≡ texts_to (last_run segments) segments
lists_whole segments text run lists =
    let r = last_run segments in
    ap (λ (t : List ℕ). t ++ shown run) lists.text_is ∙ ap (λ (j : JoinedRun). texts_before r segments ++ shown j) lists.run_is ∙ whole_at segments r

pub lists_none : Lists [] [] no_parts
lists_none = record { run_is = refl; text_is = refl; above = λ k over. refl }

-- a run that was not ended has a part
pub some_parts : (parts : List Segment) → not (is_whole parts) ≡ true → length parts ≡ 0 → ⊥
some_parts [] end none = cc
some_parts (p ∷ ps) end none = omega (arith, none)

pub lists_more : (segments : List Segment) (text : List ℕ) (run : JoinedRun) (s : Segment) → Lists segments text run → goes_on (reached_by run) s ≡ true → Lists (segments ++ s ∷ []) text (appended run s)
lists_more segments text run s lists on =
    let r = last_run segments in
    let parts = parts_of r segments in
    let there : goes_on (reached_by (run_of r parts)) s ≡ true = subst (λ (j : JoinedRun). goes_on (reached_by j) s ≡ true) lists.run_is on in
    let first = and_first (s.run == r && s.part == length parts) (not (is_whole parts)) there in
    let open_end = and_second (s.run == r && s.part == length parts) (not (is_whole parts)) there in
    let same : s.run ≡ r = eqb-true s.run r (and_first (s.run == r) (s.part == length parts) first) in
    let next : s.part ≡ length parts = eqb-true s.part (length parts) (and_second (s.run == r) (s.part == length parts) first) in
    let some : s.part ≢ 0 = λ none. some_parts parts open_end (sym next ∙ none) in
    record {
      run_is = ap (λ (j : JoinedRun). appended j s) lists.run_is ∙ run_more r parts s next some
          ∙ sym (ap (λ (k : ℕ). run_of k (parts_of k (segments ++ s ∷ []))) (last_with segments s) ∙ ap (λ (ps : List Segment). run_of s.run ps) (parts_more segments s)
          ∙ ap (λ (k : ℕ). run_of k (parts_of k segments ++ s ∷ [])) same);
      text_is = lists.text_is ∙ ap (λ (k : ℕ). texts_before k segments) (sym same) ∙ sym (before_same segments s s.run refl)
          ∙ ap (λ (k : ℕ). texts_before k (segments ++ s ∷ [])) (sym (last_with segments s));
      above = λ k over. above_with segments s k (omega (arith, same)) lists.above (omega (arith, over, last_with segments s));
    }

pub lists_next : (segments : List Segment) (text : List ℕ) (run : JoinedRun) (s : Segment) → Lists segments text run → begins_next (reached_by run) s ≡ true → Lists (segments ++ s ∷ []) (text ++ shown run) (started s)
lists_next segments text run s lists next =
    let r = last_run segments in
    let there : begins_next (reached_by (run_of r (parts_of r segments))) s ≡ true = subst (λ (j : JoinedRun). begins_next (reached_by j) s ≡ true) lists.run_is next in
    let same : s.run ≡ r + 1 = eqb-true s.run (r + 1) (and_first (s.run == r + 1) (s.part == 0) there) in
    let first : s.part ≡ 0 = eqb-true s.part 0 (and_second (s.run == r + 1) (s.part == 0) there) in
    let alone : parts_of s.run (segments ++ s ∷ []) ≡ s ∷ [] =
    parts_more segments s ∙ ap (λ (ps : List Segment). ps ++ s ∷ []) (lists.above s.run (omega (arith, same))) in
    let after : s.run ≡ suc r = omega (arith, same) in
    record {
      run_is = run_first s first
          ∙ sym (ap (λ (k : ℕ). run_of k (parts_of k (segments ++ s ∷ []))) (last_with segments s) ∙ ap (λ (ps : List Segment). run_of s.run ps) alone);
      text_is = lists_whole segments text run lists ∙ sym (texts_same segments s r (omega (arith, same)))
          ∙ ap (λ (k : ℕ). texts_before k (segments ++ s ∷ [])) (sym (last_with segments s ∙ after));
      above = λ k over. above_with segments s k (omega (arith, same)) lists.above (omega (arith, over, last_with segments s));
    }

-- ---- what the files tell, one segment after another

readable_with : (all : List (Option Segment)) (s : Segment) → readable (all ++ Some s ∷ []) ≡ readable all ++ s ∷ []
readable_with [] s = refl
readable_with (None ∷ all) s = readable_with all s
readable_with (Some t ∷ all) s = ap (λ (l : List Segment). t ∷ l) (readable_with all s)

-- what the file of a generation tells
abbrev pub part_in : Files → ℕ → Option Segment
part_in files g = value_in segment (files (segment_file g))

-- the first n segments are read and in order, and the text and the run are theirs
pub record Progress (files : Files) (n : ℕ) (text : List ℕ) (run : JoinedRun) : Type 0 where
  pub good : (rest : List (Option Segment)) → first_bad (segments_to n files ++ rest) ≡ first_bad_from (reached_by run) (n + 1) rest
  pub lists : Lists (readable (segments_to n files)) text run

pub starts : (files : Files) → Progress files 0 [] no_parts
starts files = record { good = λ rest. refl; lists = lists_none }

reached_with : (run : JoinedRun) (s : Segment) (t : Bool) → goes_on (reached_by run) s ≡ t → follows (reached_by run) s ≡ true → reached_by (run_with run s) ≡ reached s
reached_with run s true on next =
    let first = and_first (s.run == run.kept.run && s.part == run.parts) (not run.whole) on in
    let same : s.run ≡ run.kept.run = eqb-true s.run run.kept.run (and_first (s.run == run.kept.run) (s.part == run.parts) first) in
    rw (on, same) refl
reached_with run s false on next = rw on refl

pub or_second : (a b : Bool) → a ≡ false → (a || b) ≡ true → b ≡ true
or_second true b is holds = cc
or_second false b is holds = holds

lists_with : (segments : List Segment) (text : List ℕ) (run : JoinedRun) (s : Segment) (t : Bool) → goes_on (reached_by run) s ≡ t → follows (reached_by run) s ≡ true → Lists segments text run
    → Lists (segments ++ s ∷ []) (text_with text run s) (run_with run s)
lists_with segments text run s true on next lists = rw on (lists_more segments text run s lists on)
lists_with segments text run s false on next lists = rw on (lists_next segments text run s lists (or_second (goes_on (reached_by run) s) (begins_next (reached_by run) s) on next))

segments_more : (files : Files) (n : ℕ) → segments_to (n + 1) files ≡ segments_to n files ++ part_in files (n + 1) ∷ []
segments_more files n = rw add-one refl

-- one more segment that is in order
pub goes_on_by : (files : Files) (n : ℕ) (text : List ℕ) (run : JoinedRun) (s : Segment) → Progress files n text run → part_in files (n + 1) ≡ Some s → follows (reached_by run) s ≡ true
    → Progress files (n + 1) (text_with text run s) (run_with run s)
goes_on_by files n text run s before told next =
    let segments = segments_to n files in
    let more : segments_to (n + 1) files ≡ segments ++ Some s ∷ [] = segments_more files n ∙ ap (λ (o : Option Segment). segments ++ o ∷ []) told in
    let listed = lists_with (readable segments) text run s (goes_on (reached_by run) s) refl next before.lists in
    let all : readable segments ++ s ∷ [] ≡ readable (segments_to (n + 1) files) = sym (ap readable more ∙ readable_with segments s) in
    record {
      good = λ rest. ap (λ (l : List (Option Segment)). first_bad (l ++ rest)) more ∙ ap first_bad (append_assoc segments (Some s ∷ []) rest) ∙ before.good (Some s ∷ rest)
          ∙ ap (λ (t : Bool). cond t (first_bad_from (reached s) (n + 1 + 1) rest) (Some (named.Segment (n + 1)))) next
          ∙ ap (λ (r : Reached). first_bad_from r (n + 1 + 1) rest) (sym (reached_with run s (goes_on (reached_by run) s) refl next));
      lists = subst (λ (l : List Segment). Lists l (text_with text run s) (run_with run s)) all listed;
    }

-- all of the segments
pub lists_all : (files : Files) (n : ℕ) (text : List ℕ) (run : JoinedRun) → Progress files n text run → (first_bad (segments_to n files) ≡ None) × (text ++ shown run ≡ listing_of (segments_to n files))
lists_all files n text run whole =
    (ap first_bad (sym (append-nil (segments_to n files))) ∙ whole.good [], lists_whole (readable (segments_to n files)) text run whole.lists)

-- the next segment and those behind it
pub rest_of : (files : Files) (n all : ℕ) → n < all → (later : List (Option Segment)) × (segments_to all files ≡ segments_to n files ++ part_in files (n + 1) ∷ later)
rest_of files n zero more = absurd (omega (arith, more))
rest_of files n (suc all) more = one_more (cases_lt n all) (λ lt. rest_of files n all lt)
  where
    one_more : (n < all) ⊎ (all ≤ n) → (n < all → (later : List (Option Segment)) × (segments_to all files ≡ segments_to n files ++ part_in files (n + 1) ∷ later))
        → (later : List (Option Segment)) × (segments_to (suc all) files ≡ segments_to n files ++ part_in files (n + 1) ∷ later)
    one_more (inl lt) rest =
        let last = part_in files (suc all) ∷ [] in
        let r = rest lt in
        (r.0 ++ last, ap (λ (l : List (Option Segment)). l ++ last) r.1 ∙ append_assoc (segments_to n files) (part_in files (n + 1) ∷ r.0) last)
    one_more (inr ge) rest =
        let same : all ≡ n = omega (arith, ge, more) in
        ([], rw (same, add-one) refl)

-- the next segment is bad
pub bad_next : (files : Files) (n all : ℕ) (text : List ℕ) (run : JoinedRun) → n < all → Progress files n text run → part_in files (n + 1) ≡ None → first_bad (segments_to all files) ≡ Some (named.Segment (n + 1))
bad_next files n all text run more before bad =
    let r = rest_of files n all more in
    ap first_bad r.1 ∙ before.good (part_in files (n + 1) ∷ r.0) ∙ ap (λ (o : Option Segment). first_bad_from (reached_by run) (n + 1) (o ∷ r.0)) bad

-- the next segment is out of order
pub misplaced_next : (files : Files) (n all : ℕ) (text : List ℕ) (run : JoinedRun) (s : Segment) → n < all → Progress files n text run → part_in files (n + 1) ≡ Some s → follows (reached_by run) s ≡ false
    → first_bad (segments_to all files) ≡ Some (named.Segment (n + 1))
misplaced_next files n all text run s more before told apart =
    let r = rest_of files n all more in
    ap first_bad r.1 ∙ before.good (part_in files (n + 1) ∷ r.0) ∙ ap (λ (o : Option Segment). first_bad_from (reached_by run) (n + 1) (o ∷ r.0)) told
    ∙ ap (λ (t : Bool). cond t (first_bad_from (reached s) (n + 1 + 1) r.0) (Some (named.Segment (n + 1)))) apart
