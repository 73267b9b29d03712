-- What the files say under the next head, once its seal stands.
use Rattle.std.proofs.Common.{arith, ◌≡◌, ℕ, suc, ◌+◌, ◌≤◌, inl, inr, true, ◌&&◌, List, [], ◌∷◌, ◌++◌, None, Some, Option, length, refl, sym, ap, ◌∙◌, subst, eqb, length-append}
use Rattle.std.specs.Prelude.{find, nat_le, nat_lt}
use Rattle.std.specs.List.{AllByRecursion, list_all}
use Rattle.std.proofs.lemmas.Bool.{eq-eqb, eqb-true}
use Rattle.store_io.specs.Files.{Files}
use Rattle.store_io.specs.declared.file_refs.FileRef.{FileRef}
use Rattle.store_io.specs.declared.file_refs.FileRef.TheVariants.{Head, Known, Unknown, Segment}
use Rattle.store_io.specs.FileNames.{file_name}
use Rattle.image_catalog.specs.Images.{place_of}
use Rattle.database_model.specs.declared.profiles.ProfileRow.{ProfileRow}
use Rattle.database_model.specs.ProfileForm.{format1}
use Rattle.database_model.specs.SegmentForm.{segment}
use Rattle.database_state.specs.declared.rows.KnownRow.{KnownRow}
use Rattle.database_state.specs.Rows.{known_same, unknown_same, known_place, unknown_place, known_row, unknown_row, is_known_row}
use Rattle.database_state.specs.Heads as heads
use Rattle.database_state.specs.Heads.{is_in_range, IsHead, head_text}
use Rattle.database_state.specs.Updates.{KnownUpdate, UnknownUpdate, Update, Fits, known_row_of, unknown_row_of, known_in, unknown_in, known_or, unknown_or, at_image, is_known_update, is_unknown_update, head_after, updated}
use Rattle.database_state.specs.Standing.{head_file, segment_file, value_in, known_at, unknown_at, segments_to, database_of}
use Rattle.head_file.proofs.Limits.{ranges_of, le_of, lt_of}
use Rattle.epoch_store.specs.Puts.{Put, put, puts}
use Rattle.epoch_store.specs.Commits.{known_name, unknown_name, AreWritten, AreWritesOf}
use Rattle.epoch_store.proofs.Order.{and_first, and_second, both, cases, or_else, find_each}
use Rattle.database_state.proofs.RowOrders.{known_order, unknown_order}
use Rattle.database_state.specs.Generations.{FileFits, IsComing}
use Rattle.database_state.proofs.Names.{one_file, differ}
use Rattle.epoch_store.proofs.Phases.{puts-append}
use Rattle.epoch_store.proofs.Values.{tells}
use Rattle.epoch_store.proofs.Images.{place_kept, place_new}
use Rattle.epoch_store.proofs.NextHead.{known_rise, unknown_rise}
use Rattle.epoch_store.proofs.Stays.{with_same, with_other, Keeps, AllComing, Bounded, bounded, known_is, found_passes, known_held, unknown_held, segments_held}
use Rattle.epoch_store.proofs.Written.{NoneOf, untouched, each_written, TellsApart, tells_changed}

-- an update that goes on from a head within the limits
pub record GoesOn (h : heads.Head) (u : Update) : Type 0 where
  pub range : is_in_range h ≡ true
  pub fits : Fits h.epoch h.runs h.names u
  pub head : IsHead (head_after u h)

pub goes_bounded : (h : heads.Head) (u : Update) → GoesOn h u → Bounded h
goes_bounded h u on = bounded h on.range (omega (arith, length-append h.names u.names, on.fits.names.few))

-- the next generation and the last epoch are within the limits
pub goes_most : (h : heads.Head) (u : Update) → GoesOn h u → (h.generation + 1 ≤ 65536) × (u.epoch ≤ 65536)
goes_most h u on = let ranges = ranges_of (head_after u h) on.head.range in (omega (arith, ranges.count), omega (arith, ranges.count, ranges.epoch))

-- ---- the files of the changes

known_fits : (g epoch images : ℕ) (k : KnownUpdate) → g ≤ 65536 → epoch ≤ 65536 → images ≤ 4096 → is_known_update epoch images k ≡ true → FileFits (Known k.epoch k.image k.event g)
known_fits g epoch images k g_le e_le i_le is =
    let a = nat_le k.epoch epoch in
    let b = nat_lt k.image images in
    let d = nat_le k.event 3 in
    let front = and_first (a && b) d is in
    let epoch_le = le_of k.epoch epoch (and_first a b front) in
    let image_lt = lt_of k.image images (and_second a b front) in
    let event_le = le_of k.event 3 (and_second (a && b) d is) in
    (omega arith, omega arith, omega arith, omega arith)

unknown_fits : (g epoch : ℕ) (k : UnknownUpdate) → g ≤ 65536 → epoch ≤ 65536 → is_unknown_update epoch k ≡ true → FileFits (Unknown k.epoch k.event g)
unknown_fits g epoch k g_le e_le is =
    let a = nat_le k.epoch epoch in
    let d = nat_le k.event 3 in
    let epoch_le = le_of k.epoch epoch (and_first a d is) in
    let event_le = le_of k.event 3 (and_second a d is) in
    (omega arith, omega arith, omega arith)

all_known : (P : List ℕ → Type 0) (g epoch images : ℕ) (us : List KnownUpdate) → ((k : KnownUpdate) → is_known_update epoch images k ≡ true → P (known_name g k)) → list_all (is_known_update epoch images) us ≡ true → AllByRecursion (λ k. P (known_name g k)) us
all_known P g epoch images [] each all = tt
all_known P g epoch images (k ∷ us) each all = (each k (and_first (is_known_update epoch images k) (list_all (is_known_update epoch images) us) all), all_known P g epoch images us each (and_second (is_known_update epoch images k) (list_all (is_known_update epoch images) us) all))

all_unknown : (P : List ℕ → Type 0) (g epoch : ℕ) (us : List UnknownUpdate) → ((k : UnknownUpdate) → is_unknown_update epoch k ≡ true → P (unknown_name g k)) → list_all (is_unknown_update epoch) us ≡ true → AllByRecursion (λ k. P (unknown_name g k)) us
all_unknown P g epoch [] each all = tt
all_unknown P g epoch (k ∷ us) each all = (each k (and_first (is_unknown_update epoch k) (list_all (is_unknown_update epoch) us) all), all_unknown P g epoch us each (and_second (is_unknown_update epoch k) (list_all (is_unknown_update epoch) us) all))

all_append : {A : Type 0} (P : A → Type 0) (xs ys : List A) → AllByRecursion P xs → AllByRecursion P ys → AllByRecursion P (xs ++ ys)
all_append P [] ys front back = back
all_append P (x ∷ xs) ys front back = (front.0, all_append P xs ys front.1 back)

-- all writes before the seal are of files of the next generation
pub all_coming : (h : heads.Head) (u : Update) (ws : List Put) → GoesOn h u → AreWritesOf (head_after u h) u ws → AllComing (h.generation + 1) ws
all_coming h u ws on of =
    let g = h.generation + 1 in
    let images = length (h.names ++ u.names) in
    let most = goes_most h u on in
    let P : Put → Type 0 = λ w. IsComing g w.name in
    let known = each_written (IsComing g) (known_name g) (λ k. k.rows) u.known of.known of.are_known
    (all_known (IsComing g) g u.epoch images u.known (λ k is. record { file = Known k.epoch k.image k.event g; fits = known_fits g u.epoch images k most.0 most.1 on.fits.names.few is; of = refl; is = refl }) on.fits.known) in
    let unknown = each_written (IsComing g) (unknown_name g) (λ k. k.rows) u.unknown of.unknown of.are_unknown
    (all_unknown (IsComing g) g u.epoch u.unknown (λ k is. record { file = Unknown k.epoch k.event g; fits = unknown_fits g u.epoch k most.0 most.1 is; of = refl; is = refl }) on.fits.unknown) in
    let part : IsComing g (segment_file g) = record { file = Segment g; fits = omega (arith, most.0); of = refl; is = refl } in
    let head : IsComing g (head_file g) = record { file = Head g; fits = omega (arith, most.0); of = refl; is = refl } in
    subst (AllByRecursion P) (sym of.list)
    (all_append P of.known (of.unknown ++ record { name = segment_file g; bytes = of.part } ∷ record { name = head_file g; bytes = head_text (head_after u h) } ∷ []) known
    (all_append P of.unknown (record { name = segment_file g; bytes = of.part } ∷ record { name = head_file g; bytes = head_text (head_after u h) } ∷ []) unknown (part, (head, tt))))

-- ---- what stands under the names of the writes

epoch_of : FileRef → ℕ
epoch_of (Head g) = 0
epoch_of (Known e i v g) = e
epoch_of (Unknown e v g) = e
epoch_of (Segment g) = 0

image_of : FileRef → ℕ
image_of (Head g) = 0
image_of (Known e i v g) = i
image_of (Unknown e v g) = 0
image_of (Segment g) = 0

event_of : FileRef → ℕ
event_of (Head g) = 0
event_of (Known e i v g) = v
event_of (Unknown e v g) = v
event_of (Segment g) = 0

known_apart : (g epoch images : ℕ) → g ≤ 65536 → epoch ≤ 65536 → images ≤ 4096 → TellsApart known_same (known_row_of g) (known_name g) (is_known_update epoch images)
unfolding epoch_of image_of event_of
known_apart g epoch images g_le e_le i_le = λ a b is_a is_b same.
    let files : Known a.epoch a.image a.event g ≡ Known b.epoch b.image b.event g = one_file _ _ (known_fits g epoch images a g_le e_le i_le is_a) (known_fits g epoch images b g_le e_le i_le is_b) same in
    both _ _ (both _ _ (eq-eqb a.epoch b.epoch (ap epoch_of files)) (eq-eqb a.image b.image (ap image_of files))) (eq-eqb a.event b.event (ap event_of files))

unknown_apart : (g epoch : ℕ) → g ≤ 65536 → epoch ≤ 65536 → TellsApart unknown_same (unknown_row_of g) (unknown_name g) (is_unknown_update epoch)
unfolding epoch_of event_of
unknown_apart g epoch g_le e_le = λ a b is_a is_b same.
    let files : Unknown a.epoch a.event g ≡ Unknown b.epoch b.event g = one_file _ _ (unknown_fits g epoch a g_le e_le is_a) (unknown_fits g epoch b g_le e_le is_b) same in
    both _ _ (eq-eqb a.epoch b.epoch (ap epoch_of files)) (eq-eqb a.event b.event (ap event_of files))

-- What was written stands there.
pub record Stand (h : heads.Head) (u : Update) (c : Files) : Type 0 where
  pub known : (epoch image event : ℕ) (k : KnownUpdate) → known_in u.known epoch image event ≡ Some k → value_in format1 (c (known_name (h.generation + 1) k)) ≡ Some k.rows
  pub unknown : (epoch event : ℕ) (k : UnknownUpdate) → unknown_in u.unknown epoch event ≡ Some k → value_in format1 (c (unknown_name (h.generation + 1) k)) ≡ Some k.rows
  pub part : value_in segment (c (segment_file (h.generation + 1))) ≡ Some u.segment
  pub head : c (head_file (h.generation + 1)) ≡ Some (head_text (head_after u h))

-- names of two kinds
head_known : (g : ℕ) (k : KnownUpdate) → head_file g ≡ known_name g k → ⊥
head_known g k e = differ 104 112 (omega arith) _ _ e

part_known : (g : ℕ) (k : KnownUpdate) → segment_file g ≡ known_name g k → ⊥
part_known g k e = differ 114 112 (omega arith) _ _ e

unknown_known : (g : ℕ) (j : UnknownUpdate) (k : KnownUpdate) → unknown_name g j ≡ known_name g k → ⊥
unknown_known g j k e = differ 117 112 (omega arith) _ _ e

head_unknown : (g : ℕ) (k : UnknownUpdate) → head_file g ≡ unknown_name g k → ⊥
head_unknown g k e = differ 104 117 (omega arith) _ _ e

part_unknown : (g : ℕ) (k : UnknownUpdate) → segment_file g ≡ unknown_name g k → ⊥
part_unknown g k e = differ 114 117 (omega arith) _ _ e

head_part : (g : ℕ) → head_file g ≡ segment_file g → ⊥
head_part g e = differ 104 114 (omega arith) _ _ e

-- none of the changed profiles has another name
unknown_others : (h : heads.Head) (u : Update) (ws : List Put) (name : List ℕ) → ((k : UnknownUpdate) → unknown_name (h.generation + 1) k ≡ name → ⊥) → AreWritten (unknown_name (h.generation + 1)) (λ k. k.rows) u.unknown ws → NoneOf name ws
unknown_others h u ws name apart are = each_written (λ n. n ≡ name → ⊥) (unknown_name (h.generation + 1)) (λ k. k.rows) u.unknown ws are (each u.unknown)
  where
    each : (us : List UnknownUpdate) → AllByRecursion (λ k. unknown_name (h.generation + 1) k ≡ name → ⊥) us
    each [] = tt
    each (k ∷ us) = (apart k, each us)

pub all_stand : (h : heads.Head) (u : Update) (ws : List Put) (d c : Files) → GoesOn h u → AreWritesOf (head_after u h) u ws → ((file : FileRef) → c (file_name file) ≡ puts ws d (file_name file)) → Stand h u c
all_stand h u ws d c on of same =
    let g = h.generation + 1 in
    let images = length (h.names ++ u.names) in
    let most = goes_most h u on in
    let part : Put = record { name = segment_file g; bytes = of.part } in
    let head : Put = record { name = head_file g; bytes = head_text (head_after u h) } in
    let whole : puts ws d ≡ put head (put part (puts of.unknown (puts of.known d))) = ap (λ l. puts l d) of.list ∙ puts-append of.known (of.unknown ++ part ∷ head ∷ []) d ∙ puts-append of.unknown (part ∷ head ∷ []) (puts of.known d) in
    let at : (file : FileRef) → c (file_name file) ≡ put head (put part (puts of.unknown (puts of.known d))) (file_name file) = λ file. same file ∙ ap (λ f. f (file_name file)) whole in
    record {
      known = λ epoch image event k found.
          let n = known_name g k in
          let last : (put head (put part (puts of.unknown (puts of.known d)))) n ≡ puts of.unknown (puts of.known d) n =
          with_other (head_file g) n (Some head.bytes) (put part (puts of.unknown (puts of.known d))) (λ e. head_known g k e) ∙ with_other (segment_file g) n (Some part.bytes) (puts of.unknown (puts of.known d)) (λ e. part_known g k e) in
          let others : puts of.unknown (puts of.known d) n ≡ puts of.known d n = untouched n of.unknown (puts of.known d) (unknown_others h u of.unknown n (λ j e. unknown_known g j k e) of.are_unknown) in
          ap (value_in format1) (at (Known k.epoch k.image k.event g) ∙ last ∙ others)
          ∙ tells_changed known_order (known_row_of g) (known_name g) (λ j. j.rows) (is_known_update u.epoch images) (known_apart g u.epoch images most.0 most.1 on.fits.names.few) u.known of.known d (known_place epoch image event) k of.are_known on.fits.known (known_rise g u.known on.fits.known_order) found;
      unknown = λ epoch event k found.
          let n = unknown_name g k in
          let last : (put head (put part (puts of.unknown (puts of.known d)))) n ≡ puts of.unknown (puts of.known d) n =
          with_other (head_file g) n (Some head.bytes) (put part (puts of.unknown (puts of.known d))) (λ e. head_unknown g k e) ∙ with_other (segment_file g) n (Some part.bytes) (puts of.unknown (puts of.known d)) (λ e. part_unknown g k e) in
          ap (value_in format1) (at (Unknown k.epoch k.event g) ∙ last)
          ∙ tells_changed unknown_order (unknown_row_of g) (unknown_name g) (λ j. j.rows) (is_unknown_update u.epoch) (unknown_apart g u.epoch most.0 most.1) u.unknown of.unknown (puts of.known d) (unknown_place epoch event) k of.are_unknown on.fits.unknown (unknown_rise g u.unknown on.fits.unknown_order) found;
      part =
          let last : (put head (put part (puts of.unknown (puts of.known d)))) (segment_file g) ≡ Some of.part =
          with_other (head_file g) (segment_file g) (Some head.bytes) (put part (puts of.unknown (puts of.known d))) (λ e. head_part g e) ∙ with_same (segment_file g) (segment_file g) (Some part.bytes) (puts of.unknown (puts of.known d)) refl in
          ap (value_in segment) (at (Segment g) ∙ last) ∙ tells segment of.part u.segment of.is_part;
      head = at (Head g) ∙ with_same (head_file g) (head_file g) (Some head.bytes) (put part (puts of.unknown (puts of.known d))) refl;
    }

-- ---- what the files say then

image_same : (o : Option ℕ) (F G : ℕ → Option (List ProfileRow)) → ((image : ℕ) → o ≡ Some image → F image ≡ G image) → at_image o F ≡ at_image o G
image_same None F G same = refl
image_same (Some image) F G same = same image refl

-- no row of an image that there was not
other_image : (p r : KnownRow) → known_same p r ≡ true → p.image ≡ r.image
other_image p r is = eqb-true p.image r.image (and_second (eqb p.epoch r.epoch) (eqb p.image r.image) (and_first (eqb p.epoch r.epoch && eqb p.image r.image) (eqb p.event r.event) is))

pub found_same : (p : KnownRow) (rows : List KnownRow) (r : KnownRow) → find (known_same p) rows ≡ Some r → known_same p r ≡ true
found_same p [] r found = absurd cc
found_same p (x ∷ rows) r found = elim (cases (known_same p x)) [
  | inl holds ↦
      let same : Some x ≡ Some r = rw holds at found in
      let is : x ≡ r = cc in
      subst (λ y. known_same p y ≡ true) is holds
  | inr fails ↦
      let later : find (known_same p) rows ≡ Some r = rw fails at found in
      found_same p rows r later
]

pub no_row : (h : heads.Head) (epoch image event : ℕ) → Bounded h → length h.names ≤ image → known_row h.known epoch image event ≡ None
no_row h epoch image event is past = by_row (known_row h.known epoch image event) refl
  where
    by_row : (o : Option KnownRow) → known_row h.known epoch image event ≡ o → o ≡ None
    by_row None found = refl
    by_row (Some r) found =
        let passes = found_passes (is_known_row h.epoch (length h.names) h.generation) _ h.known r is.ranges.known found in
        let row = known_is h.epoch (length h.names) h.generation r (omega (arith, is.ranges.epoch, is.most)) is.few is.most passes in
        let same : image ≡ r.image = other_image (known_place epoch image event) r (found_same (known_place epoch image event) h.known r found) in
        absurd (omega (arith, same, row.image, past))

known_said : (h : heads.Head) (u : Update) (d c : Files) → GoesOn h u → Keeps (h.generation + 1) d c → Stand h u c → (epoch : ℕ) (name : List ℕ) (event image : ℕ) → place_of name (h.names ++ u.names) ≡ Some image → known_at c (known_row (head_after u h).known epoch image event) ≡ known_or (known_in u.known epoch image event) (at_image (place_of name h.names) (λ i. known_at d (known_row h.known epoch i event)))
known_said h u d c on keeps stand epoch name event image place =
    let g = h.generation + 1 in
    let is = goes_bounded h u on in
    let row : known_row (head_after u h).known epoch image event ≡ or_else (known_row_of g) (known_in u.known epoch image event) (known_row h.known epoch image event) = find_each known_order (known_row_of g) (known_place epoch image event) h.known u.known (known_rise g u.known on.fits.known_order) in
    ap (known_at c) row ∙ by_update (known_in u.known epoch image event) refl
  where
    by_place : (o : Option ℕ) → place_of name h.names ≡ o → known_at c (known_row h.known epoch image event) ≡ at_image o (λ i. known_at d (known_row h.known epoch i event))
    by_place None none = ap (known_at c) (no_row h epoch image event (goes_bounded h u on) (place_new name h.names u.names image none place))
    by_place (Some i) here =
        let same : i ≡ image = place_kept name h.names u.names i image here place in
        known_held h d c (goes_bounded h u on) keeps epoch image event ∙ ap (λ j. known_at d (known_row h.known epoch j event)) (sym same)

    by_update : (o : Option KnownUpdate) → known_in u.known epoch image event ≡ o → known_at c (or_else (known_row_of (h.generation + 1)) o (known_row h.known epoch image event)) ≡ known_or o (at_image (place_of name h.names) (λ i. known_at d (known_row h.known epoch i event)))
    by_update None none = by_place (place_of name h.names) refl
    by_update (Some k) found = stand.known epoch image event k found

unknown_said : (h : heads.Head) (u : Update) (d c : Files) → GoesOn h u → Keeps (h.generation + 1) d c → Stand h u c → (epoch event : ℕ) → unknown_at c (unknown_row (head_after u h).unknown epoch event) ≡ unknown_or (unknown_in u.unknown epoch event) (unknown_at d (unknown_row h.unknown epoch event))
unknown_said h u d c on keeps stand epoch event =
    let g = h.generation + 1 in
    let row : unknown_row (head_after u h).unknown epoch event ≡ or_else (unknown_row_of g) (unknown_in u.unknown epoch event) (unknown_row h.unknown epoch event) = find_each unknown_order (unknown_row_of g) (unknown_place epoch event) h.unknown u.unknown (unknown_rise g u.unknown on.fits.unknown_order) in
    ap (unknown_at c) row ∙ by_update (unknown_in u.unknown epoch event) refl
  where
    by_update : (o : Option UnknownUpdate) → unknown_in u.unknown epoch event ≡ o → unknown_at c (or_else (unknown_row_of (h.generation + 1)) o (unknown_row h.unknown epoch event)) ≡ unknown_or o (unknown_at d (unknown_row h.unknown epoch event))
    by_update None none = unknown_held h d c (goes_bounded h u on) keeps epoch event
    by_update (Some k) found = stand.unknown epoch event k found

one_up : (n : ℕ) → n + 1 ≡ suc n
one_up n = omega arith

-- under the next head the files say what they said, with the update
pub said_after : (h : heads.Head) (u : Update) (d c : Files) → GoesOn h u → Keeps (h.generation + 1) d c → Stand h u c → database_of (head_after u h) c ≡ updated u (database_of h d)
said_after h u d c on keeps stand =
    let names = h.names ++ u.names in
    let known : (epoch : ℕ) (name : List ℕ) (event : ℕ) → at_image (place_of name names) (λ image. known_at c (known_row (head_after u h).known epoch image event)) ≡ at_image (place_of name names) (λ image. known_or (known_in u.known epoch image event) (at_image (place_of name h.names) (λ i. known_at d (known_row h.known epoch i event)))) =
    λ epoch name event. image_same (place_of name names) _ _ (known_said h u d c on keeps stand epoch name event) in
    let unknown = unknown_said h u d c on keeps stand in
    let before = segments_held (h.generation + 1) d c keeps h.generation (omega arith) (omega (arith, (goes_bounded h u on).most)) in
    let this : value_in segment (c (segment_file (suc h.generation))) ≡ Some u.segment = subst (λ n. value_in segment (c (segment_file n)) ≡ Some u.segment) (one_up h.generation) stand.part in
    let segments : segments_to (h.generation + 1) c ≡ segments_to h.generation d ++ Some u.segment ∷ [] = ap (λ n. segments_to n c) (one_up h.generation) ∙ ap (λ l. l ++ value_in segment (c (segment_file (suc h.generation))) ∷ []) before ∙ ap (λ o. segments_to h.generation d ++ o ∷ []) this in
    λ t. record {
      last_epoch = u.epoch;
      runs = u.segment.run;
      names = names;
      known = λ epoch name event. known epoch name event t;
      unknown = λ epoch event. unknown epoch event t;
      segments = segments t;
    }
