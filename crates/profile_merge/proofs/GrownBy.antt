-- The database after the change has grown by what was gathered.
use Rattle.std.proofs.Common.{arith, ◌≡◌, ℕ, ◌≤◌, ◌&&◌, Bool, true, false, cond, eqb, List, [], ◌∷◌, ◌++◌, Option, None, Some, length, refl, sym, ap, ◌∙◌, subst}
use Rattle.std.specs.Prelude.{is_some, slice_index_or}
use Rattle.std.specs.Map.{lookup}
use Rattle.store_io.specs.Files.{Files}
use Rattle.sample_key.specs.declared.events.Event.{Event}
use Rattle.sample_key.specs.Events.{code_of, event_of_code}
use Rattle.image_catalog.specs.Images.{place_of}
use Rattle.trace_model.specs.Recording.{name_at}
use Rattle.database_model.specs.declared.profiles.ProfileRow.{ProfileRow}
use Rattle.database_model.specs.Runs.{Segment}
use Rattle.database_state.specs.Heads.{Head, is_in_range}
use Rattle.database_state.specs.Limits.{IsProfile}
use Rattle.database_state.specs.Rows.{known_row}
use Rattle.database_state.specs.Standing.{known_at, database_of}
use Rattle.database_state.specs.Updates.{Update, KnownUpdate, UnknownUpdate, known_in, unknown_in, known_or, unknown_or, at_image, updated}
use Rattle.epoch_store.proofs.Images.{place_kept, place_new}
use Rattle.epoch_store.proofs.Sealed.{no_row}
use Rattle.epoch_store.proofs.Stays.{bounded}
use Rattle.growth_model.specs.Additions.{Additions}
use Rattle.growth_model.specs.Growth.{AreGrown, IsGrown, Grows}
use Rattle.profile_merge.specs.declared.owners.Owner.{Owner}
use Rattle.profile_merge.specs.declared.owners.Owner.TheVariants.{Known, Unknown}
use Rattle.profile_merge.specs.declared.growing.Renewed.{Renewed}
use Rattle.profile_merge.specs.Sums.{Collected, Counts, same_owner, sum_at, counts_in, gathered_at}
use Rattle.profile_merge.specs.Gathering.{known_by, unknown_by, additions_in}
use Rattle.profile_merge.specs.Faults.{held_by}
use Rattle.profile_merge.specs.Numbering.{fresh_of, numbers_of}
use Rattle.profile_merge.specs.Renewing.{Parts, ArePartsOf, IsRenewed, AreRenewed, known_file, unknown_file, known_files, unknown_files}
use Rattle.profile_merge.proofs.Adding.{Numbering, found_adds, none_adds, fresh_selected, number_stands, gathered_found, marked, not_gathered}
use Rattle.profile_merge.proofs.Named.{coded, no_event}
use Rattle.profile_merge.proofs.Names.{name_there}
use Rattle.profile_merge.proofs.Numbers.{place_front}
use Rattle.profile_merge.proofs.OwnerOrder.{same_equal}

-- ---- the rows of a changed profile

abbrev pub rows_in : List Renewed → Owner → Option (List ProfileRow)
rows_in [] owner = None
rows_in (one ∷ all) owner = cond (same_owner owner one.owner) (Some one.profile) (rows_in all owner)

abbrev pub or_rows : Option (List ProfileRow) → Option (List ProfileRow) → Option (List ProfileRow)
or_rows None before = before
or_rows (Some rows) before = Some rows

known_step : (o : Owner) (rows : List ProfileRow) (rest : List KnownUpdate) (more : Option (List ProfileRow)) (e n : ℕ) (v : Event) (before : Option (List ProfileRow))
    → known_or (known_in rest e n (code_of v)) before ≡ or_rows more before
    → known_or (known_in (known_file o rows ++ rest) e n (code_of v)) before ≡ or_rows (cond (same_owner (Known e n v) o) (Some rows) more) before
known_step (Unknown f w) rows rest more e n v before same = same
known_step (Known f m w) rows rest more e n v before same = by (same_owner (Known e n v) (Known f m w))
  where
    by : (b : Bool) → known_or (cond b (Some (record { epoch = f; image = m; event = code_of w; rows = rows })) (known_in rest e n (code_of v))) before ≡ or_rows (cond b (Some rows) more) before
    by true = refl
    by false = same

pub known_rows_in : (all : List Renewed) (e n : ℕ) (v : Event) (before : Option (List ProfileRow)) → known_or (known_in (known_files all) e n (code_of v)) before ≡ or_rows (rows_in all (Known e n v)) before
known_rows_in [] e n v before = refl
known_rows_in (one ∷ all) e n v before = known_step one.owner one.profile (known_files all) (rows_in all (Known e n v)) e n v before (known_rows_in all e n v before)

unknown_step : (o : Owner) (rows : List ProfileRow) (rest : List UnknownUpdate) (more : Option (List ProfileRow)) (e : ℕ) (v : Event) (before : Option (List ProfileRow))
    → unknown_or (unknown_in rest e (code_of v)) before ≡ or_rows more before
    → unknown_or (unknown_in (unknown_file o rows ++ rest) e (code_of v)) before ≡ or_rows (cond (same_owner (Unknown e v) o) (Some rows) more) before
unknown_step (Known f m w) rows rest more e v before same = same
unknown_step (Unknown f w) rows rest more e v before same = by (same_owner (Unknown e v) (Unknown f w))
  where
    by : (b : Bool) → unknown_or (cond b (Some (record { epoch = f; event = code_of w; rows = rows })) (unknown_in rest e (code_of v))) before ≡ or_rows (cond b (Some rows) more) before
    by true = refl
    by false = same

pub unknown_rows_in : (all : List Renewed) (e : ℕ) (v : Event) (before : Option (List ProfileRow)) → unknown_or (unknown_in (unknown_files all) e (code_of v)) before ≡ or_rows (rows_in all (Unknown e v)) before
unknown_rows_in [] e v before = refl
unknown_rows_in (one ∷ all) e v before = unknown_step one.owner one.profile (unknown_files all) (rows_in all (Unknown e v)) e v before (unknown_rows_in all e v before)

-- no changed profile is of another code
and_false : (a b : Bool) → b ≡ false → (a && b) ≡ false
and_false true b is = is
and_false false b is = refl

known_skip : (o : Owner) (rows : List ProfileRow) (rest : List KnownUpdate) (e n event : ℕ) → event_of_code event ≡ None → known_in rest e n event ≡ None → known_in (known_file o rows ++ rest) e n event ≡ None
known_skip (Unknown f w) rows rest e n event none more = more
known_skip (Known f m w) rows rest e n event none more =
    ap (λ (b : Bool). cond b (Some (record { epoch = f; image = m; event = code_of w; rows = rows })) (known_in rest e n event)) (and_false (eqb e f && eqb n m) (eqb event (code_of w)) (no_event event w none)) ∙ more

pub no_known : (all : List Renewed) (e n event : ℕ) → event_of_code event ≡ None → known_in (known_files all) e n event ≡ None
no_known [] e n event none = refl
no_known (one ∷ all) e n event none = known_skip one.owner one.profile (known_files all) e n event none (no_known all e n event none)

unknown_skip : (o : Owner) (rows : List ProfileRow) (rest : List UnknownUpdate) (e event : ℕ) → event_of_code event ≡ None → unknown_in rest e event ≡ None → unknown_in (unknown_file o rows ++ rest) e event ≡ None
unknown_skip (Known f m w) rows rest e event none more = more
unknown_skip (Unknown f w) rows rest e event none more =
    ap (λ (b : Bool). cond b (Some (record { epoch = f; event = code_of w; rows = rows })) (unknown_in rest e event)) (and_false (eqb e f) (eqb event (code_of w)) (no_event event w none)) ∙ more

pub no_unknown : (all : List Renewed) (e event : ℕ) → event_of_code event ≡ None → unknown_in (unknown_files all) e event ≡ None
no_unknown [] e event none = refl
no_unknown (one ∷ all) e event none = unknown_skip one.owner one.profile (unknown_files all) e event none (no_unknown all e event none)

-- ---- the parts and the rows

abbrev pub RowsFound : Collected → Head → Files → Owner → Owner → List Renewed → Type 0
RowsFound g h files q p all = (rows : List ProfileRow) × (rows_in all q ≡ Some rows) × IsRenewed (sum_at (counts_in g p)) h files q rows

found_by : (b : Bool) (g : Collected) (h : Head) (files : Files) (q p : Owner) (part : Owner × Owner) (parts : Parts) (one : Renewed) (all : List Renewed) → same_owner q part.0 ≡ b → one.owner ≡ part.0
    → IsRenewed (sum_at (counts_in g part.1)) h files part.0 one.profile → cond b (Some part.1) (lookup (same_owner q) parts) ≡ Some p
    → (lookup (same_owner q) parts ≡ Some p → RowsFound g h files q p all) → RowsFound g h files q p (one ∷ all)
found_by true g h files q p part parts one all is owner renewed found rest =
    let at : q ≡ part.0 = same_equal q part.0 is in
    let from : part.1 ≡ p = cc in
    let same : same_owner q one.owner ≡ true = ap (same_owner q) owner ∙ is in
    let there : IsRenewed (sum_at (counts_in g p)) h files q one.profile = subst (λ (o : Owner). IsRenewed (sum_at (counts_in g p)) h files o one.profile) (sym at) (subst (λ (o : Owner). IsRenewed (sum_at (counts_in g o)) h files part.0 one.profile) from renewed) in
    (one.profile, ap (λ (t : Bool). cond t (Some one.profile) (rows_in all q)) same, there)
found_by false g h files q p part parts one all is owner renewed found rest =
    let other : same_owner q one.owner ≡ false = ap (same_owner q) owner ∙ is in
    let more = rest found in
    (more.0, ap (λ (t : Bool). cond t (Some one.profile) (rows_in all q)) other ∙ more.1, more.2)

pub rows_found : (g : Collected) (h : Head) (files : Files) (q p : Owner) (parts : Parts) (all : List Renewed) → AreRenewed g h files parts all → lookup (same_owner q) parts ≡ Some p → RowsFound g h files q p all
rows_found g h files q p [] [] are found = absurd cc
rows_found g h files q p [] (one ∷ all) are found = absurd are
rows_found g h files q p (part ∷ parts) [] are found = absurd are
rows_found g h files q p (part ∷ parts) (one ∷ all) are found = found_by (same_owner q part.0) g h files q p part parts one all refl are.0 are.1 found (λ more. rows_found g h files q p parts all are.2 more)

none_by : (b : Bool) (q : Owner) (part : Owner × Owner) (parts : Parts) (one : Renewed) (all : List Renewed) → same_owner q part.0 ≡ b → one.owner ≡ part.0
    → cond b (Some part.1) (lookup (same_owner q) parts) ≡ None → (lookup (same_owner q) parts ≡ None → rows_in all q ≡ None) → rows_in (one ∷ all) q ≡ None
none_by true q part parts one all is owner none rest = absurd cc
none_by false q part parts one all is owner none rest = ap (λ (t : Bool). cond t (Some one.profile) (rows_in all q)) (ap (same_owner q) owner ∙ is) ∙ rest none

pub rows_none : (g : Collected) (h : Head) (files : Files) (q : Owner) (parts : Parts) (all : List Renewed) → AreRenewed g h files parts all → lookup (same_owner q) parts ≡ None → rows_in all q ≡ None
rows_none g h files q [] [] are none = refl
rows_none g h files q [] (one ∷ all) are none = absurd are
rows_none g h files q (part ∷ parts) [] are none = absurd are
rows_none g h files q (part ∷ parts) (one ∷ all) are none = none_by (same_owner q part.0) q part parts one all refl are.0 none (λ more. rows_none g h files q parts all are.2 more)

-- ---- growing

pub stays : (added : ℕ → ℕ) (before : Option (List ProfileRow)) → IsProfile before → ((offset : ℕ) → added offset ≡ 0) → IsGrown added before before
stays added None is none = (none, refl)
stays added (Some rows) is none = (rows, refl, record { are_rows = is; counts = λ offset. let zero = none offset in omega (arith, zero) })

pub grows : (added : ℕ → ℕ) (sums : Counts) (before : Option (List ProfileRow)) (old rows : List ProfileRow) → before ≡ Some old → ((offset : ℕ) → added offset ≡ sum_at sums offset) → AreGrown (sum_at sums) old rows → IsGrown added before (Some rows)
grows added sums before old rows is same grown =
    subst (λ (o : Option (List ProfileRow)). IsGrown added o (Some rows)) (sym is)
    (rows, refl, record { are_rows = grown.are_rows; counts = λ offset. let sum = grown.counts offset in let add = same offset in omega (arith, sum, add) })

-- what a profile held is what the name had that has its image's number
pub held_before : (h : Head) (files : Files) (more : List (List ℕ)) (e : ℕ) (name : List ℕ) (image : ℕ) (v : Event) → is_in_range h ≡ true → length h.names ≤ 4096 → place_of name (h.names ++ more) ≡ Some image → (o : Option ℕ) → place_of name h.names ≡ o
    → at_image o (λ i. known_at files (known_row h.known e i (code_of v))) ≡ held_by h files (Known e image v)
held_before h files more e name image v range few place None none = sym (ap (known_at files) (no_row h e image (code_of v) (bounded h range few) (place_new name h.names more image none place)))
held_before h files more e name image v range few place (Some i) here =
    let same : i ≡ image = place_kept name h.names more i image here place in
    ap (λ (k : ℕ). known_at files (known_row h.known e k (code_of v))) same

module _ (g : Collected) (names : List (List ℕ)) (h : Head) (used : List Bool) (n : Numbering g names h.names used) (parts : Parts) (are : ArePartsOf (numbers_of h.names (length h.names) used names) g parts)
    (range : is_in_range h ≡ true) (few : length h.names ≤ 4096) (files : Files) (all : List Renewed) (renewed : AreRenewed g h files parts all)
    (rise : (e : ℕ) (name : List ℕ) (event : ℕ) → IsProfile ((database_of h files).known e name event)) (rise_unknown : (e event : ℕ) → IsProfile ((database_of h files).unknown e event)) where
  abbrev names_after : List (List ℕ)
  names_after = h.names ++ fresh_of h.names used names

  abbrev adds : Additions
  adds = additions_in names g

  by_part : (e : ℕ) (name : List ℕ) (event image : ℕ) (v : Event) → place_of name names_after ≡ Some image → event ≡ code_of v → (o : Option Owner) → lookup (same_owner (Known e image v)) parts ≡ o
      → IsGrown (adds.known e name event) ((database_of h files).known e name event) (known_or (known_in (known_files all) e image event) ((database_of h files).known e name event))
  by_part e name event image v place code None none =
      let there = name_there name names_after image place in
      let zero : (offset : ℕ) → adds.known e name event offset ≡ 0 = λ offset.
      ap (λ (x : List ℕ). adds.known e x event offset) (sym there.1) ∙ ap (λ (c : ℕ). adds.known e (name_at names_after image) c offset) code ∙ none_adds g names h.names used n parts are (Known e image v) there.0 none offset in
      let kept : known_or (known_in (known_files all) e image event) ((database_of h files).known e name event) ≡ (database_of h files).known e name event =
      ap (λ (c : ℕ). known_or (known_in (known_files all) e image c) ((database_of h files).known e name event)) code ∙ known_rows_in all e image v ((database_of h files).known e name event)
      ∙ ap (λ (o : Option (List ProfileRow)). or_rows o ((database_of h files).known e name event)) (rows_none g h files (Known e image v) parts all renewed none) in
      subst (IsGrown (adds.known e name event) ((database_of h files).known e name event)) (sym kept) (stays (adds.known e name event) ((database_of h files).known e name event) (rise e name event) zero)
  by_part e name event image v place code (Some p) found =
      let there = name_there name names_after image place in
      let rows = rows_found g h files (Known e image v) p parts all renewed found in
      let same : (offset : ℕ) → adds.known e name event offset ≡ sum_at (counts_in g p) offset = λ offset.
      ap (λ (x : List ℕ). adds.known e x event offset) (sym there.1) ∙ ap (λ (c : ℕ). adds.known e (name_at names_after image) c offset) code ∙ (found_adds g names h.names used n parts are (Known e image v) p found).1 offset in
      let changed : known_or (known_in (known_files all) e image event) ((database_of h files).known e name event) ≡ Some rows.0 =
      ap (λ (c : ℕ). known_or (known_in (known_files all) e image c) ((database_of h files).known e name event)) code ∙ known_rows_in all e image v ((database_of h files).known e name event)
      ∙ ap (λ (o : Option (List ProfileRow)). or_rows o ((database_of h files).known e name event)) rows.1 in
      let held : (database_of h files).known e name event ≡ Some rows.2.0 = ap (λ (c : ℕ). (database_of h files).known e name c) code ∙ held_before h files (fresh_of h.names used names) e name image v range few place (place_of name h.names) refl ∙ rows.2.1 in
      subst (IsGrown (adds.known e name event) ((database_of h files).known e name event)) (sym changed) (grows (adds.known e name event) (counts_in g p) ((database_of h files).known e name event) rows.2.0 rows.0 held same rows.2.2)

  no_addition : (e event offset : ℕ) (o : Option ℕ) (w : Option Event) → w ≡ None → known_by g e offset o w ≡ 0
  no_addition e event offset None w none = refl
  no_addition e event offset (Some i) None none = refl
  no_addition e event offset (Some i) (Some v) none = absurd cc

  by_event : (e : ℕ) (name : List ℕ) (event image : ℕ) → place_of name names_after ≡ Some image → (w : Option Event) → event_of_code event ≡ w
      → IsGrown (adds.known e name event) ((database_of h files).known e name event) (known_or (known_in (known_files all) e image event) ((database_of h files).known e name event))
  by_event e name event image place None none =
      let kept : known_or (known_in (known_files all) e image event) ((database_of h files).known e name event) ≡ (database_of h files).known e name event = ap (λ (o : Option KnownUpdate). known_or o ((database_of h files).known e name event)) (no_known all e image event none) in
      subst (IsGrown (adds.known e name event) ((database_of h files).known e name event)) (sym kept)
      (stays (adds.known e name event) ((database_of h files).known e name event) (rise e name event) (λ offset. no_addition e event offset (place_of name names) (event_of_code event) none))
  by_event e name event image place (Some v) found = by_part e name event image v place (coded event v found) (lookup (same_owner (Known e image v)) parts) refl

  -- a name that has no number afterwards has no count
  unnumbered_by : (e offset : ℕ) (name : List ℕ) (i : ℕ) (v : Event) → place_of name names_after ≡ None → place_of name names ≡ Some i → (b : Bool) → is_some (lookup (same_owner (Known e i v)) g) ≡ b → gathered_at g (Known e i v) offset ≡ 0
  unnumbered_by e offset name i v none place false is = not_gathered (lookup (same_owner (Known e i v)) g) offset is
  unnumbered_by e offset name i v none place true is =
      let some = gathered_found g (Known e i v) is in
      let there = name_there name names i place in
      let number = number_stands g names h.names used n i there.0 (marked g names h.names used n e i v some.0 some.1) in
      let wrong : Some (slice_index_or (numbers_of h.names (length h.names) used names) i 0) ≡ None = sym number ∙ ap (λ (x : List ℕ). place_of x names_after) there.1 ∙ none in
      absurd cc

  unnumbered : (e offset : ℕ) (name : List ℕ) → place_of name names_after ≡ None → (o : Option ℕ) → place_of name names ≡ o → (w : Option Event) → known_by g e offset o w ≡ 0
  unnumbered e offset name none None place w = refl
  unnumbered e offset name none (Some i) place None = refl
  unnumbered e offset name none (Some i) place (Some v) = unnumbered_by e offset name i v none place (is_some (lookup (same_owner (Known e i v)) g)) refl

  nothing_before : (e : ℕ) (name : List ℕ) (event : ℕ) → place_of name names_after ≡ None → (o : Option ℕ) → place_of name h.names ≡ o → at_image o (λ image. known_at files (known_row h.known e image event)) ≡ Some []
  nothing_before e name event none None here = refl
  nothing_before e name event none (Some i) here =
      let wrong : Some i ≡ None = sym (place_front name h.names (fresh_of h.names used names) i here) ∙ none in
      absurd cc

  by_place : (e : ℕ) (name : List ℕ) (event : ℕ) (o : Option ℕ) → place_of name names_after ≡ o
      → IsGrown (adds.known e name event) ((database_of h files).known e name event) (at_image o (λ image. known_or (known_in (known_files all) e image event) ((database_of h files).known e name event)))
  by_place e name event (Some image) place = by_event e name event image place (event_of_code event) refl
  by_place e name event None none =
      subst (λ (b : Option (List ProfileRow)). IsGrown (adds.known e name event) b (Some [])) (sym (nothing_before e name event none (place_of name h.names) refl))
      (stays (adds.known e name event) (Some []) tt (λ offset. unnumbered e offset name none (place_of name names) refl (event_of_code event)))

  -- ---- the unknown ones

  unknown_part : (e event : ℕ) (v : Event) → event ≡ code_of v → (o : Option Owner) → lookup (same_owner (Unknown e v)) parts ≡ o
      → IsGrown (adds.unknown e event) ((database_of h files).unknown e event) (unknown_or (unknown_in (unknown_files all) e event) ((database_of h files).unknown e event))
  unknown_part e event v code None none =
      let zero : (offset : ℕ) → adds.unknown e event offset ≡ 0 = λ offset. ap (λ (c : ℕ). adds.unknown e c offset) code ∙ none_adds g names h.names used n parts are (Unknown e v) tt none offset in
      let kept : unknown_or (unknown_in (unknown_files all) e event) ((database_of h files).unknown e event) ≡ (database_of h files).unknown e event =
      ap (λ (c : ℕ). unknown_or (unknown_in (unknown_files all) e c) ((database_of h files).unknown e event)) code ∙ unknown_rows_in all e v ((database_of h files).unknown e event)
      ∙ ap (λ (o : Option (List ProfileRow)). or_rows o ((database_of h files).unknown e event)) (rows_none g h files (Unknown e v) parts all renewed none) in
      subst (IsGrown (adds.unknown e event) ((database_of h files).unknown e event)) (sym kept) (stays (adds.unknown e event) ((database_of h files).unknown e event) (rise_unknown e event) zero)
  unknown_part e event v code (Some p) found =
      let rows = rows_found g h files (Unknown e v) p parts all renewed found in
      let same : (offset : ℕ) → adds.unknown e event offset ≡ sum_at (counts_in g p) offset = λ offset. ap (λ (c : ℕ). adds.unknown e c offset) code ∙ (found_adds g names h.names used n parts are (Unknown e v) p found).1 offset in
      let changed : unknown_or (unknown_in (unknown_files all) e event) ((database_of h files).unknown e event) ≡ Some rows.0 =
      ap (λ (c : ℕ). unknown_or (unknown_in (unknown_files all) e c) ((database_of h files).unknown e event)) code ∙ unknown_rows_in all e v ((database_of h files).unknown e event)
      ∙ ap (λ (o : Option (List ProfileRow)). or_rows o ((database_of h files).unknown e event)) rows.1 in
      let held : (database_of h files).unknown e event ≡ Some rows.2.0 = ap (λ (c : ℕ). (database_of h files).unknown e c) code ∙ rows.2.1 in
      subst (IsGrown (adds.unknown e event) ((database_of h files).unknown e event)) (sym changed) (grows (adds.unknown e event) (counts_in g p) ((database_of h files).unknown e event) rows.2.0 rows.0 held same rows.2.2)

  no_unknown_addition : (e pc : ℕ) (w : Option Event) → w ≡ None → unknown_by g e pc w ≡ 0
  no_unknown_addition e pc None none = refl
  no_unknown_addition e pc (Some v) none = absurd cc

  unknown_event : (e event : ℕ) (w : Option Event) → event_of_code event ≡ w
      → IsGrown (adds.unknown e event) ((database_of h files).unknown e event) (unknown_or (unknown_in (unknown_files all) e event) ((database_of h files).unknown e event))
  unknown_event e event None none =
      let kept : unknown_or (unknown_in (unknown_files all) e event) ((database_of h files).unknown e event) ≡ (database_of h files).unknown e event = ap (λ (o : Option UnknownUpdate). unknown_or o ((database_of h files).unknown e event)) (no_unknown all e event none) in
      subst (IsGrown (adds.unknown e event) ((database_of h files).unknown e event)) (sym kept)
      (stays (adds.unknown e event) ((database_of h files).unknown e event) (rise_unknown e event) (λ offset. no_unknown_addition e offset (event_of_code event) none))
  unknown_event e event (Some v) found = unknown_part e event v (coded event v found) (lookup (same_owner (Unknown e v)) parts) refl

  -- ---- the database

  abbrev pub change : ℕ → Segment → Update
  change epoch segment = record { epoch = epoch; names = fresh_of h.names used names; known = known_files all; unknown = unknown_files all; segment = segment }

  pub change_grows : (epoch : ℕ) (segment : Segment) → Grows names adds epoch segment (database_of h files) (updated (change epoch segment) (database_of h files))
  change_grows epoch segment = record {
    last_epoch = refl;
    runs = refl;
    more = fresh_of h.names used names;
    names = refl;
    chosen = fresh_selected g names h.names used n;
    known = λ e name event. by_place e name event (place_of name names_after) refl;
    unknown = λ e event. unknown_event e event (event_of_code event) refl;
    segments = refl;
  }
