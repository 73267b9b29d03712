-- The head after the change: a row for each profile that had one or has a count.
use Rattle.std.proofs.Common.{arith, ◌≡◌, inl, inr, ℕ, ◌+◌, ◌<◌, ◌&&◌, ◌||◌, Bool, true, false, cond, eqb, List, [], ◌∷◌, ◌++◌, Option, None, Some, length, map, refl, sym, ap, ◌∙◌, subst}
use Rattle.std.specs.Prelude.{find, is_some}
use Rattle.std.specs.List.{list_any}
use Rattle.std.specs.Map.{lookup, keys_of}
use Rattle.std.proofs.lemmas.Bool.{and_parts, eqb-true}
use Rattle.sample_key.specs.declared.events.Event.{Event}
use Rattle.sample_key.specs.Events.{code_of, event_of_code}
use Rattle.image_catalog.specs.Images.{place_of}
use Rattle.trace_model.specs.Recording.{name_at}
use Rattle.database_model.specs.declared.profiles.ProfileRow.{ProfileRow}
use Rattle.database_model.specs.Runs.{Segment}
use Rattle.database_state.specs.Heads.{Head, is_in_range}
use Rattle.database_state.specs.Rows.{known_before, unknown_before, known_same, unknown_same, known_place, unknown_place, known_row, unknown_row, is_rising}
use Rattle.database_state.specs.declared.rows.KnownRow.{KnownRow}
use Rattle.database_state.specs.declared.rows.UnknownRow.{UnknownRow}
use Rattle.database_state.specs.Updates.{KnownUpdate, UnknownUpdate, known_row_of, unknown_row_of, known_in, unknown_in, known_or, unknown_or, head_after}
use Rattle.head_file.proofs.Limits.{ranges_of}
use Rattle.epoch_store.proofs.Order.{rises_each, find_each, or_else}
use Rattle.database_state.proofs.RowOrders as orders
use Rattle.epoch_store.proofs.NextHead.{known_rise, unknown_rise}
use Rattle.growth_model.specs.Additions.{Additions}
use Rattle.growth_model.specs.Growth.{IsCounted}
use Rattle.growth_model.specs.Fitting.{IsCountedAt, RowGrows, known_written, unknown_written, HeadGrows}
use Rattle.profile_merge.specs.declared.owners.Owner.{Owner}
use Rattle.profile_merge.specs.declared.owners.Owner.TheVariants.{Known, Unknown}
use Rattle.profile_merge.specs.declared.growing.Renewed.{Renewed}
use Rattle.profile_merge.specs.Sums.{Collected, same_owner}
use Rattle.profile_merge.specs.Gathering.{known_by, unknown_by, additions_in}
use Rattle.profile_merge.specs.Numbering.{fresh_of, numbers_of}
use Rattle.profile_merge.specs.Renewing.{Parts, ArePartsOf, known_files, unknown_files}
use Rattle.profile_merge.proofs.Adding.{Numbering, part_changed, changed_part, fresh_selected}
use Rattle.profile_merge.proofs.GrownBy.{rows_in, or_rows, known_rows_in, unknown_rows_in, no_known, no_unknown}
use Rattle.profile_merge.proofs.Named.{coded}
use Rattle.profile_merge.proofs.Names.{name_there, own_place}

-- ---- which profiles are changed

has_rows : (all : List Renewed) (q : Owner) → is_some (rows_in all q) ≡ list_any (same_owner q) (map (λ r. r.owner) all)
has_rows [] q = refl
has_rows (one ∷ all) q = by (same_owner q one.owner) (has_rows all q)
  where
    by : (b : Bool) → is_some (rows_in all q) ≡ list_any (same_owner q) (map (λ r. r.owner) all) → is_some (cond b (Some one.profile) (rows_in all q)) ≡ (b || list_any (same_owner q) (map (λ r. r.owner) all))
    by true more = refl
    by false more = more

has_part : (parts : Parts) (q : Owner) → is_some (lookup (same_owner q) parts) ≡ list_any (same_owner q) (keys_of parts)
has_part [] q = refl
has_part (part ∷ parts) q = by (same_owner q part.0) (has_part parts q)
  where
    by : (b : Bool) → is_some (lookup (same_owner q) parts) ≡ list_any (same_owner q) (keys_of parts) → is_some (cond b (Some part.1) (lookup (same_owner q) parts)) ≡ (b || list_any (same_owner q) (keys_of parts))
    by true more = refl
    by false more = more

some_rows : (all : List Renewed) (parts : Parts) (q : Owner) → map (λ r. r.owner) all ≡ keys_of parts → is_some (rows_in all q) ≡ is_some (lookup (same_owner q) parts)
some_rows all parts q owners = has_rows all q ∙ ap (list_any (same_owner q)) owners ∙ sym (has_part parts q)

known_is : (o : Option KnownUpdate) (r : Option (List ProfileRow)) → known_or o None ≡ or_rows r None → is_some o ≡ is_some r
known_is None None same = refl
known_is None (Some rows) same = absurd cc
known_is (Some u) None same = absurd cc
known_is (Some u) (Some rows) same = refl

unknown_is : (o : Option UnknownUpdate) (r : Option (List ProfileRow)) → unknown_or o None ≡ or_rows r None → is_some o ≡ is_some r
unknown_is None None same = refl
unknown_is None (Some rows) same = absurd cc
unknown_is (Some u) None same = absurd cc
unknown_is (Some u) (Some rows) same = refl

-- ---- the row of what is found

find_by : {X : Type 0} (b : Bool) (p : X → Bool) (x y : X) (later : Option X) → p x ≡ b → cond b (Some x) later ≡ Some y → (later ≡ Some y → p y ≡ true) → p y ≡ true
find_by {X} true p x y later here is more = let same : x ≡ y = cc in subst (λ (z : X). p z ≡ true) same here
find_by false p x y later here is more = more is

find_holds : {X : Type 0} (p : X → Bool) (xs : List X) (y : X) → find p xs ≡ Some y → p y ≡ true
find_holds p [] y found = absurd cc
find_holds p (x ∷ xs) y found = find_by (p x) p x y (find p xs) refl found (λ later. find_holds p xs y later)

row_same : {e f i j v w g : ℕ} → e ≡ f → i ≡ j → v ≡ w → known_written e i v g ≡ known_written f j w g
row_same a b c = cc

unknown_same_row : {e f v w g : ℕ} → e ≡ f → v ≡ w → unknown_written e v g ≡ unknown_written f w g
unknown_same_row a b = cc

known_row_is : (g e i v : ℕ) (us : List KnownUpdate) (u : KnownUpdate) → known_in us e i v ≡ Some u → known_row_of g u ≡ known_written e i v g
known_row_is g e i v us u found =
    let holds = find_holds (λ (k : KnownUpdate). known_same (known_place e i v) (known_row_of 0 k)) us u found in
    let last = and_parts (eqb e u.epoch && eqb i u.image) (eqb v u.event) holds in
    let first = and_parts (eqb e u.epoch) (eqb i u.image) last.0 in
    sym (row_same (eqb-true e u.epoch first.0) (eqb-true i u.image first.1) (eqb-true v u.event last.1))

unknown_row_is : (g e v : ℕ) (us : List UnknownUpdate) (u : UnknownUpdate) → unknown_in us e v ≡ Some u → unknown_row_of g u ≡ unknown_written e v g
unknown_row_is g e v us u found =
    let holds = find_holds (λ (k : UnknownUpdate). unknown_same (unknown_place e v) (unknown_row_of 0 k)) us u found in
    let both = and_parts (eqb e u.epoch) (eqb v u.event) holds in
    sym (unknown_same_row (eqb-true e u.epoch both.0) (eqb-true v u.event both.1))

module _ (g : Collected) (names : List (List ℕ)) (h : Head) (used : List Bool) (n : Numbering g names h.names used) (parts : Parts) (are : ArePartsOf (numbers_of h.names (length h.names) used names) g parts)
    (range : is_in_range h ≡ true) (all : List Renewed) (owners : map (λ r. r.owner) all ≡ keys_of parts) where
  abbrev names_after : List (List ℕ)
  names_after = h.names ++ fresh_of h.names used names

  abbrev adds : Additions
  adds = additions_in names g

  abbrev next : ℕ
  next = h.generation + 1

  no_count : (e offset : ℕ) (o : Option ℕ) (w : Option Event) → w ≡ None → 0 < known_by g e offset o w → ⊥
  no_count e offset None w none some = omega (arith, some)
  no_count e offset (Some i) None none some = omega (arith, some)
  no_count e offset (Some i) (Some v) none some = absurd cc

  -- something is added to a profile by its image's number exactly where it has a part
  counted_part : (e image event : ℕ) (v : Event) → event ≡ code_of v → IsCountedAt adds names_after e image event → (p : Owner) × (lookup (same_owner (Known e image v)) parts ≡ Some p)
  counted_part e image event v code counted =
      let there = name_there counted.name names_after image counted.number in
      let same : adds.known e (name_at names_after image) (code_of v) counted.counted.offset ≡ adds.known e counted.name event counted.counted.offset =
      ap (λ (x : List ℕ). adds.known e x (code_of v) counted.counted.offset) there.1 ∙ ap (λ (c : ℕ). adds.known e counted.name c counted.counted.offset) (sym code) in
      changed_part g names h.names used n parts are (Known e image v) (record { numbered = there.0; counted = record { offset = counted.counted.offset; some = omega (arith, same, counted.counted.some) } })

  part_counted : (e image event : ℕ) (v : Event) → event ≡ code_of v → (p : Owner) → lookup (same_owner (Known e image v)) parts ≡ Some p → IsCountedAt adds names_after e image event
  part_counted e image event v code p found =
      let changed = part_changed g names h.names used n parts are (Known e image v) p found in
      let same : adds.known e (name_at names_after image) event changed.counted.offset ≡ adds.known e (name_at names_after image) (code_of v) changed.counted.offset = ap (λ (c : ℕ). adds.known e (name_at names_after image) c changed.counted.offset) code in
      record { name = name_at names_after image; number = own_place names_after image n.all_apart changed.numbered; counted = record { offset = changed.counted.offset; some = omega (arith, same, changed.counted.some) } }

  known_some : (e image event : ℕ) (v : Event) → event ≡ code_of v → is_some (known_in (known_files all) e image event) ≡ is_some (lookup (same_owner (Known e image v)) parts)
  known_some e image event v code =
      ap (λ (c : ℕ). is_some (known_in (known_files all) e image c)) code
      ∙ known_is (known_in (known_files all) e image (code_of v)) (rows_in all (Known e image v)) (known_rows_in all e image v None)
      ∙ some_rows all parts (Known e image v) owners

  known_by_part : (e image event : ℕ) (v : Event) → event ≡ code_of v → (o : Option Owner) → lookup (same_owner (Known e image v)) parts ≡ o → (k : Option KnownUpdate) → known_in (known_files all) e image event ≡ k
      → RowGrows (IsCountedAt adds names_after e image event) (known_written e image event next) (known_row h.known e image event) (or_else (known_row_of next) k (known_row h.known e image event))
  known_by_part e image event v code None none None here =
      inr (λ counted. (let part = counted_part e image event v code counted in let wrong : Some part.0 ≡ None = sym part.1 ∙ none in absurd cc), refl)
  known_by_part e image event v code None none (Some u) here = let wrong : true ≡ false = sym (ap is_some here) ∙ known_some e image event v code ∙ ap is_some none in absurd cc
  known_by_part e image event v code (Some p) found None here = let wrong : false ≡ true = sym (ap is_some here) ∙ known_some e image event v code ∙ ap is_some found in absurd cc
  known_by_part e image event v code (Some p) found (Some u) here =
      inl (part_counted e image event v code p found, ap (λ (r : KnownRow). Some r) (known_row_is next e image event (known_files all) u here))

  known_by_event : (e image event : ℕ) (w : Option Event) → event_of_code event ≡ w
      → RowGrows (IsCountedAt adds names_after e image event) (known_written e image event next) (known_row h.known e image event) (or_else (known_row_of next) (known_in (known_files all) e image event) (known_row h.known e image event))
  known_by_event e image event None none =
      inr (λ counted. no_count e counted.counted.offset (place_of counted.name names) (event_of_code event) none counted.counted.some, ap (λ (k : Option KnownUpdate). or_else (known_row_of next) k (known_row h.known e image event)) (no_known all e image event none))
  known_by_event e image event (Some v) found = known_by_part e image event v (coded event v found) (lookup (same_owner (Known e image v)) parts) refl (known_in (known_files all) e image event) refl

  -- ---- the unknown ones

  no_unknown_count : (e pc : ℕ) (w : Option Event) → w ≡ None → 0 < unknown_by g e pc w → ⊥
  no_unknown_count e pc None none some = omega (arith, some)
  no_unknown_count e pc (Some v) none some = absurd cc

  unknown_part : (e event : ℕ) (v : Event) → event ≡ code_of v → IsCounted (adds.unknown e event) → (p : Owner) × (lookup (same_owner (Unknown e v)) parts ≡ Some p)
  unknown_part e event v code counted =
      let same : adds.unknown e (code_of v) counted.offset ≡ adds.unknown e event counted.offset = ap (λ (c : ℕ). adds.unknown e c counted.offset) (sym code) in
      changed_part g names h.names used n parts are (Unknown e v) (record { numbered = tt; counted = record { offset = counted.offset; some = omega (arith, same, counted.some) } })

  part_unknown : (e event : ℕ) (v : Event) → event ≡ code_of v → (p : Owner) → lookup (same_owner (Unknown e v)) parts ≡ Some p → IsCounted (adds.unknown e event)
  part_unknown e event v code p found =
      let changed = part_changed g names h.names used n parts are (Unknown e v) p found in
      let same : adds.unknown e event changed.counted.offset ≡ adds.unknown e (code_of v) changed.counted.offset = ap (λ (c : ℕ). adds.unknown e c changed.counted.offset) code in
      record { offset = changed.counted.offset; some = omega (arith, same, changed.counted.some) }

  unknown_some : (e event : ℕ) (v : Event) → event ≡ code_of v → is_some (unknown_in (unknown_files all) e event) ≡ is_some (lookup (same_owner (Unknown e v)) parts)
  unknown_some e event v code =
      ap (λ (c : ℕ). is_some (unknown_in (unknown_files all) e c)) code
      ∙ unknown_is (unknown_in (unknown_files all) e (code_of v)) (rows_in all (Unknown e v)) (unknown_rows_in all e v None)
      ∙ some_rows all parts (Unknown e v) owners

  unknown_by_part : (e event : ℕ) (v : Event) → event ≡ code_of v → (o : Option Owner) → lookup (same_owner (Unknown e v)) parts ≡ o → (k : Option UnknownUpdate) → unknown_in (unknown_files all) e event ≡ k
      → RowGrows (IsCounted (adds.unknown e event)) (unknown_written e event next) (unknown_row h.unknown e event) (or_else (unknown_row_of next) k (unknown_row h.unknown e event))
  unknown_by_part e event v code None none None here =
      inr (λ counted. (let part = unknown_part e event v code counted in let wrong : Some part.0 ≡ None = sym part.1 ∙ none in absurd cc), refl)
  unknown_by_part e event v code None none (Some u) here = let wrong : true ≡ false = sym (ap is_some here) ∙ unknown_some e event v code ∙ ap is_some none in absurd cc
  unknown_by_part e event v code (Some p) found None here = let wrong : false ≡ true = sym (ap is_some here) ∙ unknown_some e event v code ∙ ap is_some found in absurd cc
  unknown_by_part e event v code (Some p) found (Some u) here =
      inl (part_unknown e event v code p found, ap (λ (r : UnknownRow). Some r) (unknown_row_is next e event (unknown_files all) u here))

  unknown_by_event : (e event : ℕ) (w : Option Event) → event_of_code event ≡ w
      → RowGrows (IsCounted (adds.unknown e event)) (unknown_written e event next) (unknown_row h.unknown e event) (or_else (unknown_row_of next) (unknown_in (unknown_files all) e event) (unknown_row h.unknown e event))
  unknown_by_event e event None none =
      inr (λ counted. no_unknown_count e counted.offset (event_of_code event) none counted.some, ap (λ (k : Option UnknownUpdate). or_else (unknown_row_of next) k (unknown_row h.unknown e event)) (no_unknown all e event none))
  unknown_by_event e event (Some v) found = unknown_by_part e event v (coded event v found) (lookup (same_owner (Unknown e v)) parts) refl (unknown_in (unknown_files all) e event) refl

  -- ---- the head

  pub head_grows : (epoch : ℕ) (segment : Segment) → is_rising known_before (map (known_row_of 0) (known_files all)) ≡ true → is_rising unknown_before (map (unknown_row_of 0) (unknown_files all)) ≡ true
      → HeadGrows names adds epoch segment h (head_after (record { epoch = epoch; names = fresh_of h.names used names; known = known_files all; unknown = unknown_files all; segment = segment }) h)
  head_grows epoch segment rising unknown_rising =
      let ranges = ranges_of h range in
      record {
        generation = refl;
        last_epoch = refl;
        runs = refl;
        more = fresh_of h.names used names;
        names = refl;
        chosen = fresh_selected g names h.names used n;
        known_order = rises_each orders.known_order (known_row_of next) h.known (known_files all) ranges.known_order;
        unknown_order = rises_each orders.unknown_order (unknown_row_of next) h.unknown (unknown_files all) ranges.unknown_order;
        known = λ e image event. subst (RowGrows (IsCountedAt adds names_after e image event) (known_written e image event next) (known_row h.known e image event))
            (sym (find_each orders.known_order (known_row_of next) (known_place e image event) h.known (known_files all) (known_rise next (known_files all) rising))) (known_by_event e image event (event_of_code event) refl);
        unknown = λ e event. subst (RowGrows (IsCounted (adds.unknown e event)) (unknown_written e event next) (unknown_row h.unknown e event))
            (sym (find_each orders.unknown_order (unknown_row_of next) (unknown_place e event) h.unknown (unknown_files all) (unknown_rise next (unknown_files all) unknown_rising))) (unknown_by_event e event (event_of_code event) refl);
      }
