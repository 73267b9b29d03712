-- The change fits the database, and its rows are those of the next head.
use Rattle.std.proofs.Common.{arith, ◌≡◌, ℕ, ◌<◌, ◌≤◌, ◌&&◌, Bool, true, false, cond, List, [], ◌∷◌, ◌++◌, Option, None, Some, length, map, refl, sym, ap, ◌∙◌, subst, append_assoc}
use Rattle.std.specs.Prelude.{nat_le, nat_lt, is_none, if◌then◌else◌}
use Rattle.std.specs.declared.cmp.Ordering.TheVariants.{Less}
use Rattle.std.specs.List.{IsDistinct, AllByRecursion, list_all, list_any}
use Rattle.std.specs.List.Sorted.{IsStrictlySortedBy}
use Rattle.std.specs.Map.{lookup, keys_of}
use Rattle.std.specs.Str.{bytes_eq}
use Rattle.std.proofs.lemmas.Grind.{common_steps}
use Rattle.std.proofs.lemmas.List.{append-nil}
use Rattle.std.proofs.lemmas.Cmp.{nat_list_eq_equiv}
use Rattle.std.proofs.lemmas.Map.Keys.{sorted_head, sorted_tail, IsDistinct-push}
use Rattle.sample_key.specs.declared.events.Event.{Event}
use Rattle.sample_key.specs.declared.events.Event.TheVariants.{Cycles, Imiss, Dmiss, Branchmp}
use Rattle.sample_key.specs.Events.{code_of}
use Rattle.image_catalog.specs.Images.{place_of}
use Rattle.database_model.specs.declared.profiles.ProfileRow.{ProfileRow}
use Rattle.database_model.specs.Runs.{Segment}
use Rattle.database_state.specs.Heads.{Head}
use Rattle.database_state.specs.Rows.{known_before, unknown_before, is_before_first, is_rising}
use Rattle.database_state.specs.Updates.{KnownUpdate, UnknownUpdate, known_row_of, unknown_row_of, is_known_update, is_unknown_update, Fits}
use Rattle.profile_merge.specs.declared.owners.Owner.{Owner}
use Rattle.profile_merge.specs.declared.owners.Owner.TheVariants.{Known, Unknown}
use Rattle.profile_merge.specs.declared.growing.Renewed.{Renewed}
use Rattle.profile_merge.specs.Sums.{Collected, same_owner}
use Rattle.profile_merge.specs.Gathering.{EpochsAreUpTo, epoch_of}
use Rattle.profile_merge.specs.Faults.{IsNumbered}
use Rattle.profile_merge.specs.Changing.{Follows}
use Rattle.profile_merge.specs.Numbering.{new_names, fresh_of, numbers_of, renumbered}
use Rattle.profile_merge.specs.Renewing.{Parts, ArePartsOf, known_file, unknown_file, known_files, unknown_files}
use Rattle.profile_merge.proofs.Adding.{all_new, Numbering, counts_some, gathered_found, found_adds}
use Rattle.profile_merge.proofs.Before.{less_comes}
use Rattle.profile_merge.proofs.FirstWrong.{tail_found}
use Rattle.profile_merge.proofs.Names.{place_first, place_later}
use Rattle.profile_merge.proofs.Numbers.{after, place_behind, AreNew, new_by, next_none}
use Rattle.profile_merge.proofs.OwnerOrder.{owner_cmp, same_itself}

-- ---- the names afterwards are apart

none_by : (name n : List ℕ) (names : List (List ℕ)) (b : Bool) → bytes_eq n name ≡ b → place_of name (n ∷ names) ≡ None → (place_of name names ≡ None → list_any (bytes_eq name) names ≡ false) → list_any (bytes_eq name) (n ∷ names) ≡ false
none_by name n names true here none rest = let some : ◌≡◌ {A = Option ℕ} (Some 0) None = sym (place_first name n names here) ∙ none in absurd cc
none_by name n names false other none rest =
    let later = rest (next_none (place_of name names) (sym (place_later name n names other) ∙ none)) in
    let this : bytes_eq name n ≡ false = nat_list_eq_equiv.symm name n ∙ other in
    rw (this, later) refl

pub none_any : (name : List ℕ) (names : List (List ℕ)) → place_of name names ≡ None → list_any (bytes_eq name) names ≡ false
none_any name [] none = refl
none_any name (n ∷ names) none = none_by name n names (bytes_eq n name) refl none (λ later. none_any name names later)

with_new : (held front : List (List ℕ)) (n : List ℕ) (b : Bool) (o : Option ℕ) → place_of n held ≡ o → place_of n front ≡ None → IsDistinct bytes_eq (held ++ front) → IsDistinct bytes_eq (held ++ (front ++ (if b && is_none o then n ∷ [] else [])))
with_new held front n false o at new apart = subst (λ (l : List (List ℕ)). IsDistinct bytes_eq (held ++ l)) (sym (append-nil front)) apart
with_new held front n true (Some k) at new apart = subst (λ (l : List (List ℕ)). IsDistinct bytes_eq (held ++ l)) (sym (append-nil front)) apart
with_new held front n true None at new apart =
    let none : place_of n (held ++ front) ≡ None = place_behind n held front at ∙ ap (after (length held)) new in
    subst (IsDistinct bytes_eq) (append_assoc held front (n ∷ [])) (IsDistinct-push nat_list_eq_equiv (held ++ front) n apart (none_any n (held ++ front) none))

distinct_after : (held front : List (List ℕ)) (used : List Bool) (names : List (List ℕ)) → IsDistinct bytes_eq names → AreNew front names → IsDistinct bytes_eq (held ++ front) → IsDistinct bytes_eq (held ++ (front ++ fresh_of held used names))
unfolding IsDistinct
distinct_after held front [] names apart new so = subst (λ (l : List (List ℕ)). IsDistinct bytes_eq (held ++ l)) (sym (append-nil front)) so
distinct_after held front (u ∷ used) [] apart new so = subst (λ (l : List (List ℕ)). IsDistinct bytes_eq (held ++ l)) (sym (append-nil front)) so
distinct_after held front (u ∷ used) (n ∷ names) apart new so =
    let add = new_names held u n in
    subst (λ (l : List (List ℕ)). IsDistinct bytes_eq (held ++ l)) (append_assoc front add (fresh_of held used names))
    (distinct_after held (front ++ add) used names apart.1 (new_by (u && is_none (place_of n held)) front n names apart.0 new.1) (with_new held front n u (place_of n held) refl new.0 so))

pub names_apart : (held : List (List ℕ)) (used : List Bool) (names : List (List ℕ)) → IsDistinct bytes_eq held → IsDistinct bytes_eq names → IsDistinct bytes_eq (held ++ fresh_of held used names)
names_apart held used names held_apart apart = distinct_after held [] used names apart (all_new names) (subst (IsDistinct bytes_eq) (sym (append-nil held)) held_apart)

-- ---- the profiles are within the numbers and the epochs

abbrev pub IsFitted : ℕ → List (List ℕ) → Owner → Type 0
IsFitted last names owner = (epoch_of owner ≤ last) × IsNumbered names owner

code_small : (v : Event) → nat_le (code_of v) 3 ≡ true
code_small Cycles = refl
code_small Imiss = refl
code_small Dmiss = refl
code_small Branchmp = refl

le_true : (a b : ℕ) → a ≤ b → nat_le a b ≡ true
le_true a b le = grind (arith, common_steps)

lt_true : (a b : ℕ) → a < b → nat_lt a b ≡ true
lt_true a b lt = grind (arith, common_steps)

known_fit : (last : ℕ) (names : List (List ℕ)) (o : Owner) (rows : List ProfileRow) (rest : List KnownUpdate) → IsFitted last names o → list_all (is_known_update last (length names)) rest ≡ true → list_all (is_known_update last (length names)) (known_file o rows ++ rest) ≡ true
known_fit last names (Unknown e v) rows rest fits all = all
known_fit last names (Known e i v) rows rest fits all = rw (le_true e last fits.0, lt_true i (length names) fits.1, code_small v, all) refl

pub known_fitted : (last : ℕ) (names : List (List ℕ)) (all : List Renewed) → AllByRecursion (IsFitted last names) (map (λ r. r.owner) all) → list_all (is_known_update last (length names)) (known_files all) ≡ true
known_fitted last names [] fits = refl
known_fitted last names (one ∷ all) fits = known_fit last names one.owner one.profile (known_files all) fits.0 (known_fitted last names all fits.1)

unknown_fit : (last : ℕ) (names : List (List ℕ)) (o : Owner) (rows : List ProfileRow) (rest : List UnknownUpdate) → IsFitted last names o → list_all (is_unknown_update last) rest ≡ true → list_all (is_unknown_update last) (unknown_file o rows ++ rest) ≡ true
unknown_fit last names (Known e i v) rows rest fits all = all
unknown_fit last names (Unknown e v) rows rest fits all = rw (le_true e last fits.0, code_small v, all) refl

pub unknown_fitted : (last : ℕ) (names : List (List ℕ)) (all : List Renewed) → AllByRecursion (IsFitted last names) (map (λ r. r.owner) all) → list_all (is_unknown_update last) (unknown_files all) ≡ true
unknown_fitted last names [] fits = refl
unknown_fitted last names (one ∷ all) fits = unknown_fit last names one.owner one.profile (unknown_files all) fits.0 (unknown_fitted last names all fits.1)

-- ---- and in their order

both : (a b : Bool) → a ≡ true → b ≡ true → (a && b) ≡ true
both a b x y = rw (x, y) refl

known_next : (e i : ℕ) (v : Event) (rows : List ProfileRow) (o : Owner) (more : List ProfileRow) (rest : List KnownUpdate) → owner_cmp (Known e i v) o ≡ Less
    → is_before_first known_before (known_row_of 0 (record { epoch = e; image = i; event = code_of v; rows = rows })) (map (known_row_of 0) rest) ≡ true
    → is_before_first known_before (known_row_of 0 (record { epoch = e; image = i; event = code_of v; rows = rows })) (map (known_row_of 0) (known_file o more ++ rest)) ≡ true
known_next e i v rows (Known f j w) more rest less first = less_comes (Known e i v) (Known f j w) less
known_next e i v rows (Unknown f w) more rest less first = first

known_first : (e i : ℕ) (v : Event) (rows : List ProfileRow) (all : List Renewed) → AllByRecursion (λ k. owner_cmp (Known e i v) k ≡ Less) (map (λ r. r.owner) all)
    → is_before_first known_before (known_row_of 0 (record { epoch = e; image = i; event = code_of v; rows = rows })) (map (known_row_of 0) (known_files all)) ≡ true
known_first e i v rows [] less = refl
known_first e i v rows (one ∷ all) less = known_next e i v rows one.owner one.profile (known_files all) less.0 (known_first e i v rows all less.1)

known_rises : (o : Owner) (rows : List ProfileRow) (all : List Renewed) → AllByRecursion (λ k. owner_cmp o k ≡ Less) (map (λ r. r.owner) all) → is_rising known_before (map (known_row_of 0) (known_files all)) ≡ true
    → is_rising known_before (map (known_row_of 0) (known_file o rows ++ known_files all)) ≡ true
known_rises (Unknown e v) rows all less rise = rise
known_rises (Known e i v) rows all less rise = both _ _ (known_first e i v rows all less) rise

pub known_order : (all : List Renewed) → IsStrictlySortedBy owner_cmp (map (λ r. r.owner) all) → is_rising known_before (map (known_row_of 0) (known_files all)) ≡ true
known_order [] sorted = refl
known_order (one ∷ all) sorted = known_rises one.owner one.profile all (sorted_head owner_cmp one.owner (map (λ r. r.owner) all) sorted) (known_order all (sorted_tail owner_cmp one.owner (map (λ r. r.owner) all) sorted))

unknown_next : (e : ℕ) (v : Event) (rows : List ProfileRow) (o : Owner) (more : List ProfileRow) (rest : List UnknownUpdate) → owner_cmp (Unknown e v) o ≡ Less
    → is_before_first unknown_before (unknown_row_of 0 (record { epoch = e; event = code_of v; rows = rows })) (map (unknown_row_of 0) rest) ≡ true
    → is_before_first unknown_before (unknown_row_of 0 (record { epoch = e; event = code_of v; rows = rows })) (map (unknown_row_of 0) (unknown_file o more ++ rest)) ≡ true
unknown_next e v rows (Known f j w) more rest less first = first
unknown_next e v rows (Unknown f w) more rest less first = less_comes (Unknown e v) (Unknown f w) less

unknown_first : (e : ℕ) (v : Event) (rows : List ProfileRow) (all : List Renewed) → AllByRecursion (λ k. owner_cmp (Unknown e v) k ≡ Less) (map (λ r. r.owner) all)
    → is_before_first unknown_before (unknown_row_of 0 (record { epoch = e; event = code_of v; rows = rows })) (map (unknown_row_of 0) (unknown_files all)) ≡ true
unknown_first e v rows [] less = refl
unknown_first e v rows (one ∷ all) less = unknown_next e v rows one.owner one.profile (unknown_files all) less.0 (unknown_first e v rows all less.1)

unknown_rises : (o : Owner) (rows : List ProfileRow) (all : List Renewed) → AllByRecursion (λ k. owner_cmp o k ≡ Less) (map (λ r. r.owner) all) → is_rising unknown_before (map (unknown_row_of 0) (unknown_files all)) ≡ true
    → is_rising unknown_before (map (unknown_row_of 0) (unknown_file o rows ++ unknown_files all)) ≡ true
unknown_rises (Known e i v) rows all less rise = rise
unknown_rises (Unknown e v) rows all less rise = both _ _ (unknown_first e v rows all less) rise

pub unknown_order : (all : List Renewed) → IsStrictlySortedBy owner_cmp (map (λ r. r.owner) all) → is_rising unknown_before (map (unknown_row_of 0) (unknown_files all)) ≡ true
unknown_order [] sorted = refl
unknown_order (one ∷ all) sorted = unknown_rises one.owner one.profile all (sorted_head owner_cmp one.owner (map (λ r. r.owner) all) sorted) (unknown_order all (sorted_tail owner_cmp one.owner (map (λ r. r.owner) all) sorted))

-- ---- the change fits

epoch_kept : (numbers : List ℕ) (p : Owner) → epoch_of (renumbered numbers p) ≡ epoch_of p
epoch_kept numbers (Known e i v) = refl
epoch_kept numbers (Unknown e v) = refl

module _ (g : Collected) (names : List (List ℕ)) (h : Head) (used : List Bool) (n : Numbering g names h.names used) (parts : Parts) (are : ArePartsOf (numbers_of h.names (length h.names) used names) g parts) (last : ℕ) (epochs : EpochsAreUpTo last g) where
  abbrev names_after : List (List ℕ)
  names_after = h.names ++ fresh_of h.names used names

  abbrev numbers : List ℕ
  numbers = numbers_of h.names (length h.names) used names

  part_fits : (q p : Owner) → lookup (same_owner q) parts ≡ Some p → IsFitted last names_after q
  part_fits q p found =
      let is = are.found q p found in
      let some = gathered_found g p is.1 in
      let counted = counts_some g p some.0 n.sums some.1 in
      let below : epoch_of p ≤ last = epochs p counted.0 counted.1 in
      let same : epoch_of q ≡ epoch_of p = ap epoch_of (sym is.0) ∙ epoch_kept numbers p in
      (omega (arith, below, same), (found_adds g names h.names used n parts are q p found).0)

  all_fit : (left : Parts) → IsStrictlySortedBy owner_cmp (keys_of left) → ((q p : Owner) → lookup (same_owner q) left ≡ Some p → lookup (same_owner q) parts ≡ Some p) → AllByRecursion (IsFitted last names_after) (keys_of left)
  all_fit [] sorted within = tt
  all_fit (part ∷ left) sorted within = (
    part_fits part.0 part.1 (within part.0 part.1 (ap (λ (b : Bool). cond b (Some part.1) (lookup (same_owner part.0) left)) (same_itself part.0))),
    all_fit left (sorted_tail owner_cmp part.0 (keys_of left) sorted) (λ q p found. within q p (tail_found part left q p sorted found)),
  )

  pub change_fits : (all : List Renewed) (segment : Segment) → IsStrictlySortedBy owner_cmp (keys_of parts) → map (λ r. r.owner) all ≡ keys_of parts → length names_after ≤ 4096 → Follows h last segment
      → Fits h.epoch h.runs h.names (record { epoch = last; names = fresh_of h.names used names; known = known_files all; unknown = unknown_files all; segment = segment })
  change_fits all segment sorted owners few follows =
      let fitted : AllByRecursion (IsFitted last names_after) (map (λ r. r.owner) all) = subst (AllByRecursion (IsFitted last names_after)) (sym owners) (all_fit parts sorted (λ q p found. found)) in
      let ordered : IsStrictlySortedBy owner_cmp (map (λ r. r.owner) all) = subst (IsStrictlySortedBy owner_cmp) (sym owners) sorted in
      record {
        epoch = follows.last_epoch;
        names = record { apart = n.all_apart; few = few };
        known = known_fitted last names_after all fitted;
        known_order = known_order all ordered;
        unknown = unknown_fitted last names_after all fitted;
        unknown_order = unknown_order all ordered;
        segment = follows.stored;
        run = follows.run;
      }
