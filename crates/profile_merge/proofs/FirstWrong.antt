-- The first part with which something is wrong is the first changed profile, and there is one such fault.
use Rattle.std.proofs.Common.{arith, ◌≡◌, ◌⊎◌, inl, inr, ℕ, ◌+◌, ◌^◌, ◌<◌, ◌≤◌, Bool, true, false, cond, List, [], ◌∷◌, ◌++◌, Option, None, Some, length, refl, sym, ap, ◌∙◌, subst}
use Rattle.std.specs.Prelude.{Err}
use Rattle.std.specs.declared.cmp.Ordering.TheVariants.{Less}
use Rattle.std.specs.List.{AllByRecursion}
use Rattle.std.specs.List.Sorted.{IsStrictlySortedBy}
use Rattle.std.specs.Map.{lookup, keys_of}
use Rattle.std.proofs.lemmas.Bool.{cases_lt}
use Rattle.std.proofs.lemmas.Map.Keys.{sorted_head, sorted_tail}
use Rattle.store_io.specs.Files.{Files}
use Rattle.store_io.specs.declared.file_refs.FileRef.{FileRef}
use Rattle.database_model.specs.declared.profiles.ProfileRow.{ProfileRow}
use Rattle.database_state.specs.Heads.{Head}
use Rattle.database_state.specs.Rows.{known_ref, unknown_ref}
use Rattle.database_state.specs.declared.faults.DbFault.{DbFault}
use Rattle.database_state.specs.declared.faults.DbFault.TheVariants.{StoreFault, Bad, Full, Memory}
use Rattle.database_state.specs.declared.faults.FullWhat.{FullWhat}
use Rattle.growth_model.specs.Additions.{Additions}
use Rattle.growth_model.specs.Growth.{count_at, IsNewName}
use Rattle.growth_model.proofs.Determined.{selected_once}
use Rattle.profile_merge.specs.declared.owners.Owner.{Owner}
use Rattle.profile_merge.specs.declared.owners.Owner.TheVariants.{Known, Unknown}
use Rattle.profile_merge.specs.declared.growing.Renewed.{Renewed}
use Rattle.profile_merge.specs.Sums.{Collected, same_owner, sum_at, counts_in}
use Rattle.profile_merge.specs.Gathering.{additions_in}
use Rattle.profile_merge.specs.Faults.{added_to, IsChanged, ComesBefore, held_by, IsFileOf, full_at, HasRoom, IsOver, IsWrong, IsFirstWrong, IsFirstFault}
use Rattle.profile_merge.specs.Changing.{HasFaultCause, IsAnswered}
use Rattle.profile_merge.specs.Numbering.{fresh_of, numbers_of}
use Rattle.profile_merge.specs.Renewing.{Parts, ArePartsOf, AreRenewed, IsWrongAmong, AreStopped}
use Rattle.profile_merge.proofs.Adding.{Numbering, found_adds, part_changed, changed_part, fresh_selected}
use Rattle.profile_merge.proofs.Before.{comes_less, less_comes, not_both, less_apart, by_order}
use Rattle.profile_merge.proofs.GrownBy.{rows_found}
use Rattle.profile_merge.proofs.OwnerOrder.{owner_cmp, same_itself, same_equal}
use Rattle.profile_merge.proofs.RenewSteps.{has_room}

-- ---- room, and what is wrong

pub room_as : (added other : ℕ → ℕ) (held : Option (List ProfileRow)) → ((offset : ℕ) → added offset ≡ other offset) → HasRoom added held → HasRoom other held
room_as added other None same room = room
room_as added other (Some rows) same room = λ offset. let is = same offset in let most = room offset in omega (arith, is, most)

over_as : (added other : ℕ → ℕ) (rows : List ProfileRow) (offset held more : ℕ) → ((offset : ℕ) → added offset ≡ other offset) → IsOver added rows offset held more → IsOver other rows offset held more
over_as added other rows offset held more same over = record {
  is_held = over.is_held;
  is_added = over.is_added ∙ same offset;
  over = over.over;
  first = λ before below. let is = same before in let most = over.first before below in omega (arith, is, most);
}

pub wrong_as : (added other : ℕ → ℕ) (h : Head) (files : Files) (owner : Owner) (fault : DbFault) → ((offset : ℕ) → added offset ≡ other offset) → IsWrong added h files owner fault → IsWrong other h files owner fault
wrong_as added other h files owner StoreFault same wrong = wrong
wrong_as added other h files owner (Bad file) same wrong = wrong
wrong_as added other h files owner (Full what held more) same wrong = (wrong.0, wrong.1, wrong.2, wrong.3, over_as added other wrong.0 wrong.1 held more same wrong.4)
wrong_as added other h files owner Memory same wrong = wrong

-- where there is room nothing is wrong
pub no_wrong : (added : ℕ → ℕ) (h : Head) (files : Files) (owner : Owner) (fault : DbFault) → HasRoom added (held_by h files owner) → IsWrong added h files owner fault → ⊥
no_wrong added h files owner StoreFault room wrong = wrong
no_wrong added h files owner (Bad file) room wrong = subst (HasRoom added) wrong.1 room
no_wrong added h files owner (Full what held more) room wrong =
    let all : (offset : ℕ) → count_at wrong.0 offset + added offset ≤ 2 ^ 48 = subst (HasRoom added) wrong.2 room in
    let most = all wrong.1 in
    omega (arith, most, wrong.4.is_held, wrong.4.is_added, wrong.4.over)
no_wrong added h files owner Memory room wrong = wrong

-- ---- the first part with which something is wrong

pub key_all : (P : Owner → Type 0) (q p : Owner) (parts : Parts) → AllByRecursion P (keys_of parts) → lookup (same_owner q) parts ≡ Some p → P q
key_all P q p [] all found = absurd cc
key_all P q p (part ∷ parts) all found = by (same_owner q part.0) refl found (key_all P q p parts all.1)
  where
    by : (b : Bool) → same_owner q part.0 ≡ b → cond b (Some part.1) (lookup (same_owner q) parts) ≡ Some p → (lookup (same_owner q) parts ≡ Some p → P q) → P q
    by true is found rest = subst P (sym (same_equal q part.0 is)) all.0
    by false is found rest = rest found

head_found : (part : Owner × Owner) (parts : Parts) → lookup (same_owner part.0) (part ∷ parts) ≡ Some part.1
head_found part parts = ap (λ (b : Bool). cond b (Some part.1) (lookup (same_owner part.0) parts)) (same_itself part.0)

pub tail_found : (part : Owner × Owner) (parts : Parts) (q p : Owner) → IsStrictlySortedBy owner_cmp (keys_of (part ∷ parts)) → lookup (same_owner q) parts ≡ Some p → lookup (same_owner q) (part ∷ parts) ≡ Some p
tail_found part parts q p sorted found =
    let less : owner_cmp part.0 q ≡ Less = key_all (λ k. owner_cmp part.0 k ≡ Less) q p parts (sorted_head owner_cmp part.0 (keys_of parts) sorted) found in
    ap (λ (b : Bool). cond b (Some part.1) (lookup (same_owner q) parts)) (less_apart part.0 q less) ∙ found

split_by : {G : Type 0} (part : Owner × Owner) (parts : Parts) (q p : Owner) → lookup (same_owner q) (part ∷ parts) ≡ Some p → (q ≡ part.0 → part.1 ≡ p → G) → (lookup (same_owner q) parts ≡ Some p → G) → G
split_by {G} part parts q p found here there = by (same_owner q part.0) refl found
  where
    by : (b : Bool) → same_owner q part.0 ≡ b → cond b (Some part.1) (lookup (same_owner q) parts) ≡ Some p → G
    by true is found = here (same_equal q part.0 is) (let same : part.1 ≡ p = cc in same)
    by false is found = there found

module _ (g : Collected) (names : List (List ℕ)) (h : Head) (used : List Bool) (n : Numbering g names h.names used) (parts : Parts) (are : ArePartsOf (numbers_of h.names (length h.names) used names) g parts) (files : Files) where
  abbrev names_after : List (List ℕ)
  names_after = h.names ++ fresh_of h.names used names

  abbrev adds : Additions
  adds = additions_in names g

  adds_to : (q p : Owner) → lookup (same_owner q) parts ≡ Some p → (offset : ℕ) → added_to adds names_after q offset ≡ sum_at (counts_in g p) offset
  adds_to q p found = (found_adds g names h.names used n parts are q p found).1

  abbrev Done : Parts → Type 0
  Done left = (q p : Owner) → lookup (same_owner q) parts ≡ Some p → (lookup (same_owner q) left ≡ Some p) ⊎ HasRoom (sum_at (counts_in g p)) (held_by h files q)

  first_by : (part : Owner × Owner) (left : Parts) → IsStrictlySortedBy owner_cmp (keys_of (part ∷ left)) → Done (part ∷ left) → (q : Owner) → ComesBefore q part.0 → IsChanged adds names_after q → HasRoom (added_to adds names_after q) (held_by h files q)
  first_by part left sorted done q before changed =
      let some = changed_part g names h.names used n parts are q changed in
      let less = comes_less q part.0 before in
      elim (done q some.0 some.1) [
        | inl here ↦ split_by part left q some.0 here
            (λ same from. let own : owner_cmp part.0 part.0 ≡ Less = subst (λ (o : Owner). owner_cmp o part.0 ≡ Less) same less in absurd (not_both part.0 part.0 own own))
            (λ there. absurd (not_both q part.0 less (key_all (λ k. owner_cmp part.0 k ≡ Less) q some.0 left (sorted_head owner_cmp part.0 (keys_of left) sorted) there)))
        | inr room ↦ room_as (sum_at (counts_in g some.0)) (added_to adds names_after q) (held_by h files q) (λ offset. sym (adds_to q some.0 some.1 offset)) room
      ]

  pub first_wrong : (left : Parts) (fault : DbFault) → IsStrictlySortedBy owner_cmp (keys_of left) → ((q p : Owner) → lookup (same_owner q) left ≡ Some p → lookup (same_owner q) parts ≡ Some p) → Done left
      → IsWrongAmong g h files left fault → IsFirstWrong adds names_after h files fault
  first_wrong [] fault sorted within done wrong = absurd wrong
  first_wrong (part ∷ left) fault sorted within done (inl wrong) =
      let found = within part.0 part.1 (head_found part left) in
      record {
        owner = part.0;
        changed = part_changed g names h.names used n parts are part.0 part.1 found;
        wrong = wrong_as (sum_at (counts_in g part.1)) (added_to adds names_after part.0) h files part.0 fault (λ offset. sym (adds_to part.0 part.1 found offset)) wrong;
        first = first_by part left sorted done;
      }
  first_wrong (part ∷ left) fault sorted within done (inr later) =
      first_wrong left fault (sorted_tail owner_cmp part.0 (keys_of left) sorted) (λ q p found. within q p (tail_found part left q p sorted found))
      (λ q p found. elim (done q p found) [
        | inl here ↦ split_by part left q p here
            (λ same from. inr (subst (λ (o : Owner). HasRoom (sum_at (counts_in g o)) (held_by h files q)) from (subst (λ (o : Owner). HasRoom (sum_at (counts_in g part.1)) (held_by h files o)) (sym same) later.0)))
            (λ there. inl there)
        | inr room ↦ inr room
      ])
      later.1

  pub wrong_is_first : (few : length names_after ≤ 4096) (fault : DbFault) → IsStrictlySortedBy owner_cmp (keys_of parts) → IsWrongAmong g h files parts fault → IsFirstFault names adds h files fault
  wrong_is_first few fault sorted wrong = record {
    more = fresh_of h.names used names;
    chosen = fresh_selected g names h.names used n;
    why = inr (few, first_wrong parts fault sorted (λ q p found. found) (λ q p found. inl found) wrong);
  }

  pub stopped_has_cause : (few : length names_after ≤ 4096) (fault : DbFault) → IsStrictlySortedBy owner_cmp (keys_of parts) → AreStopped g h files parts fault → HasFaultCause names adds h files fault
  stopped_has_cause few StoreFault sorted stopped = tt
  stopped_has_cause few (Bad file) sorted stopped = wrong_is_first few (Bad file) sorted stopped
  stopped_has_cause few (Full what held added) sorted stopped = wrong_is_first few (Full what held added) sorted stopped
  stopped_has_cause few Memory sorted stopped = tt

  none_wrong : (all : List Renewed) (fault : DbFault) → AreRenewed g h files parts all → IsFirstWrong adds names_after h files fault → ⊥
  none_wrong all fault renewed wrong =
      let some = changed_part g names h.names used n parts are wrong.owner wrong.changed in
      let rows = rows_found g h files wrong.owner some.0 parts all renewed some.1 in
      let room = has_room (sum_at (counts_in g some.0)) h files wrong.owner rows.0 rows.2 in
      no_wrong (added_to adds names_after wrong.owner) h files wrong.owner fault (room_as (sum_at (counts_in g some.0)) (added_to adds names_after wrong.owner) (held_by h files wrong.owner) (λ offset. sym (adds_to wrong.owner some.0 some.1 offset)) room) wrong.wrong

  -- where all are renewed there is no fault
  pub no_fault : (few : length names_after ≤ 4096) (all : List Renewed) (fault : DbFault) → AreRenewed g h files parts all → IsFirstFault names adds h files fault → ⊥
  no_fault few all fault renewed first =
      let same : first.more ≡ fresh_of h.names used names = selected_once (IsNewName h.names adds) names first.more (fresh_of h.names used names) first.chosen (fresh_selected g names h.names used n) in
      elim first.why [
        | inl images ↦ (let count = ap (λ (l : List (List ℕ)). length (h.names ++ l)) same in omega (arith, count, few, images.0))
        | inr wrong ↦ none_wrong all fault renewed (subst (λ (l : List (List ℕ)). IsFirstWrong adds (h.names ++ l) h files fault) same wrong.1)
      ]

-- ---- there is one first fault

one_file : (h : Head) (owner : Owner) (a b : FileRef) → IsFileOf h owner a → IsFileOf h owner b → a ≡ b
one_file h (Known e i v) a b one two =
    let rows : Some one.0 ≡ Some two.0 = sym one.1 ∙ two.1 in
    let same : one.0 ≡ two.0 = cc in
    one.2 ∙ ap known_ref same ∙ sym two.2
one_file h (Unknown e v) a b one two =
    let rows : Some one.0 ≡ Some two.0 = sym one.1 ∙ two.1 in
    let same : one.0 ≡ two.0 = cc in
    one.2 ∙ ap unknown_ref same ∙ sym two.2

same_offset : (added : ℕ → ℕ) (rows : List ProfileRow) (a b held more held' more' : ℕ) → IsOver added rows a held more → IsOver added rows b held' more' → a < b → ⊥
same_offset added rows a b held more held' more' one two below =
    let most = two.first a below in
    omega (arith, most, one.is_held, one.is_added, one.over)

full_same : {what what' : FullWhat} {held held' more more' : ℕ} → what ≡ what' → held ≡ held' → more ≡ more' → Full what held more ≡ Full what' held' more'
full_same a b c = cc

one_full : (added : ℕ → ℕ) (owner : Owner) (rows : List ProfileRow) (a b : ℕ) (what what' : FullWhat) (held held' more more' : ℕ) → what ≡ full_at owner a → what' ≡ full_at owner b
    → IsOver added rows a held more → IsOver added rows b held' more' → Full what held more ≡ Full what' held' more'
one_full added owner rows a b what what' held held' more more' is is' one two =
    let not_less : a < b → ⊥ = same_offset added rows a b held more held' more' one two in
    let not_more : b < a → ⊥ = same_offset added rows b a held' more' held more two one in
    let at : a ≡ b = elim (cases_lt a b) [ inl less ↦ absurd (not_less less) | inr from ↦ elim (cases_lt b a) [ inl less ↦ absurd (not_more less) | inr to ↦ omega (arith, from, to) ] ] in
    full_same (is ∙ ap (full_at owner) at ∙ sym is') (one.is_held ∙ ap (count_at rows) at ∙ sym two.is_held) (one.is_added ∙ ap added at ∙ sym two.is_added)

one_wrong : (added : ℕ → ℕ) (h : Head) (files : Files) (owner : Owner) (a b : DbFault) → IsWrong added h files owner a → IsWrong added h files owner b → a ≡ b
one_wrong added h files owner StoreFault b one two = absurd one
one_wrong added h files owner Memory b one two = absurd one
one_wrong added h files owner (Bad file) StoreFault one two = absurd two
one_wrong added h files owner (Bad file) Memory one two = absurd two
one_wrong added h files owner (Bad file) (Bad other) one two = ap Bad (one_file h owner file other one.0 two.0)
one_wrong added h files owner (Bad file) (Full what held more) one two = let wrong : Some two.0 ≡ None = sym two.2 ∙ one.1 in absurd cc
one_wrong added h files owner (Full what held more) StoreFault one two = absurd two
one_wrong added h files owner (Full what held more) Memory one two = absurd two
one_wrong added h files owner (Full what held more) (Bad file) one two = let wrong : Some one.0 ≡ None = sym one.2 ∙ two.1 in absurd cc
one_wrong added h files owner (Full what held more) (Full what' held' more') one two =
    let both : Some one.0 ≡ Some two.0 = sym one.2 ∙ two.2 in
    let same : one.0 ≡ two.0 = cc in
    one_full added owner two.0 one.1 two.1 what what' held held' more more' one.3 two.3 (subst (λ (rows : List ProfileRow). IsOver added rows one.1 held more) same one.4) two.4

one_first : (added : Additions) (names : List (List ℕ)) (h : Head) (files : Files) (a b : DbFault) → IsFirstWrong added names h files a → IsFirstWrong added names h files b → a ≡ b
one_first added names h files a b one two = by_order one.owner two.owner (owner_cmp one.owner two.owner) refl
    (λ less. absurd (no_wrong (added_to added names one.owner) h files one.owner a (two.first one.owner (less_comes one.owner two.owner less) one.changed) one.wrong))
    (λ same. one_wrong (added_to added names two.owner) h files two.owner a b (subst (λ (o : Owner). IsWrong (added_to added names o) h files o a) same one.wrong) two.wrong)
    (λ less. absurd (no_wrong (added_to added names two.owner) h files two.owner b (one.first two.owner (less_comes two.owner one.owner less) two.changed) two.wrong))

pub one_fault : (images : List (List ℕ)) (added : Additions) (h : Head) (files : Files) (a b : DbFault) → IsFirstFault images added h files a → IsFirstFault images added h files b → a ≡ b
one_fault images added h files a b one two =
    let same : one.more ≡ two.more = selected_once (IsNewName h.names added) images one.more two.more one.chosen two.chosen in
    let count = ap (λ (l : List (List ℕ)). length (h.names ++ l)) same in
    elim one.why [
      | inl full ↦ elim two.why [ inl other ↦ full.1 ∙ sym other.1 | inr wrong ↦ absurd (omega (arith, count, full.0, wrong.0)) ]
      | inr wrong ↦ elim two.why [
        | inl full ↦ absurd (omega (arith, count, full.0, wrong.0))
        | inr other ↦ one_first added (h.names ++ two.more) h files a b (subst (λ (l : List (List ℕ)). IsFirstWrong added (h.names ++ l) h files a) same wrong.1) other.1
      ]
    ]

pub cause_answers : (T : Type 0) (images : List (List ℕ)) (added : Additions) (h : Head) (files : Files) (answer fault : DbFault) → HasFaultCause images added h files answer → IsFirstFault images added h files fault → IsAnswered {T = T} fault (Err answer)
cause_answers T images added h files StoreFault fault cause first = tt
cause_answers T images added h files (Bad file) fault cause first = one_fault images added h files fault (Bad file) first cause
cause_answers T images added h files (Full what held more) fault cause first = one_fault images added h files fault (Full what held more) first cause
cause_answers T images added h files Memory fault cause first = tt
