-- The change that was made, as a whole.
use Rattle.std.proofs.Common.{arith, ◌≡◌, inl, ℕ, ◌+◌, ◌<◌, ◌≤◌, Bool, true, false, cond, List, [], ◌∷◌, ◌++◌, Option, Some, length, map, sym, ap, ◌∙◌, subst, length-append}
use Rattle.std.specs.Prelude.{slice_index_or, Ok, Err}
use Rattle.std.specs.List.{IsDistinct, AllByRecursion}
use Rattle.std.specs.List.Sorted.{IsStrictlySortedBy}
use Rattle.std.specs.Map.{lookup, keys_of}
use Rattle.std.specs.Str.{bytes_eq}
use Rattle.std.proofs.lemmas.Map.Keys.{sorted_tail}
use Rattle.store_io.specs.Files.{Files}
use Rattle.image_catalog.specs.Images.{AreImages}
use Rattle.database_model.specs.Runs.{Segment}
use Rattle.database_state.specs.Heads.{Head, is_in_range}
use Rattle.database_state.specs.Limits.{IsProfile}
use Rattle.database_state.specs.Standing.{database_of}
use Rattle.database_state.specs.Updates.{Update, KnownUpdate, UnknownUpdate, Fits, head_after}
use Rattle.database_state.specs.declared.faults.DbFault.{DbFault}
use Rattle.database_state.specs.declared.faults.DbFault.TheVariants.{StoreFault, Bad, Full, Memory}
use Rattle.growth_model.specs.Additions.{Additions}
use Rattle.growth_model.specs.Fitting.{HeadGrows}
use Rattle.profile_merge.specs.declared.owners.Owner.{Owner}
use Rattle.profile_merge.specs.declared.growing.Renewed.{Renewed}
use Rattle.profile_merge.specs.Sums.{Collected, AreSums, same_owner}
use Rattle.profile_merge.specs.Gathering.{additions_in, AddAlike, ImagesAreIn, EpochsAreUpTo}
use Rattle.profile_merge.specs.Faults.{IsFirstFault}
use Rattle.profile_merge.specs.Changing.{Follows, OfGathered, GrowsFiles, HasFaultCause, IsAnswered}
use Rattle.profile_merge.specs.Numbering.{is_used, fresh_of, numbers_of, IsImagesFault}
use Rattle.profile_merge.specs.Renewing.{Parts, IsGathered, ArePartsOf, AreRenewed, AreStopped, known_files, unknown_files}
use Rattle.profile_merge.proofs.Adding.{Numbering, fresh_selected}
use Rattle.profile_merge.proofs.FirstWrong.{tail_found, stopped_has_cause, no_fault, cause_answers}
use Rattle.profile_merge.proofs.Fitted.{names_apart, change_fits, known_order, unknown_order}
use Rattle.profile_merge.proofs.NextRows.{head_grows}
use Rattle.profile_merge.proofs.GrownBy.{change_grows}
use Rattle.profile_merge.proofs.OwnerOrder.{owner_cmp, same_itself}

-- ---- what was gathered, and what the drains add

alike_is : (a b : Additions) → AddAlike a b → a ≡ b
alike_is a b same = λ t. record { known = λ epoch name event offset. same.known epoch name event offset t; unknown = λ epoch event pc. same.unknown epoch event pc t }

pub of_gathered : (g : Collected) (names : List (List ℕ)) (P : Additions → Type 0) → IsDistinct bytes_eq names → ImagesAreIn names g → P (additions_in names g) → OfGathered g names P
of_gathered g names P apart within p = λ records drains gathers. subst P (alike_is (additions_in names g) _ (gathers apart within)) p

-- ---- the parts are of what was gathered

gathered_parts : (numbers : List ℕ) (g : Collected) (parts left : Parts) → ArePartsOf numbers g parts → IsStrictlySortedBy owner_cmp (keys_of left) → ((q p : Owner) → lookup (same_owner q) left ≡ Some p → lookup (same_owner q) parts ≡ Some p) → AllByRecursion (λ part. IsGathered g part.1) left
gathered_parts numbers g parts [] are sorted within = tt
gathered_parts numbers g parts (part ∷ left) are sorted within = (
  (are.found part.0 part.1 (within part.0 part.1 (ap (λ (b : Bool). cond b (Some part.1) (lookup (same_owner part.0) left)) (same_itself part.0)))).1,
  gathered_parts numbers g parts left are (sorted_tail owner_cmp part.0 (keys_of left) sorted) (λ q p found. within q p (tail_found part left q p sorted found)),
)

pub parts_gathered : (numbers : List ℕ) (g : Collected) (parts : Parts) → ArePartsOf numbers g parts → IsStrictlySortedBy owner_cmp (keys_of parts) → AllByRecursion (λ part. IsGathered g part.1) parts
parts_gathered numbers g parts are sorted = gathered_parts numbers g parts parts are sorted (λ q p found. found)

-- ---- the images

-- What is known once the images have their numbers: `held` are the images of the head.
pub record Numbered (g : Collected) (names : List (List ℕ)) (h : Head) (used : List Bool) : Type 0 where
  pub sums : AreSums g
  pub apart : IsDistinct bytes_eq names
  pub within : ImagesAreIn names g
  pub len : length used ≡ length names
  pub marks : (index : ℕ) → index < length names → slice_index_or used index false ≡ is_used g index
  pub held : AreImages h.names

numbering : (g : Collected) (names : List (List ℕ)) (h : Head) (used : List Bool) → Numbered g names h used → Numbering g names h.names used
numbering g names h used n = record {
  sums = n.sums;
  apart = n.apart;
  within = n.within;
  len = n.len;
  marks = n.marks;
  all_apart = names_apart h.names used names n.held.apart n.apart;
}

images_cause : (g : Collected) (names : List (List ℕ)) (h : Head) (used : List Bool) (files : Files) (fault : DbFault) → Numbered g names h used → IsImagesFault h.names (fresh_of h.names used names) fault → HasFaultCause names (additions_in names g) h files fault
images_cause g names h used files StoreFault n full = absurd full
images_cause g names h used files (Bad file) n full = absurd full
images_cause g names h used files (Full what held added) n full = record {
  more = fresh_of h.names used names;
  chosen = fresh_selected g names h.names used (numbering g names h used n);
  why = inl (let size = length-append h.names (fresh_of h.names used names) in omega (arith, size, full.3), λ t. Full (full.0 t) (full.1 t) (full.2 t));
}
images_cause g names h used files Memory n full = tt

pub images_fail : (g : Collected) (names : List (List ℕ)) (h : Head) (used : List Bool) (files : Files) (fault : DbFault) → Numbered g names h used → IsImagesFault h.names (fresh_of h.names used names) fault
    → OfGathered g names (λ added. HasFaultCause names added h files fault)
images_fail g names h used files fault n full = of_gathered g names (λ added. HasFaultCause names added h files fault) n.apart n.within (images_cause g names h used files fault n full)

pub fail_answers : (T : Type 0) (g : Collected) (names : List (List ℕ)) (h : Head) (files : Files) (answer fault : DbFault) → OfGathered g names (λ added. HasFaultCause names added h files answer) → OfGathered g names (λ added. IsFirstFault names added h files fault → IsAnswered {T = T} fault (Err answer))
fail_answers T g names h files answer fault fails = λ records drains gathers first. cause_answers T names _ h files answer fault (fails records drains gathers) first

-- ---- the change

pub record Made (g : Collected) (names : List (List ℕ)) (h : Head) (used : List Bool) (parts : Parts) : Type 0 where
  pub numbered : Numbered g names h used
  pub few : length h.names + length (fresh_of h.names used names) ≤ 4096
  pub are : ArePartsOf (numbers_of h.names (length h.names) used names) g parts
  pub sorted : IsStrictlySortedBy owner_cmp (keys_of parts)

few_after : (g : Collected) (names : List (List ℕ)) (h : Head) (used : List Bool) (parts : Parts) → Made g names h used parts → length (h.names ++ fresh_of h.names used names) ≤ 4096
few_after g names h used parts made = let size = length-append h.names (fresh_of h.names used names) in omega (arith, size, made.few)

pub parts_fail : (g : Collected) (names : List (List ℕ)) (h : Head) (used : List Bool) (parts : Parts) (files : Files) (fault : DbFault) → Made g names h used parts → AreStopped g h files parts fault
    → OfGathered g names (λ added. HasFaultCause names added h files fault)
parts_fail g names h used parts files fault made stopped = of_gathered g names (λ added. HasFaultCause names added h files fault) made.numbered.apart made.numbered.within
    (stopped_has_cause g names h used (numbering g names h used made.numbered) parts made.are files (few_after g names h used parts made) fault made.sorted stopped)

pub no_fault_made : (T : Type 0) (g : Collected) (names : List (List ℕ)) (h : Head) (used : List Bool) (parts : Parts) (files : Files) (all : List Renewed) (fault : DbFault) (value : T) → Made g names h used parts → AreRenewed g h files parts all
    → OfGathered g names (λ added. IsFirstFault names added h files fault → IsAnswered fault (Ok value))
no_fault_made T g names h used parts files all fault value made renewed = of_gathered g names (λ added. IsFirstFault names added h files fault → IsAnswered fault (Ok value)) made.numbered.apart made.numbered.within
    (λ first. absurd (no_fault g names h used (numbering g names h used made.numbered) parts made.are files (few_after g names h used parts made) all fault renewed first))

abbrev pub change_made : (names : List (List ℕ)) (h : Head) (used : List Bool) (all : List Renewed) (epoch : ℕ) (segment : Segment) → Update
change_made names h used all epoch segment = record { epoch = epoch; names = fresh_of h.names used names; known = known_files all; unknown = unknown_files all; segment = segment }

pub fits_made : (g : Collected) (names : List (List ℕ)) (h : Head) (used : List Bool) (parts : Parts) (all : List Renewed) (epoch : ℕ) (segment : Segment) → Made g names h used parts → EpochsAreUpTo epoch g → map (λ r. r.owner) all ≡ keys_of parts
    → Follows h epoch segment → Fits h.epoch h.runs h.names (change_made names h used all epoch segment)
fits_made g names h used parts all epoch segment made epochs owners follows =
    change_fits g names h used (numbering g names h used made.numbered) parts made.are epoch epochs all segment made.sorted owners (few_after g names h used parts made) follows

pub grows_made : (g : Collected) (names : List (List ℕ)) (h : Head) (used : List Bool) (parts : Parts) (all : List Renewed) (epoch : ℕ) (segment : Segment) (files : Option Files) → Made g names h used parts → is_in_range h ≡ true
    → ((told : Files) → files ≡ Some told → AreRenewed g h told parts all)
    → ((h : Head) (files : Files) (e : ℕ) (name : List ℕ) (event : ℕ) → IsProfile ((database_of h files).known e name event)) → ((h : Head) (files : Files) (e event : ℕ) → IsProfile ((database_of h files).unknown e event))
    → OfGathered g names (λ added. GrowsFiles names added h segment (change_made names h used all epoch segment) files)
grows_made g names h used parts all epoch segment files made range renewed rise rise_unknown =
    of_gathered g names (λ added. GrowsFiles names added h segment (change_made names h used all epoch segment) files) made.numbered.apart made.numbered.within
    (λ told is. change_grows g names h used (numbering g names h used made.numbered) parts made.are range made.numbered.held.few told all (renewed told is) (rise h told) (rise_unknown h told) epoch segment)

pub made_of : (g : Collected) (names : List (List ℕ)) (h : Head) (used slice : List Bool) (cat fresh : List (List ℕ)) (numbers nums : List ℕ) (parts : Parts) → Numbered g names h used → cat ≡ h.names → slice ≡ used
    → fresh ≡ fresh_of cat slice names → nums ≡ numbers_of cat (length cat) slice names → numbers ≡ nums → length cat + length fresh ≤ 4096 → ArePartsOf numbers g parts → IsStrictlySortedBy owner_cmp (keys_of parts) → Made g names h used parts
made_of g names h used slice cat fresh numbers nums parts n cat_is slice_is fresh_is nums_are numbers_are few are sorted =
    let all_fresh : fresh ≡ fresh_of h.names used names = fresh_is ∙ ap (λ (l : List (List ℕ)). fresh_of l slice names) cat_is ∙ ap (λ (l : List Bool). fresh_of h.names l names) slice_is in
    let all_numbers : numbers ≡ numbers_of h.names (length h.names) used names = numbers_are ∙ nums_are ∙ ap (λ (l : List (List ℕ)). numbers_of l (length l) slice names) cat_is ∙ ap (λ (l : List Bool). numbers_of h.names (length h.names) l names) slice_is in
    let a = ap (λ (l : List (List ℕ)). length l) cat_is in
    let b = ap (λ (l : List (List ℕ)). length l) all_fresh in
    record {
      numbered = n;
      few = omega (arith, a, b, few);
      are = subst (λ (l : List ℕ). ArePartsOf l g parts) all_numbers are;
      sorted = sorted;
    }

pub change_is : (names : List (List ℕ)) (h : Head) (used slice : List Bool) (cat fresh : List (List ℕ)) (known : List KnownUpdate) (unknown : List UnknownUpdate) (all : List Renewed) (epoch : ℕ) (segment : Segment) → cat ≡ h.names → slice ≡ used
    → fresh ≡ fresh_of cat slice names → known ≡ known_files all → unknown ≡ unknown_files all
    → ◌≡◌ {A = Update} (record { epoch = epoch; names = fresh; known = known; unknown = unknown; segment = segment }) (change_made names h used all epoch segment)
change_is names h used slice cat fresh known unknown all epoch segment cat_is slice_is fresh_is known_is unknown_is =
    let all_fresh : fresh ≡ fresh_of h.names used names = fresh_is ∙ ap (λ (l : List (List ℕ)). fresh_of l slice names) cat_is ∙ ap (λ (l : List Bool). fresh_of h.names l names) slice_is in
    λ t. record { epoch = epoch; names = all_fresh t; known = known_is t; unknown = unknown_is t; segment = segment }

pub images_full : (h : Head) (names : List (List ℕ)) (used slice : List Bool) (cat : List (List ℕ)) (fault : DbFault) → cat ≡ h.names → slice ≡ used → IsImagesFault cat (fresh_of cat slice names) fault → IsImagesFault h.names (fresh_of h.names used names) fault
images_full h names used slice cat fault cat_is slice_is full = subst (λ (l : List Bool). IsImagesFault h.names (fresh_of h.names l names) fault) slice_is (subst (λ (l : List (List ℕ)). IsImagesFault l (fresh_of l slice names) fault) cat_is full)

pub head_made : (g : Collected) (names : List (List ℕ)) (h : Head) (used : List Bool) (parts : Parts) (all : List Renewed) (epoch : ℕ) (segment : Segment) → Made g names h used parts → is_in_range h ≡ true → map (λ r. r.owner) all ≡ keys_of parts
    → OfGathered g names (λ added. HeadGrows names added epoch segment h (head_after (change_made names h used all epoch segment) h))
head_made g names h used parts all epoch segment made range owners =
    let sorted : IsStrictlySortedBy owner_cmp (map (λ r. r.owner) all) = subst (IsStrictlySortedBy owner_cmp) (sym owners) made.sorted in
    of_gathered g names (λ added. HeadGrows names added epoch segment h (head_after (change_made names h used all epoch segment) h)) made.numbered.apart made.numbered.within
    (head_grows g names h used (numbering g names h used made.numbered) parts made.are range all owners epoch segment (known_order all sorted) (unknown_order all sorted))
