-- Where a database grows by a part within the limits, nothing stops the change.
use Rattle.std.proofs.Common.{arith, ◌≡◌, inl, inr, ℕ, ◌≤◌, Bool, true, false, cond, List, [], ◌∷◌, ◌++◌, Option, None, Some, length, refl, sym, ap, ◌∙◌, subst, append_assoc}
use Rattle.std.specs.Prelude.{filter}
use Rattle.std.specs.List.{IsDistinct}
use Rattle.std.specs.Str.{bytes_eq}
use Rattle.std.proofs.lemmas.Cmp.{nat_list_eq_equiv}
use Rattle.std.proofs.lemmas.List.{append-nil}
use Rattle.std.proofs.lemmas.Map.Keys.{IsDistinct-push}
use Rattle.store_io.specs.Files.{Files}
use Rattle.sample_key.specs.Events.{code_of}
use Rattle.image_catalog.specs.Images.{place_of, AreImages}
use Rattle.trace_model.specs.Recording.{name_at}
use Rattle.database_model.specs.declared.profiles.ProfileRow.{ProfileRow}
use Rattle.database_model.specs.Runs.{Segment}
use Rattle.database_state.specs.Heads.{Head, is_in_range}
use Rattle.database_state.specs.Database.{Database}
use Rattle.database_state.specs.Standing.{database_of}
use Rattle.database_state.specs.declared.faults.DbFault.{DbFault}
use Rattle.growth_model.specs.Additions.{Additions}
use Rattle.growth_model.specs.Growth.{IsCounted, IsGrown, IsNewName, Grows}
use Rattle.growth_model.proofs.Determined.{selected_once}
use Rattle.profile_merge.specs.declared.owners.Owner.{Owner}
use Rattle.profile_merge.specs.declared.owners.Owner.TheVariants.{Known, Unknown}
use Rattle.profile_merge.specs.Faults.{added_to, IsChanged, held_by, HasRoom, IsFirstWrong, IsFirstFault}
use Rattle.profile_merge.proofs.Adding.{all_new}
use Rattle.profile_merge.proofs.Fitted.{none_any}
use Rattle.profile_merge.proofs.GrownBy.{held_before}
use Rattle.profile_merge.proofs.FirstWrong.{no_wrong}
use Rattle.profile_merge.proofs.Names.{own_place}
use Rattle.profile_merge.proofs.Numbers.{after, place_behind, AreNew, still_new}
use Rattle.profile_merge.proofs.Rows.{count_most}

-- ---- held names and chosen ones are apart

chosen_by : (b : Bool) (held front rest : List (List ℕ)) (n : List ℕ) → IsDistinct bytes_eq (held ++ front) → (b ≡ true → place_of n held ≡ None) → place_of n front ≡ None
    → (IsDistinct bytes_eq (held ++ front) → IsDistinct bytes_eq (held ++ (front ++ rest))) → (IsDistinct bytes_eq (held ++ (front ++ n ∷ [])) → IsDistinct bytes_eq (held ++ ((front ++ n ∷ []) ++ rest)))
    → IsDistinct bytes_eq (held ++ (front ++ cond b (n ∷ rest) rest))
chosen_by false held front rest n apart new first without with = without apart
chosen_by true held front rest n apart new first without with =
    let none : place_of n (held ++ front) ≡ None = place_behind n held front (new refl) ∙ ap (after (length held)) first in
    let more : IsDistinct bytes_eq (held ++ (front ++ n ∷ [])) = subst (IsDistinct bytes_eq) (append_assoc held front (n ∷ [])) (IsDistinct-push nat_list_eq_equiv (held ++ front) n apart (none_any n (held ++ front) none)) in
    subst (λ (l : List (List ℕ)). IsDistinct bytes_eq (held ++ l)) (append_assoc front (n ∷ []) rest) (with more)

chosen_apart : (held front : List (List ℕ)) (test : List ℕ → Bool) (names : List (List ℕ)) → ((x : List ℕ) → test x ≡ true → place_of x held ≡ None) → IsDistinct bytes_eq names → AreNew front names → IsDistinct bytes_eq (held ++ front)
    → IsDistinct bytes_eq (held ++ (front ++ filter test names))
unfolding IsDistinct
chosen_apart held front test [] new apart first so = subst (λ (l : List (List ℕ)). IsDistinct bytes_eq (held ++ l)) (sym (append-nil front)) so
chosen_apart held front test (n ∷ names) new apart first so = chosen_by (test n) held front (filter test names) n so (new n) first.0
    (λ less. chosen_apart held front test names new apart.1 first.1 less)
    (λ more. chosen_apart held (front ++ n ∷ []) test names new apart.1 (still_new front n names apart.0 first.1) more)

-- ---- a profile that has grown has room

grown_room : (added : ℕ → ℕ) (before now : Option (List ProfileRow)) → IsCounted added → IsGrown added before now → HasRoom added before
grown_room added None now counted grown = let zero = grown.0 counted.offset in absurd (omega (arith, zero, counted.some))
grown_room added (Some rows) now counted grown = λ offset. let sum = grown.2.counts offset in let most = count_most grown.0 offset grown.2.are_rows in omega (arith, sum, most)

module _ (images : List (List ℕ)) (added : Additions) (epoch : ℕ) (segment : Segment) (h : Head) (files : Files) (new : Database) (apart : IsDistinct bytes_eq images) (held : AreImages h.names) (range : is_in_range h ≡ true) (grown : Grows images added epoch segment (database_of h files) new) where
  abbrev names_after : List (List ℕ)
  names_after = h.names ++ grown.more

  all_apart : IsDistinct bytes_eq names_after
  all_apart = subst (λ (l : List (List ℕ)). IsDistinct bytes_eq (h.names ++ l)) (sym grown.chosen.list)
      (chosen_apart h.names [] grown.chosen.test images (λ x is. (grown.chosen.holds x is).fresh) apart (all_new images) (subst (IsDistinct bytes_eq) (sym (append-nil h.names)) held.apart))

  room : (owner : Owner) → IsChanged added names_after owner → HasRoom (added_to added names_after owner) (held_by h files owner)
  room (Known e i v) changed =
      let place : place_of (name_at names_after i) names_after ≡ Some i = own_place names_after i all_apart changed.numbered in
      let before : (database_of h files).known e (name_at names_after i) (code_of v) ≡ held_by h files (Known e i v) = held_before h files grown.more e (name_at names_after i) i v range held.few place (place_of (name_at names_after i) h.names) refl in
      subst (HasRoom (added_to added names_after (Known e i v))) before
      (grown_room (added_to added names_after (Known e i v)) ((database_of h files).known e (name_at names_after i) (code_of v)) (new.known e (name_at names_after i) (code_of v)) changed.counted (grown.known e (name_at names_after i) (code_of v)))
  room (Unknown e v) changed = grown_room (added_to added names_after (Unknown e v)) ((database_of h files).unknown e (code_of v)) (new.unknown e (code_of v)) changed.counted (grown.unknown e (code_of v))

  pub no_fault_where_grown : (fault : DbFault) → length new.names ≤ 4096 → IsFirstFault images added h files fault → ⊥
  no_fault_where_grown fault few first =
      let same : first.more ≡ grown.more = selected_once (IsNewName h.names added) images first.more grown.more first.chosen grown.chosen in
      let names = ap (λ (l : List (List ℕ)). length l) grown.names in
      elim first.why [
        | inl full ↦ (let count = ap (λ (l : List (List ℕ)). length (h.names ++ l)) same in omega (arith, count, names, few, full.0))
        | inr wrong ↦
            let at = subst (λ (l : List (List ℕ)). IsFirstWrong added (h.names ++ l) h files fault) same wrong.1 in
            no_wrong (added_to added names_after at.owner) h files at.owner fault (room at.owner at.changed) at.wrong
      ]

pub growth_without_fault : (images : List (List ℕ)) (added : Additions) (epoch : ℕ) (segment : Segment) (h : Head) (files : Files) (new : Database) (fault : DbFault) → IsDistinct bytes_eq images → AreImages h.names → is_in_range h ≡ true
    → Grows images added epoch segment (database_of h files) new → length new.names ≤ 4096 → IsFirstFault images added h files fault → ⊥
growth_without_fault images added epoch segment h files new fault apart held range grown few first = no_fault_where_grown images added epoch segment h files new apart held range grown fault few first
