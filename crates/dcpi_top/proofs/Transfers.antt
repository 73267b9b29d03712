-- What stops a part rests on what the files say, and on nothing else of them.
use Rattle.std.proofs.Common.{◌≡◌, ◌≤◌, inl, inr, ℕ, true, List, ◌++◌, length, sym, subst, ap, ◌∙◌}
use Rattle.std.proofs.lemmas.Bool.{cases_lt}
use Rattle.std.specs.declared.option.Option.TheVariants.{None}
use Rattle.store_io.specs.Files.{Files}
use Rattle.sample_key.specs.Events.{code_of}
use Rattle.image_catalog.specs.Images.{AreImages}
use Rattle.trace_model.specs.Recording.{name_at}
use Rattle.database_state.specs.Heads.{Head, is_in_range}
use Rattle.database_state.specs.Rows.{known_row}
use Rattle.database_state.specs.Standing.{database_of, known_at}
use Rattle.database_state.specs.Updates.{at_image}
use Rattle.database_state.specs.declared.faults.DbFault.{DbFault}
use Rattle.database_state.specs.declared.faults.DbFault.TheVariants as faults
use Rattle.epoch_store.proofs.Sealed.{no_row}
use Rattle.epoch_store.proofs.Stays.{bounded}
use Rattle.growth_model.specs.Additions.{Additions}
use Rattle.profile_merge.specs.Faults.{HasRoom, IsFirstFault, IsWrong, added_to, held_by}
use Rattle.profile_merge.specs.declared.owners.Owner.{Owner}
use Rattle.profile_merge.specs.declared.owners.Owner.TheVariants.{Known, Unknown}
use Rattle.profile_merge.proofs.Names.{own_place}

module _ (h : Head) (f g : Files) (images : AreImages h.names) (range : is_in_range h ≡ true) (same : database_of h f ≡ database_of h g) where
  -- both files hold the same of a profile
  held_same : (owner : Owner) → held_by h f owner ≡ held_by h g owner
  held_same (Known epoch image event) = elim (cases_lt image (length h.names)) [
    | inl there ↦ subst (λ o. at_image o (λ i. known_at f (known_row h.known epoch i (code_of event))) ≡ at_image o (λ i. known_at g (known_row h.known epoch i (code_of event))))
        (own_place h.names image images.apart there) (λ i. (same i).known epoch (name_at h.names image) (code_of event))
    | inr past ↦ ap (known_at f) (none past) ∙ sym (ap (known_at g) (none past))
  ]
    where
      none : length h.names ≤ image → known_row h.known epoch image (code_of event) ≡ None
      none past = no_row h epoch image (code_of event) (bounded h range images.few) past
  held_same (Unknown epoch event) = λ i. (same i).unknown epoch (code_of event)

  wrong_same : (added : ℕ → ℕ) (owner : Owner) (fault : DbFault) → IsWrong added h f owner fault → IsWrong added h g owner fault
  wrong_same added owner faults.StoreFault wrong = wrong
  wrong_same added owner (faults.Bad file) wrong = (wrong.0, sym (held_same owner) ∙ wrong.1)
  wrong_same added owner (faults.Full what held more) (rows, offset, is, place, over) = (rows, offset, sym (held_same owner) ∙ is, place, over)
  wrong_same added owner faults.Memory wrong = wrong

  -- so the same stops a part
  pub stops_same : (names : List (List ℕ)) (added : Additions) (fault : DbFault) → IsFirstFault names added h f fault → IsFirstFault names added h g fault
  stops_same names added fault first = record {
    more = first.more;
    chosen = first.chosen;
    why = elim first.why [
      | inl many ↦ inl many
      | inr wrong ↦ inr (
        wrong.0,
        record {
          owner = wrong.1.owner;
          changed = wrong.1.changed;
          wrong = wrong_same (added_to added (h.names ++ first.more) wrong.1.owner) wrong.1.owner fault wrong.1.wrong;
          first = λ other before changed. subst (HasRoom (added_to added (h.names ++ first.more) other)) (held_same other) (wrong.1.first other before changed);
        },
      )
    ];
  }
