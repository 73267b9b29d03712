-- The books stay those of the records and the drains, from one record to the next.
use Rattle.std.proofs.Common.{arith, Vec, ◌≡◌, ℕ, get_or, ◌+◌, ◌<◌, ◌≤◌, ◌⊎◌, inl, inr, refl, sym, ◌∙◌, ap, subst, Bool, true, false, cond, if◌then◌else◌, List, [], ◌∷◌, ◌++◌, length, take, add-one, Option, Some, None, Ok, Err}
use Rattle.std.specs.Prelude.{slice_get, is_some, OnOk}
use Rattle.std.specs.declared.result.Result.{Result}
use Rattle.std.specs.Global.{Global}
use Rattle.std.specs.List.{All, count_by}
use Rattle.std.proofs.lemmas.List.{length-map}
use Rattle.std.proofs.lemmas.List.Elements.{All-push}
use Rattle.std.proofs.lemmas.Bool.{cond_both}
use Rattle.std.proofs.lemmas.Option.{slice_get_within, get_or_from_slice_get}
use Rattle.std.proofs.lemmas.List.Sums.{count_by_more_no, count_by_more_yes, sum_by-take-le}
use Rattle.database_state.specs.Heads.{Head, is_in_range}
use Rattle.head_file.proofs.Limits.{ranges_of}
use Rattle.sample_key.specs.Sent.{Sent}
use Rattle.sample_key.specs.declared.limits.TheConstants.{MOST_SAMPLES}
use Rattle.run_model.specs.Daemon.{is_known}
use Rattle.trace_model.specs.Parts.{begins_epoch, ends_part, part_of}
use Rattle.trace_model.specs.declared.notices.Record.{Record}
use Rattle.trace_model.specs.declared.notices.Record.TheVariants.{Scan, Load, Unload, Exec, Exit, Kernel, Drain, Merge, Epoch}
use Rattle.load_map.specs.Maps.{Applies, StandsFor}
use Rattle.load_map.specs.declared.maps.LoadMap.{LoadMap}
use Rattle.run_model.specs.Books.{AsksInNeed}
use Rattle.database_state.specs.declared.faults.DbFault.{DbFault}
use Rattle.dcpid_core.specs.declared.flushes.Flush.{Flush}
use Rattle.database_model.specs.Ranges.{IsDrained}
use Rattle.epoch_store.specs.Databases.{failed_of, head_of}
use Rattle.profile_merge.specs.Gathering.{EpochsAreUpTo, Gathers, ImagesAreIn, drained}
use Rattle.profile_merge.specs.Sums.{Collected}
use Rattle.dcpid_core.specs.Insides.{IsCurrent, IsSound, IsTask, records_of}
use Rattle.dcpid_core.specs.Booking.{IsReady, IsSettled, epoch_next}
use Rattle.dcpid_core.specs.declared.progress.Task.{Task}
use Rattle.dcpid_core.specs.declared.progress.Progress.{Progress}
use Rattle.trace_outline.specs.Views.{viewed}
use Rattle.dcpid_core.proofs.Rungs.{take_next}

-- a record that ends no part begins no epoch
begins_ends : (notice : Record) → ends_part notice ≡ false → begins_epoch notice ≡ false
begins_ends (Scan pid base size image) e = refl
begins_ends (Load pid base size image) e = refl
begins_ends (Unload pid base size) e = refl
begins_ends (Exec pid base size image) e = refl
begins_ends (Exit pid) e = refl
begins_ends (Kernel base size image) e = refl
begins_ends Drain e = refl
begins_ends Merge e = refl
begins_ends Epoch e = absurd (cc)

same_epoch : (epoch : ℕ) (notice : Record) → ends_part notice ≡ false → epoch_next epoch notice ≡ epoch
same_epoch epoch notice e = ap (λ (b : Bool). epoch + (if b then 1 else 0)) (begins_ends notice e) ∙ add_none epoch
  where
    add_none : (n : ℕ) → n + 0 ≡ n
    add_none n = omega arith

-- the parts that ended
part_next : (records : List Record) (applied : ℕ) (notice : Record) → slice_get records applied ≡ Some notice → part_of records (applied + 1) ≡ part_of records applied + (if ends_part notice then 1 else 0)
part_next records applied notice there =
    let within : applied < length records = slice_get_within records applied notice there in
    let here : get_or records applied notice ≡ notice = get_or_from_slice_get records applied notice notice there in
    cond_both (ends_part notice) 1 0 (λ (more : ℕ). part_of records (applied + 1) ≡ part_of records applied + more)
    (λ e. count_by_more_yes ends_part records applied notice within (ap (λ (n : Record). ends_part n) here ∙ e))
    (λ e. count_by_more_no ends_part records applied notice within (ap (λ (n : Record). ends_part n) here ∙ e) ∙ omega arith)

-- the map after one record more
map_next : (task : Task) (before after : Progress) (applied : ℕ) (notice : Record) → slice_get (records_of task) applied ≡ Some notice → StandsFor before.map (take applied (records_of task)) → Applies before.map notice after.map → StandsFor after.map (take (applied + 1) (records_of task))
map_next task before after applied notice here stands applies =
    subst (λ xs. StandsFor after.map xs) (sym (ap (λ n. take n (records_of task)) (add-one applied) ∙ (take_next (records_of task) applied notice here).0)) (applies (take applied (records_of task)) stands)

-- nothing is gathered for a later epoch
epochs_later : (collected : Collected) (epoch later : ℕ) → epoch ≤ later → EpochsAreUpTo epoch collected → EpochsAreUpTo later collected
epochs_later collected epoch later le upto = λ owner offset some. omega (arith, upto owner offset some, le)

-- a record that ends no part
pub current_moved : (task : Task) (before after : Progress) (applied epoch : ℕ) (notice : Record) → slice_get (records_of task) applied ≡ Some notice → ends_part notice ≡ false → IsCurrent task applied epoch before → Applies before.map notice after.map → after ≡ record before { map = after.map } → IsCurrent task (applied + 1) (epoch_next epoch notice) after
current_moved task before after applied epoch notice here ends current applies is =
    subst (λ p. IsCurrent task (applied + 1) (epoch_next epoch notice) p) (sym is) (record {
      mappings = map_next task before after applied notice here current.mappings applies;
      gathers = current.gathers;
      images = current.images;
      epochs = epochs_later before.gathered epoch (epoch_next epoch notice) (omega (arith, same_epoch epoch notice ends)) current.epochs;
      drains = current.drains;
      works = current.works;
      run = current.run;
      epoch_is = same_epoch epoch notice ends ∙ current.epoch_is;
      part = current.part ∙ sym (part_next (records_of task) applied notice here ∙ ap (λ (b : Bool). part_of (records_of task) applied + (if b then 1 else 0)) ends ∙ add_none (part_of (records_of task) applied));
    })
  where
    add_none : (n : ℕ) → n + 0 ≡ n
    add_none n = omega arith

-- a record that ends a part, which was committed
pub current_settled : (task : Task) (before after : Progress) (applied epoch : ℕ) (notice : Record) → slice_get (records_of task) applied ≡ Some notice → ends_part notice ≡ true → IsCurrent task applied epoch before → Applies before.map notice after.map → IsSettled task (epoch_next epoch notice) after → after.part ≡ before.part + 1 → after.noted.items ≡ [] → IsCurrent task (applied + 1) (epoch_next epoch notice) after
current_settled task before after applied epoch notice here ends current applies settled part none = record {
  mappings = map_next task before after applied notice here current.mappings applies;
  gathers = subst (λ ds. Gathers after.gathered (viewed task.trace).images (records_of task) ds) (sym none) settled.gathers;
  images = settled.images;
  epochs = settled.epochs;
  drains = subst (λ ds. All IsDrained ds) (sym none) no_drains;
  works = settled.works;
  run = inl settled.run;
  epoch_is = settled.epoch_is;
  part = part ∙ ap (λ n. n + 1) current.part ∙ sym (part_next (records_of task) applied notice here ∙ ap (λ (b : Bool). part_of (records_of task) applied + (if b then 1 else 0)) ends);
}
  where
    no_drains : All IsDrained []
    no_drains = λ k d lt. absurd (omega (arith, lt))

-- the part may be committed, where this is the epoch afterwards
pub ready_next : (task : Task) (progress : Progress) (applied epoch : ℕ) (notice : Record) → IsCurrent task applied epoch progress → IsReady task (epoch_next epoch notice) progress
ready_next task progress applied epoch notice current = record {
  gathers = current.gathers;
  images = current.images;
  epochs = epochs_later progress.gathered epoch (epoch_next epoch notice) (omega arith) current.epochs;
  drains = current.drains;
  works = current.works;
  run = current.run;
  epoch_is = by (begins_epoch notice);
}
  where
    by : (b : Bool) → (epoch + (if b then 1 else 0) ≡ (head_of progress.db).epoch) ⊎ (epoch + (if b then 1 else 0) ≡ (head_of progress.db).epoch + 1)
    by true = inr (ap (λ n. n + 1) current.epoch_is)
    by false = inl (omega (arith, current.epoch_is))

-- or in the present epoch
pub ready_now : (task : Task) (progress : Progress) (applied epoch : ℕ) → IsCurrent task applied epoch progress → IsReady task epoch progress
ready_now task progress applied epoch current = record {
  gathers = current.gathers;
  images = current.images;
  epochs = current.epochs;
  drains = current.drains;
  works = current.works;
  run = current.run;
  epoch_is = inl current.epoch_is;
}

-- a batch that was noted
pub current_noted : (task : Task) (before after : Progress) (applied epoch : ℕ) (batch : Sent) → IsTask task → applied ≤ length (records_of task) → length batch.entries ≤ MOST_SAMPLES → IsCurrent task applied epoch before
    → after ≡ record before { gathered = after.gathered; noted = after.noted }
    → after.noted.items ≡ before.noted.items ++ drained (records_of task) applied epoch batch ∷ []
    → Gathers after.gathered (viewed task.trace).images (records_of task) (before.noted.items ++ drained (records_of task) applied epoch batch ∷ [])
    → ImagesAreIn (viewed task.trace).images after.gathered → EpochsAreUpTo epoch after.gathered
    → IsCurrent task applied epoch after
current_noted task before after applied epoch batch is_task within few current only noted gathers images epochs =
    subst (λ p. IsCurrent task applied epoch p) (sym only) (record {
      mappings = current.mappings;
      gathers = subst (λ ds. Gathers after.gathered (viewed task.trace).images (records_of task) ds) (sym noted) gathers;
      images = images;
      epochs = epochs;
      drains = subst (λ ds. All IsDrained ds) (sym noted) (All-push IsDrained before.noted.items _ current.drains (record {
        position = omega (arith, within, is_task.few);
        size = few;
        flags = length-map batch.entries (is_known (records_of task) applied);
      }));
      works = current.works;
      run = current.run;
      epoch_is = current.epoch_is;
      part = current.part;
    })

-- no more parts ended than there are
pub part_most : (records : List Record) (applied : ℕ) → part_of records applied ≤ count_by ends_part records
part_most records applied = sum_by-take-le (λ n. cond (ends_part n) 1 0) records applied

-- the last epoch of a head
pub epoch_most : (h : Head) → is_in_range h ≡ true → h.epoch ≤ 65536
epoch_most h range = let r = ranges_of h range in omega (arith, r.epoch, r.count)

-- before the first step
pub sound_start : (task : Task) (progress : Progress) → progress.applied ≡ 0 → progress.asking ≡ false → length progress.flushes.items ≡ (viewed task.trace).cpus
    → progress.epoch ≡ (head_of progress.db).epoch → is_in_range (head_of progress.db) ≡ true
    → StandsFor progress.map [] → Gathers progress.gathered (viewed task.trace).images (records_of task) [] → ImagesAreIn (viewed task.trace).images progress.gathered → EpochsAreUpTo progress.epoch progress.gathered
    → progress.noted.items ≡ [] → failed_of progress.db ≡ None → task.run ≡ (head_of progress.db).runs + 1 → progress.part ≡ 0 → IsSound task progress
sound_start task progress applied asking flushes epoch range stands gathers images epochs noted works run part = record {
  stands = record { within = omega (arith, applied); need = λ asks. absurd (never asks) };
  flushes = flushes;
  epochs = omega (arith, epoch, epoch_most (head_of progress.db) range);
  current = λ e. record {
    mappings = subst (λ n. StandsFor progress.map (take n (records_of task))) (sym applied) stands;
    gathers = subst (λ ds. Gathers progress.gathered (viewed task.trace).images (records_of task) ds) (sym noted) gathers;
    images = images;
    epochs = epochs;
    drains = subst (λ ds. All IsDrained ds) (sym noted) (λ k d lt. absurd (omega (arith, lt)));
    works = works;
    run = inr run;
    epoch_is = epoch;
    part = part ∙ sym (ap (λ n. part_of (records_of task) n) applied);
  };
}
  where
    never : progress.asking ≡ true → ⊥
    never asks = cc

-- one record further
pub sound_stepped : (task : Task) (before mid after : Progress) (notice : Record) → IsTask task → IsSound task before → slice_get (records_of task) before.applied ≡ Some notice
    → mid ≡ record before { db = mid.db; map = mid.map; gathered = mid.gathered; part = mid.part; settled = mid.settled; noted = mid.noted; failure = mid.failure }
    → after ≡ record mid { applied = mid.applied + 1; asking = false; epoch = epoch_next mid.epoch notice }
    → (mid.failure ≡ None → IsCurrent task (before.applied + 1) (epoch_next before.epoch notice) mid)
    → IsSound task after
sound_stepped task before mid after notice is_task sound there only is current = subst (λ p. IsSound task p) (sym is) (record {
  stands = record { within = omega (arith, place, (take_next (records_of task) before.applied notice there).1); need = λ asks. absurd (cc) };
  flushes = ap (λ p. length p.flushes.items) only ∙ sound.flushes;
  epochs = omega (arith, place, era, sound.epochs, at_most (begins_epoch notice));
  current = λ e. current_at (current e);
})
  where
    place : mid.applied ≡ before.applied
    place = ap (λ p. p.applied) only

    era : mid.epoch ≡ before.epoch
    era = ap (λ p. p.epoch) only

    at_most : (b : Bool) → (if b then 1 else 0) ≤ 1
    at_most true = omega arith
    at_most false = omega arith

    current_in : IsCurrent task (mid.applied + 1) (epoch_next mid.epoch notice) mid → IsCurrent task (mid.applied + 1) (epoch_next mid.epoch notice) (record mid { applied = mid.applied + 1; asking = false; epoch = epoch_next mid.epoch notice })
    current_in c = record {
      mappings = c.mappings;
      gathers = c.gathers;
      images = c.images;
      epochs = c.epochs;
      drains = c.drains;
      works = c.works;
      run = c.run;
      epoch_is = c.epoch_is;
      part = c.part;
    }

    current_at : IsCurrent task (before.applied + 1) (epoch_next before.epoch notice) mid → IsCurrent task (mid.applied + 1) (epoch_next mid.epoch notice) (record mid { applied = mid.applied + 1; asking = false; epoch = epoch_next mid.epoch notice })
    current_at c = current_in (subst (λ n. IsCurrent task (n + 1) (epoch_next mid.epoch notice) mid) (sym place) (subst (λ n. IsCurrent task (before.applied + 1) (epoch_next n notice) mid) (sym era) c))

-- ---- one field changed

-- a part may be committed, whatever the map is
pub ready_mapped : (task : Task) (progress : Progress) (map : LoadMap) (epoch : ℕ) → IsReady task epoch progress → IsReady task epoch (record progress { map = map })
ready_mapped task progress map epoch ready = record {
  gathers = ready.gathers;
  images = ready.images;
  epochs = ready.epochs;
  drains = ready.drains;
  works = ready.works;
  run = ready.run;
  epoch_is = ready.epoch_is;
}

-- the same books in a daemon that changed otherwise
same_books : (task : Task) (applied epoch : ℕ) (before after : Progress) → after ≡ record before { asking = after.asking; finished = after.finished; flushes = after.flushes } → IsCurrent task applied epoch before → IsCurrent task applied epoch after
same_books task applied epoch before after is current = subst (λ p. IsCurrent task applied epoch p) (sym is) (record {
  mappings = current.mappings;
  gathers = current.gathers;
  images = current.images;
  epochs = current.epochs;
  drains = current.drains;
  works = current.works;
  run = current.run;
  epoch_is = current.epoch_is;
  part = current.part;
})

pub sound_asked : (task : Task) (progress : Progress) → IsSound task progress → AsksInNeed task.pace (slice_get (records_of task) progress.applied) → IsSound task (record progress { asking = true })
sound_asked task progress sound need = record {
  stands = record { within = sound.stands.within; need = λ e. need };
  flushes = sound.flushes;
  epochs = sound.epochs;
  current = λ e. same_books task progress.applied progress.epoch progress (record progress { asking = true }) refl (sound.current e);
}

pub sound_finished : (task : Task) (progress : Progress) → IsSound task progress → IsSound task (record progress { finished = true })
sound_finished task progress sound = record {
  stands = record { within = sound.stands.within; need = sound.stands.need };
  flushes = sound.flushes;
  epochs = sound.epochs;
  current = λ e. same_books task progress.applied progress.epoch progress (record progress { finished = true }) refl (sound.current e);
}

-- no fault is kept
none_of : (o : Option DbFault) → is_some o ≡ false → o ≡ None
none_of None e = refl
none_of (Some fault) e = absurd (cc)

pub current_taken : (task : Task) (progress : Progress) (flushes : Vec Flush Global) → IsSound task progress → is_some progress.failure ≡ false → IsCurrent task progress.applied progress.epoch (record progress { flushes = flushes })
current_taken task progress flushes sound fine = same_books task progress.applied progress.epoch progress (record progress { flushes = flushes }) refl (sound.current (none_of progress.failure fine))

-- where a call answered, three of its promises together
pub all_three : {A B C X : Type 0} (result : Result Unit DbFault) → OnOk result A → OnOk result B → OnOk result C → (A → B → C → X) → OnOk result X
all_three (Ok done) a b c all = all a b c
all_three (Err fault) a b c all = tt

-- one record further, with its books or with a fault that is kept from now on
pub sound_moved : (task : Task) (before mid after : Progress) (notice : Record) → IsTask task → IsSound task before → slice_get (records_of task) before.applied ≡ Some notice
    → mid ≡ record before { db = mid.db; map = mid.map; gathered = mid.gathered; part = mid.part; settled = mid.settled; noted = mid.noted }
    → after ≡ record mid { applied = mid.applied + 1; asking = false; epoch = epoch_next mid.epoch notice }
    → IsCurrent task (before.applied + 1) (epoch_next before.epoch notice) mid → IsSound task after
sound_moved task before mid after notice is_task sound there only is current =
    sound_stepped task before mid after notice is_task sound there
    (only ∙ (λ k. record before { db = mid.db; map = mid.map; gathered = mid.gathered; part = mid.part; settled = mid.settled; noted = mid.noted; failure = ap (λ (p : Progress). p.failure) (sym only) k }))
    is (λ e. current)

pub sound_failed : (task : Task) (before mid after : Progress) (notice : Record) (fault : DbFault) → IsTask task → IsSound task before → slice_get (records_of task) before.applied ≡ Some notice
    → mid ≡ record before { db = mid.db; map = mid.map; gathered = mid.gathered; part = mid.part; settled = mid.settled; noted = mid.noted }
    → after ≡ record mid { applied = mid.applied + 1; asking = false; epoch = epoch_next mid.epoch notice; failure = Some fault }
    → IsSound task after
sound_failed task before mid after notice fault is_task sound there only is =
    sound_stepped task before (record mid { failure = Some fault }) after notice is_task sound there
    (ap (λ (p : Progress). record p { failure = Some fault }) only) is (λ e. absurd (never e))
  where
    never : Some fault ≡ None → ⊥
    never e = cc
