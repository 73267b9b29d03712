-- What the daemon knows of its drains is kept by its doings.
use Rattle.std.proofs.Common.{◌≡◌, ℕ, ◌+◌, ◌%◌, ◌≤◌, List, [], ◌∷◌, ◌++◌, length, take, refl, sym, ◌∙◌, ap, subst, arith, inl, inr, Bool, true, false, if◌then◌else◌, Some, Option, eqb, leb, eqb-true, leb-true, length-append, length-take}
use Rattle.std.specs.Prelude.{slice_get}
use Rattle.std.proofs.lemmas.Bool.{cond_both, cond-true, cond-false}
use Rattle.std.proofs.lemmas.List.{map-append, length-map, take-append-le}
use Rattle.sample_key.specs.Sent.{Sent}
use Rattle.sample_key.specs.declared.losses.Pace.{Pace}
use Rattle.trace_model.specs.declared.notices.Record.{Record}
use Rattle.driver_model.specs.Lists.{AllOf, SomeOf}
use Rattle.driver_model.specs.Handover.{FarSide, WasRung, last_from, rung_of, far_took_buffer, far_took_table, far_gave_buffer, far_gave_table}
use Rattle.driver_laws.proofs.Lists.{append-nil, all_push, all_map, some_push}
use Rattle.database_model.specs.Runs.{Drained}
use Rattle.run_model.specs.Daemon.{Daemon, needs_flush, in_force, flush_before, answering, reaches, is_flushed, drain_of, noted, move, rungs_before, rungs_of}
use Rattle.run_model.specs.Shares.{batches_in}
use Rattle.run_model.specs.Validity.{flushes_of, answers_owed}
use Rattle.run_model.specs.Books.{StandsWell}
use Rattle.run_laws.proofs.Basics.{all_take, last_push}
use Rattle.run_laws.proofs.Owed.{asked_before, asked_more, asked_same, asked_all, owed_after, owed_now}
use Rattle.run_laws.proofs.Draining.{both_parts}
use Rattle.run_joins.specs.Joins.{IsAsked, Completes, AreCollected}
use Rattle.run_joins.specs.Collecting.{Collects, bell_at}
use Rattle.run_joins.proofs.Rising.{IsAmong}
use Rattle.run_joins.proofs.Joining.{all_among, among_split}

-- what is among a list is among a longer one
among_left : (xs ys : List ℕ) (x : ℕ) → IsAmong xs x → IsAmong (xs ++ ys) x
among_left [] ys x some = absurd some
among_left (y ∷ xs) ys x (inl e) = inl e
among_left (y ∷ xs) ys x (inr some) = inr (among_left xs ys x some)

among_right : (xs ys : List ℕ) (x : ℕ) → IsAmong ys x → IsAmong (xs ++ ys) x
among_right [] ys x some = some
among_right (y ∷ xs) ys x some = inr (among_right xs ys x some)

some_map : {A : Type 0} (P Q : A → Type 0) → ((x : A) → P x → Q x) → (xs : List A) → SomeOf P xs → SomeOf Q xs
some_map P Q f [] some = absurd some
some_map P Q f (x ∷ xs) (inl p) = inl (f x p)
some_map P Q f (x ∷ xs) (inr some) = inr (some_map P Q f xs some)

-- a flush stays complete where more batches of buffers are drained
complete_first : (first second : List Drained) (more : Drained) (value : ℕ) (t : Drained) → Completes first second value t → Completes (first ++ more ∷ []) second value t
complete_first first second more value t c = record {
  answers = c.answers;
  at = c.at;
  count0 = omega (arith, c.count0, length-append first (more ∷ []));
  count1 = c.count1;
  before0 = subst (λ (z : List Drained). AllOf (λ e. flush_before e.at ≤ value) z) (sym (take-append-le t.batch.note.sent0 first (more ∷ []) c.count0)) c.before0;
  before1 = c.before1;
}

complete_second : (first second : List Drained) (more : Drained) (value : ℕ) (t : Drained) → Completes first second value t → Completes first (second ++ more ∷ []) value t
complete_second first second more value t c = record {
  answers = c.answers;
  at = c.at;
  count0 = c.count0;
  count1 = omega (arith, c.count1, length-append second (more ∷ []));
  before0 = c.before0;
  before1 = subst (λ (z : List Drained). AllOf (λ e. flush_before e.at ≤ value) z) (sym (take-append-le t.batch.note.sent1 second (more ∷ []) c.count1)) c.before1;
}

-- what was drained and taken, with one batch more
taken_more : (drains : List Drained) (taken : List Sent) (drain : Drained) → batches_in drains ≡ taken → batches_in (drains ++ drain ∷ []) ≡ taken ++ drain.batch ∷ []
taken_more drains taken drain same =
    map-append (λ (d : Drained). d.batch) drains (drain ∷ []) ∙ ap {B = List Sent} (λ (z : List Sent). z ++ drain.batch ∷ []) same

-- a batch of buffer 0
pub collects_first : (pace : Pace) (records : List Record) (daemon : Daemon) (first second third : List Drained) (far : FarSide) (batch : Sent)
    → Collects pace records daemon first second third far
    → Collects pace records (noted records daemon batch) (first ++ drain_of records daemon batch ∷ []) second third (far_gave_buffer (far_took_buffer far 0 batch) 0)
collects_first pace records daemon first second third far batch holds =
    let drain : Drained = drain_of records daemon batch in
    record {
      taken0 = taken_more first far.first.taken drain holds.taken0;
      taken1 = holds.taken1;
      taken2 = holds.taken2;
      before0 = all_push (λ d. d.at ≤ daemon.applied) first drain holds.before0 (omega arith);
      before1 = holds.before1;
      before2 = holds.before2;
      collected = record {
        asked = holds.collected.asked;
        complete = all_map (λ x. SomeOf (Completes first second x) third) (λ x. SomeOf (Completes (first ++ drain ∷ []) second x) third)
            (λ x some. some_map (Completes first second x) (Completes (first ++ drain ∷ []) second x) (λ t c. complete_first first second drain x t c) third some)
            (flushes_of pace 0 (take daemon.applied records)) holds.collected.complete;
      };
    }

-- a batch of buffer 1
pub collects_second : (pace : Pace) (records : List Record) (daemon : Daemon) (first second third : List Drained) (far : FarSide) (batch : Sent)
    → Collects pace records daemon first second third far
    → Collects pace records (noted records daemon batch) first (second ++ drain_of records daemon batch ∷ []) third (far_gave_buffer (far_took_buffer far 1 batch) 1)
collects_second pace records daemon first second third far batch holds =
    let drain : Drained = drain_of records daemon batch in
    record {
      taken0 = holds.taken0;
      taken1 = taken_more second far.second.taken drain holds.taken1;
      taken2 = holds.taken2;
      before0 = holds.before0;
      before1 = all_push (λ d. d.at ≤ daemon.applied) second drain holds.before1 (omega arith);
      before2 = holds.before2;
      collected = record {
        asked = holds.collected.asked;
        complete = all_map (λ x. SomeOf (Completes first second x) third) (λ x. SomeOf (Completes first (second ++ drain ∷ []) x) third)
            (λ x some. some_map (Completes first second x) (Completes first (second ++ drain ∷ []) x) (λ t c. complete_second first second drain x t c) third some)
            (flushes_of pace 0 (take daemon.applied records)) holds.collected.complete;
      };
    }

-- an odd value that was rung while records were put in force asked for a flush
rung_asked : (pace : Pace) (number x : ℕ) (records : List Record) → x % 2 ≡ 1 → IsAmong (rungs_before pace number records) x → IsAmong (flushes_of pace number records) x
rung_asked pace number x [] odd some = absurd some
rung_asked pace number x (notice ∷ records) odd some =
    cond_both (needs_flush pace notice) (flush_before number ∷ in_force (number + 1) ∷ []) (in_force (number + 1) ∷ [])
    (λ (z : List ℕ). IsAmong (z ++ rungs_before pace (number + 1) records) x → IsAmong (flushes_of pace number (notice ∷ records)) x)
    (λ e s. subst (λ (z : List ℕ). IsAmong z x) (sym (cond-true (needs_flush pace notice) (flush_before number ∷ flushes_of pace (number + 1) records) (flushes_of pace (number + 1) records) e))
    (asks_first s (λ t. rung_asked pace (number + 1) x records odd t)))
    (λ e s. subst (λ (z : List ℕ). IsAmong z x) (sym (cond-false (needs_flush pace notice) (flush_before number ∷ flushes_of pace (number + 1) records) (flushes_of pace (number + 1) records) e))
    (asks_none s (λ t. rung_asked pace (number + 1) x records odd t))) some
  where
    asks_none : IsAmong (in_force (number + 1) ∷ rungs_before pace (number + 1) records) x
        → (IsAmong (rungs_before pace (number + 1) records) x → IsAmong (flushes_of pace (number + 1) records) x) → IsAmong (flushes_of pace (number + 1) records) x
    asks_none (inl e) f = absurd (omega (arith, odd))
    asks_none (inr s) f = f s

    asks_first : IsAmong (flush_before number ∷ in_force (number + 1) ∷ rungs_before pace (number + 1) records) x
        → (IsAmong (rungs_before pace (number + 1) records) x → IsAmong (flushes_of pace (number + 1) records) x)
        → IsAmong (flush_before number ∷ flushes_of pace (number + 1) records) x
    asks_first (inl e) f = inl e
    asks_first (inr s) f = inr (asks_none s f)

-- what was rung is no higher than where the records end
rungs_low : (pace : Pace) (number most : ℕ) (records : List Record) → number + length records ≤ most → AllOf (λ x. x ≤ flush_before most) (rungs_before pace number records)
rungs_low pace number most [] h = tt
rungs_low pace number most (notice ∷ records) h =
    cond_both (needs_flush pace notice) (flush_before number ∷ in_force (number + 1) ∷ []) (in_force (number + 1) ∷ [])
    (λ (z : List ℕ). AllOf (λ x. x ≤ flush_before most) (z ++ rungs_before pace (number + 1) records))
    (λ e. (omega arith, (omega arith, rungs_low pace (number + 1) most records (omega arith))))
    (λ e. (omega arith, rungs_low pace (number + 1) most records (omega arith)))

-- a table batch whose answer was rung
pub asked_drain : (pace : Pace) (records : List Record) (daemon : Daemon) (batch : Sent) → StandsWell pace records daemon
    → WasRung batch.note.answers (rungs_of pace records daemon) → IsAsked pace records (drain_of records daemon batch)
asked_drain pace records daemon batch stands (inl none) = record { owed = λ odd. absurd (omega (arith, none)); by_then = omega (arith, none) }
asked_drain pace records daemon batch stands (inr some) = asked_at daemon.asking refl some
  where
    x : ℕ
    x = batch.note.answers

    before : List Record
    before = take daemon.applied records

    low : AllOf (λ y. y ≤ flush_before daemon.applied) (rungs_before pace 0 before)
    low = rungs_low pace 0 daemon.applied before (omega (arith, length-take daemon.applied records))

    asked_at : (t : Bool) → daemon.asking ≡ t → IsAmong (rungs_before pace 0 before ++ (if t then flush_before daemon.applied ∷ [] else [])) x
        → IsAsked pace records (drain_of records daemon batch)
    asked_at false e s =
        let r : IsAmong (rungs_before pace 0 before) x = subst (λ (z : List ℕ). IsAmong z x) (append-nil (rungs_before pace 0 before)) s in
        let after = owed_after pace records daemon.applied in
        record {
          owed = λ odd. subst (λ (z : List ℕ). IsAmong z x) after.1 (among_left (asked_before pace records daemon.applied) after.0 x (rung_asked pace 0 x before odd r));
          by_then = all_among (λ y. y ≤ flush_before daemon.applied) (rungs_before pace 0 before) x low r;
        }
    asked_at true e s =
        let after = owed_now pace records daemon.applied stands.within (stands.need e) in
        let last = flush_before daemon.applied ∷ [] in
        elim (among_split (rungs_before pace 0 before) last x s) as (λ z. IsAsked pace records (drain_of records daemon batch)) [
          | inl r ↦ record {
            owed = λ odd. subst (λ (z : List ℕ). IsAmong z x) after.1 (among_left (asked_before pace records daemon.applied ++ last) after.0 x
                (among_left (asked_before pace records daemon.applied) last x (rung_asked pace 0 x before odd r)));
            by_then = all_among (λ y. y ≤ flush_before daemon.applied) (rungs_before pace 0 before) x low r;
          }
          | inr r ↦ record {
            owed = λ odd. subst (λ (z : List ℕ). IsAmong z x) after.1 (among_left (asked_before pace records daemon.applied ++ last) after.0 x
                (among_right (asked_before pace records daemon.applied) last x r));
            by_then = all_among (λ y. y ≤ flush_before daemon.applied) last x (omega arith, tt) r;
          }
        ]

-- a table batch
pub collects_third : (pace : Pace) (records : List Record) (daemon : Daemon) (first second third : List Drained) (far : FarSide) (batch : Sent) (turn : ℕ)
    → StandsWell pace records daemon → WasRung batch.note.answers (rungs_of pace records daemon) → Collects pace records daemon first second third far
    → Collects pace records (noted records daemon batch) first second (third ++ drain_of records daemon batch ∷ []) (far_gave_table (far_took_table far batch turn))
collects_third pace records daemon first second third far batch turn stands rung holds =
    let drain : Drained = drain_of records daemon batch in
    record {
      taken0 = holds.taken0;
      taken1 = holds.taken1;
      taken2 = taken_more third far.third.taken drain holds.taken2;
      before0 = holds.before0;
      before1 = holds.before1;
      before2 = all_push (λ d. d.at ≤ daemon.applied) third drain holds.before2 (omega arith);
      collected = record {
        asked = all_push (IsAsked pace records) third drain holds.collected.asked (asked_drain pace records daemon batch stands rung);
        complete = all_map (λ x. SomeOf (Completes first second x) third) (λ x. SomeOf (Completes first second x) (third ++ drain ∷ []))
            (λ x some. some_push (Completes first second x) third drain some) (flushes_of pace 0 (take daemon.applied records)) holds.collected.complete;
      };
    }

-- the drain that answers a value where its flush is complete
found_drain : (value applied : ℕ) (far : FarSide) (third : List Drained) → reaches far (answering value (batches_in third)) ≡ true → AllOf (λ t. t.at ≤ applied) third
    → SomeOf (λ t. (t.batch.note.answers ≡ value) × (reaches far (Some t.batch) ≡ true) × (t.at ≤ applied)) third
found_drain value applied far [] found before = absurd cc
found_drain value applied far (t ∷ ts) found before =
    cond_both (eqb t.batch.note.answers value) (Some t.batch) (answering value (batches_in ts))
    (λ (o : Option Sent). reaches far o ≡ true → SomeOf (λ u. (u.batch.note.answers ≡ value) × (reaches far (Some u.batch) ≡ true) × (u.at ≤ applied)) (t ∷ ts))
    (λ e h. inl (eqb-true t.batch.note.answers value e, h, before.0)) (λ e h. inr (found_drain value applied far ts h before.1)) found

-- so it is complete by what was drained
completed : (pace : Pace) (records : List Record) (daemon : Daemon) (first second third : List Drained) (far : FarSide) → is_flushed (flush_before daemon.applied) far ≡ true
    → Collects pace records daemon first second third far → SomeOf (Completes first second (flush_before daemon.applied)) third
completed pace records daemon first second third far flushed holds =
    let value = flush_before daemon.applied in
    let l0 : length far.first.taken ≡ length first = ap length (sym holds.taken0) ∙ length-map first (λ (d : Drained). d.batch) in
    let l1 : length far.second.taken ≡ length second = ap length (sym holds.taken1) ∙ length-map second (λ (d : Drained). d.batch) in
    some_map (λ t. (t.batch.note.answers ≡ value) × (reaches far (Some t.batch) ≡ true) × (t.at ≤ daemon.applied)) (Completes first second value)
    (λ t h.
    let parts = both_parts (leb t.batch.note.sent0 (length far.first.taken)) (leb t.batch.note.sent1 (length far.second.taken)) h.1 in
    record {
      answers = h.0;
      at = omega (arith, h.2);
      count0 = omega (arith, leb-true t.batch.note.sent0 (length far.first.taken) parts.0);
      count1 = omega (arith, leb-true t.batch.note.sent1 (length far.second.taken) parts.1);
      before0 = all_take (λ e. flush_before e.at ≤ value) t.batch.note.sent0 first
          (all_map (λ e. e.at ≤ daemon.applied) (λ e. flush_before e.at ≤ value) (λ e b. omega arith) first holds.before0);
      before1 = all_take (λ e. flush_before e.at ≤ value) t.batch.note.sent1 second
          (all_map (λ e. e.at ≤ daemon.applied) (λ e. flush_before e.at ≤ value) (λ e b. omega arith) second holds.before1);
    }) third
    (found_drain value daemon.applied far third (subst (λ (z : List Sent). reaches far (answering value z) ≡ true) (sym holds.taken2) flushed) holds.before2)

-- the next record
pub collects_moved : (pace : Pace) (records : List Record) (daemon : Daemon) (notice : Record) (first second third : List Drained) (far : FarSide)
    → slice_get records daemon.applied ≡ Some notice → (needs_flush pace notice ≡ true → is_flushed (flush_before daemon.applied) far ≡ true)
    → Collects pace records daemon first second third far → Collects pace records (move daemon notice).daemon first second third far
collects_moved pace records daemon notice first second third far there flushed holds = record {
  taken0 = holds.taken0;
  taken1 = holds.taken1;
  taken2 = holds.taken2;
  before0 = all_map (λ d. d.at ≤ daemon.applied) (λ d. d.at ≤ daemon.applied + 1) (λ d h. omega arith) first holds.before0;
  before1 = all_map (λ d. d.at ≤ daemon.applied) (λ d. d.at ≤ daemon.applied + 1) (λ d h. omega arith) second holds.before1;
  before2 = all_map (λ d. d.at ≤ daemon.applied) (λ d. d.at ≤ daemon.applied + 1) (λ d h. omega arith) third holds.before2;
  collected = record {
    asked = holds.collected.asked;
    complete = by_need (needs_flush pace notice) refl;
  };
}
  where
    by_need : (t : Bool) → needs_flush pace notice ≡ t → AllOf (λ x. SomeOf (Completes first second x) third) (asked_before pace records (daemon.applied + 1))
    by_need true e =
        subst (λ (z : List ℕ). AllOf (λ x. SomeOf (Completes first second x) third) z) (sym (asked_more pace records daemon.applied notice there e))
        (all_push (λ x. SomeOf (Completes first second x) third) (asked_before pace records daemon.applied) (flush_before daemon.applied) holds.collected.complete
        (completed pace records daemon first second third far (flushed e) holds))
    by_need false e =
        subst (λ (z : List ℕ). AllOf (λ x. SomeOf (Completes first second x) third) z) (sym (asked_same pace records daemon.applied notice there e)) holds.collected.complete

-- the end
pub collects_all : (pace : Pace) (records : List Record) (daemon : Daemon) (first second third : List Drained) (far : FarSide) → daemon.applied ≡ length records
    → is_flushed (flush_before daemon.applied) far ≡ true → Collects pace records daemon first second third far
    → AreCollected pace records (answers_owed pace records) first second third
collects_all pace records daemon first second third far all flushed holds = record {
  asked = holds.collected.asked;
  complete = subst (λ (z : List ℕ). AllOf (λ x. SomeOf (Completes first second x) third) z) (asked_all pace records daemon.applied all)
      (all_push (λ x. SomeOf (Completes first second x) third) (asked_before pace records daemon.applied) (flush_before daemon.applied) holds.collected.complete
      (completed pace records daemon first second third far flushed holds));
}

-- the value rung last while records were put in force
rungs_last : (pace : Pace) (least number : ℕ) (records : List Record) → least ≡ in_force number → last_from least (rungs_before pace number records) ≡ in_force (number + length records)
rungs_last pace least number [] e = e ∙ ap (λ (n : ℕ). in_force n) (omega arith)
rungs_last pace least number (notice ∷ records) e =
    cond_both (needs_flush pace notice) (flush_before number ∷ in_force (number + 1) ∷ []) (in_force (number + 1) ∷ [])
    (λ (z : List ℕ). last_from least (z ++ rungs_before pace (number + 1) records) ≡ in_force (number + length (notice ∷ records)))
    (λ n. rungs_last pace (in_force (number + 1)) (number + 1) records refl ∙ ap (λ (n : ℕ). in_force n) (omega arith))
    (λ n. rungs_last pace (in_force (number + 1)) (number + 1) records refl ∙ ap (λ (n : ℕ). in_force n) (omega arith))

pub bell_known : (pace : Pace) (records : List Record) (daemon : Daemon) → daemon.applied ≤ length records → rung_of (rungs_of pace records daemon) ≡ bell_at daemon
bell_known pace records daemon within = by_asking daemon.asking
  where
    before : List Record
    before = take daemon.applied records

    by_asking : (t : Bool) → rung_of (rungs_before pace 0 before ++ (if t then flush_before daemon.applied ∷ [] else [])) ≡ (if t then flush_before daemon.applied else in_force daemon.applied)
    by_asking true = last_push 0 (rungs_before pace 0 before) (flush_before daemon.applied)
    by_asking false =
        ap (λ (z : List ℕ). rung_of z) (append-nil (rungs_before pace 0 before)) ∙ rungs_last pace 0 0 before refl
        ∙ ap (λ (n : ℕ). in_force n) (omega (arith, length-take daemon.applied records))
