-- Which part of its run a daemon has noted, and that it is the next one of the whole run's record.
use Rattle.std.proofs.Common.{◌≡◌, refl, sym, ◌∙◌, ap, subst, ℕ, zero, suc, ◌+◌, ◌<◌, ◌≤◌, List, [], ◌∷◌, ◌++◌, arith, Bool, true, false, if◌then◌else◌, Some, None, Option, inl, inr, eqb, eq-eqb}
use Rattle.std.specs.Prelude.{slice_get, is_none, ◌&&◌, take, filter}
use Rattle.std.specs.List.{count_by}
use Rattle.std.proofs.lemmas.Bool.{cond-true, cond-false}
use Rattle.std.proofs.lemmas.List.Elements.{filter-append}
use Rattle.std.proofs.lemmas.List.Sums.{sum_by-cons, sum_by-take-le}
use Rattle.sample_key.specs.Sent.{Sent}
use Rattle.sample_key.specs.declared.losses.Loss.{Loss}
use Rattle.sample_key.specs.declared.losses.Pace.{Pace}
use Rattle.trace_model.specs.Parts.{begins_epoch, ends_part, epoch_after, part_of}
use Rattle.trace_model.specs.Recording.{Recording}
use Rattle.trace_model.specs.Streams.{records_in}
use Rattle.trace_model.specs.declared.notices.Record.{Record}
use Rattle.trace_model.specs.declared.notices.Record.TheVariants.{Scan, Load, Unload, Exec, Exit, Kernel, Drain, Merge, Epoch}
use Rattle.driver_model.specs.Lists.{AllOf}
use Rattle.database_model.specs.Runs.{Drained, Recorded, Segment}
use Rattle.database_state.specs.declared.faults.DbFault.{DbFault}
use Rattle.database_state.specs.Heads.{Head}
use Rattle.growth_model.specs.Grown.{epoch_after_parts}
use Rattle.run_model.specs.Books.{IsBefore}
use Rattle.run_model.specs.Daemon.{Advancing, Daemon, drain_of}
use Rattle.run_model.specs.Shares.{drains_in_part, last_part}
use Rattle.run_laws.proofs.Basics.{eqb_apart}
use Rattle.run_laws.proofs.Growing.{part_later}
use Rattle.run_laws.proofs.Keeping.{count_next}
use Rattle.dcpid_core.specs.Advancing.{MovesOn, commits, ends_next, is_moved}
use Rattle.dcpid_core.specs.Collection.{Collection}
use Rattle.dcpid_core.specs.Parts.{part_in}
use Rattle.dcpid_core.specs.Storing.{Part}
use Rattle.dcpid_core.specs.Polling.{drained}
use Rattle.replay_drive.specs.Growing.{KeepsParts}
use Rattle.replay_drive.proofs.Polling.{TakenBy}
use Rattle.replay_drive.proofs.AdvanceStands.{Kind, Moves, Waits, Ends, Asks}
use Rattle.replay_drive.proofs.StoreKept.{IsNextPart}

-- ---- records by parts

-- a record that ends no part begins no epoch
begins_none : (notice : Record) → ends_part notice ≡ false → begins_epoch notice ≡ false
begins_none (Scan pid base size image) e = refl
begins_none (Load pid base size image) e = refl
begins_none (Unload pid base size) e = refl
begins_none (Exec pid base size image) e = refl
begins_none (Exit pid) e = refl
begins_none (Kernel base size image) e = refl
begins_none Drain e = refl
begins_none Merge e = refl
begins_none Epoch e = absurd cc

-- the epochs that the first records begin are those that the ends of their parts begin
epochs : (n : ℕ) (rs : List Record) → count_by begins_epoch (take n rs) ≡ count_by begins_epoch (take (count_by ends_part (take n rs)) (filter ends_part rs))
epochs zero rs = refl
epochs (suc n) [] = refl
epochs (suc n) (x ∷ rs) =
    sum_by-cons (λ r. if begins_epoch r then 1 else 0) x (take n rs)
    ∙ by (ends_part x) (epochs n rs) refl
    ∙ ap (λ m. count_by begins_epoch (take m (filter ends_part (x ∷ rs)))) (sym (sum_by-cons (λ r. if ends_part r then 1 else 0) x (take n rs)))
  where
    ends : ℕ
    ends = count_by ends_part (take n rs)

    others : List Record
    others = filter ends_part rs

    by : (t : Bool) → count_by begins_epoch (take n rs) ≡ count_by begins_epoch (take ends others) → ends_part x ≡ t
        → (if begins_epoch x then 1 else 0) + count_by begins_epoch (take n rs) ≡ count_by begins_epoch (take ((if t then 1 else 0) + ends) (if t then x ∷ others else others))
    by true rest e =
        let one : suc ends ≡ 1 + ends = omega arith in
        ap (λ m. (if begins_epoch x then 1 else 0) + m) rest ∙ sym (sum_by-cons (λ r. if begins_epoch r then 1 else 0) x (take ends others))
        ∙ ap (λ m. count_by begins_epoch (take m (x ∷ others))) one
    by false rest e =
        let none : 0 + ends ≡ ends = omega arith in
        let same : 0 + count_by begins_epoch (take n rs) ≡ count_by begins_epoch (take n rs) = omega arith in
        ap (λ (b : Bool). (if b then 1 else 0) + count_by begins_epoch (take n rs)) (begins_none x e) ∙ same ∙ rest
        ∙ ap (λ m. count_by begins_epoch (take m others)) (sym none)

pub epoch_by_parts : (first_epoch : ℕ) (records : List Record) (n : ℕ) → epoch_after first_epoch (take n records) ≡ epoch_after_parts first_epoch records (part_of records n)
epoch_by_parts first_epoch records n = ap (λ m. first_epoch + m) (epochs n records)

-- there is no later part than the last
part_within : (records : List Record) (n : ℕ) → part_of records n ≤ last_part records
part_within records n = sum_by-take-le (λ r. if ends_part r then 1 else 0) records n

-- ---- drains by parts

drains_push_part : (records : List Record) (part : ℕ) (ds : List Drained) (d : Drained) → part_of records d.at ≡ part → drains_in_part records part (ds ++ d ∷ []) ≡ drains_in_part records part ds ++ d ∷ []
drains_push_part records part ds d is =
    filter-append (λ (x : Drained). eqb (part_of records x.at) part) ds (d ∷ [])
    ∙ ap {B = List Drained} (λ (z : List Drained). drains_in_part records part ds ++ z) (cond-true (eqb (part_of records d.at) part) (d ∷ []) [] (eq-eqb (part_of records d.at) part is))

-- drains up to here are of no later part
none_later : (records : List Record) (part n : ℕ) (ds : List Drained) → part_of records n < part → AllOf (λ d. d.at ≤ n) ds → drains_in_part records part ds ≡ []
none_later records part n [] lt all = refl
none_later records part n (d ∷ ds) lt all =
    let at : part_of records d.at ≤ part_of records n = part_later records d.at n all.0 in
    cond-false (eqb (part_of records d.at) part) (d ∷ drains_in_part records part ds) (drains_in_part records part ds)
    (eqb_apart (part_of records d.at) part (λ e. omega (arith, at, lt, e)))
    ∙ none_later records part n ds lt all.1

pub positions : (daemon : Daemon) (ds : List Drained) → AllOf (IsBefore daemon) ds → AllOf (λ d. d.at ≤ daemon.applied) ds
positions daemon [] all = tt
positions daemon (d ∷ ds) all = (all.0.0, positions daemon ds all.1)

-- ---- a poll

some_none : {A B : Type 0} (o : Option A) (x : A) → o ≡ Some x → o ≡ None → B
some_none o x a b = cc

parts_drained : (trace : Recording) (d : Collection) (cpu cell : ℕ) (batch : Sent) → d.trace ≡ trace → d.failure ≡ None → KeepsParts trace d → KeepsParts trace (drained cpu cell batch d)
parts_drained trace d cpu cell batch is fine keeps = record {
  part = keeps.part;
  noted = λ still. ap (λ (z : List Drained). z ++ drain_of (records_in d.trace) d.state batch ∷ []) (keeps.noted fine)
      ∙ sym (drains_push_part (records_in trace) d.part d.state.drains (drain_of (records_in d.trace) d.state batch) (sym (keeps.part fine)));
}

pub parts_taken : (trace : Recording) (d e : Collection) (cpu cell : ℕ) (batch : Sent) → d.trace ≡ trace → TakenBy cpu cell batch d e → KeepsParts trace d → KeepsParts trace e
parts_taken trace d e cpu cell batch is (inl taken) keeps =
    subst (λ (z : Collection). KeepsParts trace z) (sym taken.1) (parts_drained trace d cpu cell batch is taken.0 keeps)
parts_taken trace d e cpu cell batch is (inr taken) keeps =
    record { part = λ none. some_none e.failure _ (ap (λ (z : Collection). z.failure) taken) none; noted = λ none. some_none e.failure _ (ap (λ (z : Collection). z.failure) taken) none }

-- ---- an advance

-- the part after an advance that committed none, and after one that committed one
part_moved : (pace : Pace) (trace : Recording) (d : Collection) (done : Advancing) → d.trace ≡ trace → d.failure ≡ None → Kind pace (records_in d.trace) d.state done → (b : Bool) → commits d done.answer ≡ b
    → part_of (records_in trace) done.daemon.applied ≡ part_of (records_in trace) d.state.applied + (if b then 1 else 0)
part_moved pace trace d done is fine (Waits same ring answer) b commit = stays (is_moved done.answer) answer.0 b commit
  where
    stays : (m : Bool) → m ≡ false → (b : Bool) → (m && is_none d.failure && ends_next (slice_get (records_in d.trace) d.state.applied)) ≡ b
        → part_of (records_in trace) done.daemon.applied ≡ part_of (records_in trace) d.state.applied + (if b then 1 else 0)
    stays true e b c = absurd cc
    stays false e true c = absurd cc
    stays false e false c = ap (λ (z : Daemon). part_of (records_in trace) z.applied) same ∙ omega arith
part_moved pace trace d done is fine (Ends same ring answer) b commit = stays (is_moved done.answer) answer.0 b commit
  where
    stays : (m : Bool) → m ≡ false → (b : Bool) → (m && is_none d.failure && ends_next (slice_get (records_in d.trace) d.state.applied)) ≡ b
        → part_of (records_in trace) done.daemon.applied ≡ part_of (records_in trace) d.state.applied + (if b then 1 else 0)
    stays true e b c = absurd cc
    stays false e true c = absurd cc
    stays false e false c = ap (λ (z : Daemon). part_of (records_in trace) z.applied) same ∙ omega arith
part_moved pace trace d done is fine (Asks was same ring answer) b commit = stays (is_moved done.answer) answer.0 b commit
  where
    stays : (m : Bool) → m ≡ false → (b : Bool) → (m && is_none d.failure && ends_next (slice_get (records_in d.trace) d.state.applied)) ≡ b
        → part_of (records_in trace) done.daemon.applied ≡ part_of (records_in trace) d.state.applied + (if b then 1 else 0)
    stays true e b c = absurd cc
    stays false e true c = absurd cc
    stays false e false c = ap (λ (z : Daemon). part_of (records_in trace) z.applied) same ∙ omega arith
part_moved pace trace d done is fine (Moves notice there needs same ring answer) b commit =
    let ends : ends_part notice ≡ b = whole (is_moved done.answer) answer.0 d.failure fine (slice_get (records_in d.trace) d.state.applied) there b commit in
    let here : slice_get (records_in trace) d.state.applied ≡ Some notice = subst (λ (t : Recording). slice_get (records_in t) d.state.applied ≡ Some notice) is there in
    ap (λ (z : Daemon). part_of (records_in trace) z.applied) same ∙ count_next ends_part (records_in trace) d.state.applied notice here
    ∙ ap (λ (t : Bool). part_of (records_in trace) d.state.applied + (if t then 1 else 0)) ends
  where
    whole : (m : Bool) → m ≡ true → (o : Option DbFault) → o ≡ None → (r : Option Record) → r ≡ Some notice → (b : Bool) → (m && is_none o && ends_next r) ≡ b → ends_part notice ≡ b
    whole false e o none r some b c = absurd cc
    whole true e (Some f) none r some b c = absurd cc
    whole true e None none None some b c = absurd cc
    whole true e None none (Some x) some b c = let same : notice ≡ x = cc in ap ends_part same ∙ c

-- no part was committed
pub parts_moved : {D : Type 0} (trace : Recording) (d e : Collection) (done : Advancing) (store after : D) → d.trace ≡ trace → (e.failure ≡ None → d.failure ≡ None)
    → Kind d.pace (records_in d.trace) d.state done → done.daemon.drains ≡ d.state.drains → commits d done.answer ≡ false → MovesOn d done store e after → KeepsParts trace d → KeepsParts trace e
parts_moved trace d e done store after is fine kind left commit moves keeps = record {
  part = λ none. ap (λ (z : Collection). z.part) moves.moved ∙ keeps.part (fine none) ∙ omega (arith, part_moved d.pace trace d done is (fine none) kind false commit)
      ∙ ap (λ (z : Collection). part_of (records_in trace) z.state.applied) (sym moves.moved);
  noted = λ none. ap (λ (z : Collection). z.noted) moves.moved ∙ keeps.noted (fine none)
      ∙ ap (λ (n : ℕ). drains_in_part (records_in trace) n d.state.drains) (ap (λ (z : Collection). z.part) (sym moves.moved))
      ∙ ap (λ (z : List Drained). drains_in_part (records_in trace) e.part z) (sym left ∙ ap (λ (z : Collection). z.state.drains) (sym moves.moved));
}

-- a part was committed
pub parts_ended : (trace : Recording) (d e : Collection) (done : Advancing) → d.trace ≡ trace → d.failure ≡ None
    → Kind d.pace (records_in d.trace) d.state done → done.daemon.drains ≡ d.state.drains → AllOf (λ x. x.at ≤ d.state.applied) d.state.drains
    → commits d done.answer ≡ true → e.state ≡ done.daemon → e.part ≡ d.part + 1 → e.noted ≡ [] → KeepsParts trace d → KeepsParts trace e
parts_ended trace d e done is fine kind left before commit state part noted keeps =
    let moved : part_of (records_in trace) done.daemon.applied ≡ part_of (records_in trace) d.state.applied + 1 = part_moved d.pace trace d done is fine kind true commit in
    let later : part_of (records_in trace) d.state.applied < e.part = omega (arith, keeps.part fine, part) in
    record {
      part = λ none. part ∙ ap (λ n. n + 1) (keeps.part fine) ∙ sym moved ∙ ap (λ (z : Daemon). part_of (records_in trace) z.applied) (sym state);
      noted = λ none. noted ∙ sym (none_later (records_in trace) e.part d.state.applied d.state.drains later before)
          ∙ ap (λ (z : List Drained). drains_in_part (records_in trace) e.part z) (sym left ∙ ap (λ (z : Daemon). z.drains) (sym state));
    }

-- segments of the same parts are the same
abbrev pub segment_with : ℕ → ℕ → Bool → ℕ → List Drained → List (List Loss) → Segment
segment_with run part last first drains losses = record { run = run; part = part; last = last; first_epoch = first; drains = drains; losses = losses }

pub segment_parts : {r1 r2 p1 p2 : ℕ} {l1 l2 : Bool} {f1 f2 : ℕ} {d1 d2 : List Drained} {x1 x2 : List (List Loss)} → r1 ≡ r2 → p1 ≡ p2 → l1 ≡ l2 → f1 ≡ f2 → d1 ≡ d2 → x1 ≡ x2
    → segment_with r1 p1 l1 f1 d1 x1 ≡ segment_with r2 p2 l2 f2 d2 x2
segment_parts r p l f d x = λ i. segment_with (r i) (p i) (l i) (f i) (d i) (x i)

-- and so are parts
abbrev pub part_with : Head → List (List ℕ) → List Record → ℕ → Segment → Part
part_with head images records epoch segment = record { images = images; records = records; head = head; epoch = epoch; segment = segment }

pub whole_part : (head : Head) {i1 i2 : List (List ℕ)} {r1 r2 : List Record} {e1 e2 : ℕ} {s1 s2 : Segment} → i1 ≡ i2 → r1 ≡ r2 → e1 ≡ e2 → s1 ≡ s2 → part_with head i1 r1 e1 s1 ≡ part_with head i2 r2 e2 s2
whole_part head images records epoch segment = λ i. part_with head (images i) (records i) (epoch i) (segment i)

-- it is the next part of this record, whose drains of that part are those of now once the part has ended
pub next_part : (trace : Recording) (kept : Recorded) (d : Collection) (done : Advancing)
    → d.trace ≡ trace → d.run ≡ kept.run → d.first_epoch ≡ kept.first_epoch → d.failure ≡ None → Kind d.pace (records_in d.trace) d.state done → commits d done.answer ≡ true
    → done.daemon.epoch ≡ epoch_after kept.first_epoch (take done.daemon.applied (records_in trace))
    → (d.part < part_of (records_in trace) done.daemon.applied → drains_in_part (records_in trace) d.part kept.drains ≡ drains_in_part (records_in trace) d.part d.state.drains)
    → KeepsParts trace d → IsNextPart trace kept d.part (part_in d done.daemon.epoch false [])
next_part trace kept d done is run_is first_is fine kind commit books stand keeps =
    let records = records_in trace in
    let moved : part_of records done.daemon.applied ≡ part_of records d.state.applied + 1 = part_moved d.pace trace d done is fine kind true commit in
    let now : part_of records done.daemon.applied ≡ d.part + 1 = moved ∙ ap (λ n. n + 1) (sym (keeps.part fine)) in
    let most : d.part + 1 ≤ last_part records = omega (arith, part_within records done.daemon.applied, now) in
    let mid : (eqb d.part (last_part records)) ≡ false = eqb_apart d.part (last_part records) (λ e. omega (arith, most, e)) in
    let mine : d.noted ≡ drains_in_part records d.part kept.drains = keeps.noted fine ∙ sym (stand (omega (arith, now))) in
    let at_epoch : done.daemon.epoch ≡ epoch_after_parts kept.first_epoch records (d.part + 1) =
    books ∙ epoch_by_parts kept.first_epoch records done.daemon.applied ∙ ap (λ n. epoch_after_parts kept.first_epoch records n) now in
    record {
      same = whole_part d.head (ap (λ (t : Recording). t.images) is) (ap records_in is) at_epoch
          (segment_parts run_is refl (sym mid) first_is mine (sym (cond-false (eqb d.part (last_part records)) kept.losses [] mid)));
      within = omega (arith, most);
    }
