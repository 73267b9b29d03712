-- What an advance leaves of the parts and of the store.
use Rattle.std.proofs.Common.{◌≡◌, refl, sym, ◌∙◌, ap, subst, ℕ, ◌+◌, ◌<◌, ◌≤◌, List, [], Bool, true, false, Some, None, Option, inl, inr}
use Rattle.std.specs.Prelude.{take}
use Rattle.sample_key.specs.declared.losses.Pace.TheVariants.{Free}
use Rattle.trace_model.specs.Parts.{epoch_after, part_of}
use Rattle.trace_model.specs.Recording.{Recording}
use Rattle.trace_model.specs.Streams.{records_in}
use Rattle.trace_model.specs.declared.notices.Step.{Step}
use Rattle.driver_model.specs.Lists.{AllOf}
use Rattle.database_model.specs.Runs.{Drained, Recorded}
use Rattle.store_io.specs.Files.{Files}
use Rattle.database_state.specs.Heads.{Head}
use Rattle.database_state.specs.declared.faults.DbFault.{DbFault}
use Rattle.lane_side.specs.Plain.{Plain}
use Rattle.cpu_lane.specs.Seen.{Seen}
use Rattle.run_model.specs.Daemon.{Advancing, Daemon}
use Rattle.run_model.specs.Running.{System, after_advance, after_steps, record_of}
use Rattle.run_model.specs.declared.advances.Advanced.{Advanced}
use Rattle.run_model.specs.Shares.{drains_in_part}
use Rattle.run_laws.proofs.Growing.{parts_stand}
use Rattle.run_laws.proofs.Systems.{SystemHolds}
use Rattle.dcpid_core.specs.Advancing.{Advances, EndsPart, FaultAfter, Outcome, advance_of, commits}
use Rattle.dcpid_core.specs.Counting.{AdvancesAsTheRun}
use Rattle.dcpid_core.specs.Collection.{Collection}
use Rattle.dcpid_core.specs.Parts.{part_in}
use Rattle.dcpid_core.specs.Storing.{HasFailed, IsCommitted, Part}
use Rattle.replay_drive.specs.Standing.{StandsAt}
use Rattle.replay_drive.specs.Growing.{KeepsParts, KeepsStore}
use Rattle.replay_drive.specs.Replaying.{FaultRests}
use Rattle.replay_drive.proofs.AdvanceStands.{Kind, none_before, is_none_none, both_hold, runs_advance}
use Rattle.replay_drive.proofs.PartsKept.{next_part, parts_ended, parts_moved, positions}
use Rattle.replay_drive.proofs.StoreKept.{FollowsOn, IsNextPart, store_fails, store_grows, store_rests}

-- what is kept of the parts and of the store
pub record KeepsAll {D : Type 0} (files : D → Option Files) (faults moment : D → ℕ) (left : D → ℕ → Files → Type 0) (trace : Recording) (kept : Recorded) (begin : Head) (start now : D) (d : Collection) : Type 0 where
  pub parts : KeepsParts trace d
  pub store : KeepsStore files faults moment left trace kept begin start now d.part d.head d.failure

-- where a fault is kept nothing is said of the parts
none_kept : (trace : Recording) (e : Collection) (fault : DbFault) → e.failure ≡ Some fault → KeepsParts trace e
none_kept trace e fault is = record { part = λ none. some_none e.failure fault is none; noted = λ none. some_none e.failure fault is none }
  where
    some_none : {A B : Type 0} (o : Option A) (x : A) → o ≡ Some x → o ≡ None → B
    some_none o x a b = cc

-- a fault after an advance that commits nothing
fault_rests : (o p : Option DbFault) (x : Advanced) → FaultAfter o x p → FaultRests o p
fault_rests (Some fault) p x h = h
fault_rests None p x (inl none) = inl none
fault_rests None p x (inr some) = inr some.1

-- the same store, of a daemon with these parts
pub store_as : {D : Type 0} (files : D → Option Files) (faults moment : D → ℕ) (left : D → ℕ → Files → Type 0) (trace : Recording) (kept : Recorded) (begin : Head) (start now : D) (p q : ℕ) (h k : Head) (o r : Option DbFault) → p ≡ q → h ≡ k → o ≡ r
    → KeepsStore files faults moment left trace kept begin start now p h o → KeepsStore files faults moment left trace kept begin start now q k r
store_as files faults moment left trace kept begin start now p q h k o r part head fault keeps =
    subst (λ (n : ℕ). KeepsStore files faults moment left trace kept begin start now n k r) part
    (subst (λ (z : Head). KeepsStore files faults moment left trace kept begin start now p z r) head
    (subst (λ (z : Option DbFault). KeepsStore files faults moment left trace kept begin start now p h z) fault keeps))

-- an advance that looks at these drains and no others
pub record IsAdvance (d : Collection) : Type 0 where
  pub kind : Kind d.pace (records_in d.trace) d.state (advance_of d)
  pub left : (advance_of d).daemon.drains ≡ d.state.drains
  pub before : d.failure ≡ None → AllOf (λ x. x.at ≤ d.state.applied) d.state.drains

-- ---- the parts

ends_parts : {D : Type 0} (files : D → Option Files) (faults moment : D → ℕ) (left : D → ℕ → Files → Type 0) (trace : Recording) (d e : Collection) (store after : D) (o : Option DbFault)
    → d.trace ≡ trace → d.failure ≡ None → IsAdvance d → commits d (advance_of d).answer ≡ true → e.failure ≡ o
    → EndsPart files faults moment left d (advance_of d) store o e after → KeepsParts trace d → KeepsParts trace e
ends_parts files faults moment left trace d e store after None is fine step commit none h keeps =
    parts_ended trace d e (advance_of d) is fine step.kind step.left (step.before fine) commit (ap (λ (c : Collection). c.state) h.0) (ap (λ (c : Collection). c.part) h.0) (ap (λ (c : Collection). c.noted) h.0) keeps
ends_parts files faults moment left trace d e store after (Some fault) is fine step commit some h keeps = none_kept trace e fault some

pub outcome_parts : {D : Type 0} (files : D → Option Files) (faults moment : D → ℕ) (left : D → ℕ → Files → Type 0) (trace : Recording) (d e : Collection) (store after : D) (b : Bool)
    → d.trace ≡ trace → IsAdvance d → commits d (advance_of d).answer ≡ b
    → Outcome files faults moment left b d (advance_of d) store e after → KeepsParts trace d → KeepsParts trace e
outcome_parts files faults moment left trace d e store after true is step commit h keeps =
    ends_parts files faults moment left trace d e store after e.failure is (is_none_none d.failure (both_hold _ _ _ commit)) step commit refl h keeps
outcome_parts files faults moment left trace d e store after false is step commit h keeps =
    parts_moved trace d e (advance_of d) store after is (none_before d.failure (advance_of d).answer e.failure h.fault) step.kind step.left commit h keeps

-- ---- the store, for a record of which the part that is committed is the next one

ends_stores : {D : Type 0} (files : D → Option Files) (faults moment : D → ℕ) (left : D → ℕ → Files → Type 0) (trace : Recording) (kept : Recorded) (d e : Collection) (begin : Head) (start store after : D) (o : Option DbFault)
    → FollowsOn kept begin → d.failure ≡ None → IsNextPart trace kept d.part (part_in d (advance_of d).daemon.epoch false [])
    → e.failure ≡ o → EndsPart files faults moment left d (advance_of d) store o e after
    → KeepsStore files faults moment left trace kept begin start store d.part d.head d.failure → KeepsStore files faults moment left trace kept begin start after e.part e.head e.failure
ends_stores files faults moment left trace kept d e begin start store after None follows fine next none h keeps =
    let now = store_as files faults moment left trace kept begin start store d.part d.part d.head d.head d.failure None refl refl fine keeps in
    let committed = subst (λ (p : Part). IsCommitted files faults moment left p e.head store after) next.same h.1 in
    store_as files faults moment left trace kept begin start after (d.part + 1) e.part e.head e.head None e.failure (sym (ap (λ (c : Collection). c.part) h.0)) refl (sym none)
    (store_grows files faults moment left trace kept begin d.head e.head start store after d.part follows next.within now committed)
ends_stores files faults moment left trace kept d e begin start store after (Some fault) follows fine next some h keeps =
    let now = store_as files faults moment left trace kept begin start store d.part d.part d.head d.head d.failure None refl refl fine keeps in
    let failed = subst (λ (p : Part). HasFailed files faults moment left p fault store after) next.same h.1 in
    store_as files faults moment left trace kept begin start after d.part e.part d.head e.head (Some fault) e.failure
    (sym (ap (λ (c : Collection). c.part) h.0)) (sym (ap (λ (c : Collection). c.head) h.0)) (sym some)
    (store_fails files faults moment left trace kept begin d.head start store after d.part fault follows next.within now failed)

pub outcome_stores : {D : Type 0} (files : D → Option Files) (faults moment : D → ℕ) (left : D → ℕ → Files → Type 0) (trace : Recording) (kept : Recorded) (d e : Collection) (begin : Head) (start store after : D) (b : Bool)
    → FollowsOn kept begin → commits d (advance_of d).answer ≡ b
    → (d.failure ≡ None → commits d (advance_of d).answer ≡ true → IsNextPart trace kept d.part (part_in d (advance_of d).daemon.epoch false []))
    → Outcome files faults moment left b d (advance_of d) store e after
    → KeepsStore files faults moment left trace kept begin start store d.part d.head d.failure → KeepsStore files faults moment left trace kept begin start after e.part e.head e.failure
outcome_stores files faults moment left trace kept d e begin start store after true follows commit next h keeps =
    let fine = is_none_none d.failure (both_hold _ _ _ commit) in
    ends_stores files faults moment left trace kept d e begin start store after e.failure follows fine (next fine commit) refl h keeps
outcome_stores {D = D} files faults moment left trace kept d e begin start store after false follows commit next h keeps =
    subst (λ (s : D). KeepsStore files faults moment left trace kept begin start s e.part e.head e.failure) (sym h.untouched)
    (store_as files faults moment left trace kept begin start store d.part e.part d.head e.head e.failure e.failure (sym (ap (λ (c : Collection). c.part) h.moved)) (sym (ap (λ (c : Collection). c.head) h.moved)) refl
    (store_rests files faults moment left trace kept begin start store d.part d.head d.failure e.failure (fault_rests d.failure e.failure (advance_of d).answer h.fault) keeps))

-- ---- the advance of a replay

pub advance_stores : {D : Type 0} (files : D → Option Files) (faults moment : D → ℕ) (left : D → ℕ → Files → Type 0) → AdvancesAsTheRun → (trace : Recording) (run first_epoch : ℕ) (lanes : List Seen) (sides : List Plain)
    (d e : Collection) (system : System) (rest : List Step) (begin : Head) (start store after : D) (answer : Advanced)
    → StandsAt trace run first_epoch lanes sides d system → SystemHolds Free trace first_epoch system → SystemHolds Free trace first_epoch (after_advance Free trace system)
    → run ≡ begin.runs + 1 → first_epoch ≡ begin.epoch
    → Advances files faults moment left (advance_of d) d store answer e after
    → KeepsAll files faults moment left trace (record_of run first_epoch (after_steps Free trace (after_advance Free trace system) rest)) begin start store d
    → KeepsAll files faults moment left trace (record_of run first_epoch (after_steps Free trace (after_advance Free trace system) rest)) begin start after e
advance_stores files faults moment left law trace run first_epoch lanes sides d e system rest begin start store after answer stands holds held runs epochs h keeps =
    let records = records_in trace in
    let step = runs_advance law trace run first_epoch lanes sides d system stands holds in
    let later = after_advance Free trace system in
    let kept = record_of run first_epoch (after_steps Free trace later rest) in
    let applied : (advance_of d).daemon.applied ≡ later.daemon.applied = sym (ap (λ (a : Advancing). a.daemon.applied) step.its) in
    let epoch : (advance_of d).daemon.epoch ≡ later.daemon.epoch = sym (ap (λ (a : Advancing). a.daemon.epoch) step.its) in
    let drains : d.failure ≡ None → d.state.drains ≡ later.daemon.drains = λ none. stands.drains none ∙ sym (ap (λ (a : Advancing). a.daemon.drains) step.its) in
    let advance : IsAdvance d = record {
      kind = step.kind;
      left = step.left;
      before = λ none.
          subst (λ (ds : List Drained). AllOf (λ x. x.at ≤ d.state.applied) ds) (sym (stands.drains none))
          (subst (λ (n : ℕ). AllOf (λ x. x.at ≤ n) system.daemon.drains) (sym (ap (λ (z : Daemon). z.applied) stands.state)) (positions system.daemon system.daemon.drains holds.books.before));
    } in
    let next : d.failure ≡ None → commits d (advance_of d).answer ≡ true → IsNextPart trace kept d.part (part_in d (advance_of d).daemon.epoch false []) = λ fine commit.
    next_part trace kept d (advance_of d) stands.trace_is stands.run_is stands.first_is fine step.kind commit
    (epoch ∙ held.books.epoch ∙ ap (λ n. epoch_after first_epoch (take n records)) (sym applied))
    (λ before. parts_stand Free trace later rest d.part (subst (λ (n : ℕ). d.part < part_of records n) applied before)
    ∙ ap (λ (z : List Drained). drains_in_part records d.part z) (sym (drains fine)))
    keeps.parts in
    record {
      parts = outcome_parts files faults moment left trace d e store after (commits d (advance_of d).answer) stands.trace_is advance refl h.outcome keeps.parts;
      store = outcome_stores files faults moment left trace kept d e begin start store after (commits d (advance_of d).answer) (record { run = runs; first_epoch = epochs }) refl next h.outcome keeps.store;
    }
