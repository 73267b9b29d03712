-- What an advance leaves of the store, whatever the daemon drains later; and that it goes on.
use Rattle.std.proofs.Common.{arith, ◌≡◌, ℕ, ◌+◌, ◌<◌, ◌≤◌, refl, sym, ◌∙◌, ap, subst, true, false, List, [], ◌∷◌, ◌++◌, Option, Some, None, append-nil, append_assoc, eqb}
use Rattle.std.specs.Prelude.{take}
use Rattle.std.proofs.lemmas.List.Elements.{filter-append}
use Rattle.sample_key.specs.declared.losses.Pace.{Pace}
use Rattle.trace_model.specs.Parts.{epoch_after, part_of}
use Rattle.trace_model.specs.Recording.{Recording}
use Rattle.trace_model.specs.Streams.{records_in}
use Rattle.trace_model.specs.declared.notices.Record.{Record}
use Rattle.driver_model.specs.Lists.{AllOf}
use Rattle.driver_laws.proofs.Lists.{all_append, all_map}
use Rattle.database_model.specs.Runs.{Drained, Recorded}
use Rattle.store_io.specs.Files.{Files}
use Rattle.database_state.specs.Heads.{Head}
use Rattle.database_state.specs.declared.faults.DbFault.{DbFault}
use Rattle.lane_side.specs.Plain.{Plain}
use Rattle.run_model.specs.Daemon.{Daemon}
use Rattle.run_model.specs.Shares.{drains_in_part}
use Rattle.run_model.specs.declared.advances.Advanced.{Advanced}
use Rattle.run_laws.specs.Laws.{Extends}
use Rattle.run_laws.proofs.Growing.{extends_on, none_in_part}
use Rattle.dcpid_core.specs.Advancing.{Advances, advance_of, commits}
use Rattle.dcpid_core.specs.Collection.{Collection, rang_if}
use Rattle.dcpid_core.specs.Parts.{part_in}
use Rattle.replay_drive.specs.Replaying.{LeavesStore}
use Rattle.replay_drive.proofs.AdvanceStands.{outcome_went}
use Rattle.replay_drive.proofs.AdvanceStores.{outcome_parts, outcome_stores, store_as}
use Rattle.replay_drive.proofs.PartsKept.{next_part}
use Rattle.replay_drive.proofs.StoreKept.{IsNextPart, store_rests}
use Rattle.daemon_rounds.specs.Going.{PollsOn}
use Rattle.daemon_rounds.specs.Knowing.{Knows}
use Rattle.daemon_rounds.specs.Storing.{GoesOn, GoesOnFrom, HasGone, KeepsRun}
use Rattle.daemon_rounds.proofs.AdvancingKnows.{AdvanceLaws, books_then, extends_then, fault_stays, is_runs, knows_then, stood}

-- ---- records that go on from here

-- what goes on from a later daemon goes on from an earlier one
pub goes_before : (begin : Head) (until later : Daemon) (kept : Recorded) → Extends until later → GoesOnFrom begin later kept → GoesOnFrom begin until kept
goes_before begin until later kept on goes = record {
  run = goes.run;
  first_epoch = goes.first_epoch;
  more = on.more ++ goes.more;
  drains = goes.drains ∙ ap {B = List Drained} (λ (z : List Drained). z ++ goes.more) on.drains ∙ append_assoc until.drains on.more goes.more;
  later = all_append (λ x. until.applied ≤ x.at) on.more goes.more on.later
      (all_map (λ x. later.applied ≤ x.at) (λ x. until.applied ≤ x.at) (λ x h. omega (arith, on.applied)) goes.more goes.later);
}

-- the drains of a part that has ended stand
ended_stands : (records : List Record) (begin : Head) (until : Daemon) (kept : Recorded) (part : ℕ) → part < part_of records until.applied → GoesOnFrom begin until kept
    → drains_in_part records part kept.drains ≡ drains_in_part records part until.drains
ended_stands records begin until kept part before goes =
    ap {B = List Drained} (λ (z : List Drained). drains_in_part records part z) goes.drains
    ∙ filter-append (λ (d : Drained). eqb (part_of records d.at) part) until.drains goes.more
    ∙ ap {B = List Drained} (λ (z : List Drained). drains_in_part records part until.drains ++ z) (none_in_part records part until.applied goes.more before goes.later)
    ∙ append-nil (drains_in_part records part until.drains)

-- the part that is committed is the next one of such a record
next_of_run : AdvanceLaws → (pace : Pace) (trace : Recording) (begin : Head) (until : Daemon) (kept : Recorded) (d : Collection) (sides : List Plain)
    → Knows pace trace (begin.runs + 1) begin.epoch until d sides → d.failure ≡ None → commits d (advance_of d).answer ≡ true → GoesOnFrom begin (advance_of d).daemon kept
    → IsNextPart trace kept d.part (part_in d (advance_of d).daemon.epoch false [])
next_of_run laws pace trace begin until kept d sides knows fine commit goes =
    let records = records_in trace in
    let step = is_runs laws pace trace (begin.runs + 1) begin.epoch until d sides knows in
    let books = books_then laws pace trace (begin.runs + 1) begin.epoch until d sides knows fine in
    next_part trace kept d (advance_of d) knows.trace_is (knows.run_is ∙ sym goes.run) (knows.first_is ∙ sym goes.first_epoch) fine step.advance.kind commit
    (books.epoch ∙ ap (λ n. epoch_after n (take (advance_of d).daemon.applied records)) (sym goes.first_epoch))
    (λ before. ended_stands records begin (advance_of d).daemon kept d.part before goes ∙ ap (λ (z : List Drained). drains_in_part records d.part z) step.advance.left)
    knows.parts

-- ---- an advance

some_none : {A B : Type 0} (o : Option A) (x : A) → o ≡ Some x → o ≡ None → B
some_none o x e n = cc

run_then : {D : Type 0} (files : D → Option Files) (faults moment : D → ℕ) (left : D → ℕ → Files → Type 0) → AdvanceLaws → (pace : Pace) (trace : Recording) (begin : Head) (start old new : D) (until : Daemon) (d e : Collection)
    (sides : List Plain) (answer : Advanced) (o : Option DbFault) → Knows pace trace (begin.runs + 1) begin.epoch until d sides → d.failure ≡ o → Advances files faults moment left (advance_of d) d old answer e new
    → KeepsRun files faults moment left trace begin start old until d → KeepsRun files faults moment left trace begin start new (stood o until (advance_of d).daemon) e
run_then files faults moment left laws pace trace begin start old new until d e sides answer None knows fine h keeps = λ kept goes.
    outcome_stores files faults moment left trace kept d e begin start old new (commits d (advance_of d).answer) (record { run = goes.run; first_epoch = goes.first_epoch }) refl
    (λ none commit. next_of_run laws pace trace begin until kept d sides knows none commit goes) h.outcome
    (keeps kept (goes_before begin until (advance_of d).daemon kept (extends_then laws pace trace (begin.runs + 1) begin.epoch until d sides None knows fine) goes))
run_then files faults moment left laws pace trace begin start old new until d e sides answer (Some fault) knows was h keeps = λ kept goes.
    outcome_stores files faults moment left trace kept d e begin start old new (commits d (advance_of d).answer) (record { run = goes.run; first_epoch = goes.first_epoch }) refl
    (λ none commit. some_none d.failure fault was none) h.outcome (keeps kept goes)

-- the daemon went on
pub advance_gone : {D : Type 0} (files : D → Option Files) (faults moment : D → ℕ) (left : D → ℕ → Files → Type 0) → AdvanceLaws → (pace : Pace) (trace : Recording) (begin : Head) (start old new : D) (until : Daemon) (d e : Collection)
    (sides after : List Plain) (answer : Advanced) → Knows pace trace (begin.runs + 1) begin.epoch until d sides → Advances files faults moment left (advance_of d) d old answer e new
    → after ≡ rang_if (advance_of d).ring sides
    → KeepsRun files faults moment left trace begin start old until d → HasGone files faults moment left pace trace begin start new until e after
advance_gone files faults moment left laws pace trace begin start old new until d e sides after answer knows h rings keeps =
    let b = commits d (advance_of d).answer in
    let went = outcome_went files faults moment left d e (advance_of d) old new b refl h.outcome in
    let step = is_runs laws pace trace (begin.runs + 1) begin.epoch until d sides knows in
    let parts = outcome_parts files faults moment left trace d e old new b knows.trace_is step.advance refl h.outcome knows.parts in
    let then = knows_then laws pace trace (begin.runs + 1) begin.epoch until d e sides d.failure knows refl went parts (λ fault was. fault_stays files faults moment left d e old new b fault refl h.outcome was) in
    record {
      later = stood d.failure until (advance_of d).daemon;
      extends = extends_then laws pace trace (begin.runs + 1) begin.epoch until d sides d.failure knows refl;
      knows = subst (λ (ss : List Plain). Knows pace trace (begin.runs + 1) begin.epoch (stood d.failure until (advance_of d).daemon) e ss) (sym rings) then;
      store = run_then files faults moment left laws pace trace begin start old new until d e sides answer d.failure knows refl h keeps;
    }

-- ---- polls, and then an advance

-- polls leave the store as it is
pub polled_run : {D : Type 0} (files : D → Option Files) (faults moment : D → ℕ) (left : D → ℕ → Files → Type 0) (trace : Recording) (begin : Head) (start now : D) (until later : Daemon) (d e : Collection)
    → Extends until later → LeavesStore trace d e → KeepsRun files faults moment left trace begin start now until d → KeepsRun files faults moment left trace begin start now later e
polled_run files faults moment left trace begin start now until later d e on leaves keeps = λ kept goes.
    store_as files faults moment left trace kept begin start now d.part e.part d.head e.head e.failure e.failure (sym leaves.part) (sym leaves.head) refl
    (store_rests files faults moment left trace kept begin start now d.part d.head d.failure e.failure leaves.fault (keeps kept (goes_before begin until later kept on goes)))

-- whoever goes on from a later daemon has gone on from an earlier one
pub gone_before : {D : Type 0} (files : D → Option Files) (faults moment : D → ℕ) (left : D → ℕ → Files → Type 0) (pace : Pace) (trace : Recording) (begin : Head) (start now : D) (until later : Daemon) (e : Collection) (sides : List Plain)
    → Extends until later → HasGone files faults moment left pace trace begin start now later e sides → HasGone files faults moment left pace trace begin start now until e sides
gone_before files faults moment left pace trace begin start now until later e sides on gone =
    record { later = gone.later; extends = extends_on until later gone.later on gone.extends; knows = gone.knows; store = gone.store }

-- a round of polls and then an advance
pub round_gone : {D : Type 0} (files : D → Option Files) (faults moment : D → ℕ) (left : D → ℕ → Files → Type 0) (before middle after : Collection) (sides mid last : List Plain) (old new : D)
    → PollsOn before sides middle mid → GoesOn files faults moment left middle mid old after last new → GoesOn files faults moment left before sides old after last new
round_gone files faults moment left before middle after sides mid last old new polls goes = λ pace trace begin start until knows keeps.
    let polled = polls pace trace (begin.runs + 1) begin.epoch until knows in
    gone_before files faults moment left pace trace begin start new until polled.later after last polled.extends
    (goes pace trace begin start polled.later polled.knows (polled_run files faults moment left trace begin start old until polled.later before middle polled.extends polled.leaves keeps))
