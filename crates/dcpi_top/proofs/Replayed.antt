-- A replay that was run, or that stopped: what it owes, from what the replay below it left.
use Rattle.std.proofs.Common.{◌≡◌, ◌≢◌, ◌≤◌, ◌+◌, ◌⊎◌, inl, inr, ℕ, true, List, refl, sym, subst, arith, ◌∙◌}
use Rattle.std.specs.declared.option.Option.{Option}
use Rattle.std.specs.declared.option.Option.TheVariants.{Some, None}
use Rattle.trace_model.specs.Recording.{Recording}
use Rattle.trace_model.specs.Streams.{records_in}
use Rattle.store_io.specs.Files.{Files}
use Rattle.store_io.specs.Crashes.{LeavesOnly}
use Rattle.store_io.proofs.Chains.{after_reads}
use Rattle.database_state.specs.Heads.{Head}
use Rattle.database_state.specs.Standing.{HaveHead, database_of}
use Rattle.database_state.specs.declared.faults.DbFault.{DbFault}
use Rattle.database_state.specs.declared.faults.DbFault.TheVariants as faults
use Rattle.database_model.specs.Runs.{Recorded}
use Rattle.growth_model.specs.Grown.{Grown, part_count}
use Rattle.dcpid_core.specs.Storing.{TellsNow, is_found_before}
use Rattle.dcpid_core.specs.declared.outcomes.Outcome.{Outcome}
use Rattle.replay_drive.specs.Growing.{HeadGrownBy, MayBeGrown, parts_at_most}
use Rattle.replay_drive.specs.Outcomes as below
use Rattle.summary_text.specs.Summaries.{summary_of}
use Rattle.dcpi_top.specs.declared.commands.Command.TheVariants.{Replay}
use Rattle.dcpi_top.specs.declared.refusals.Refusal.{Refusal}
use Rattle.dcpi_top.specs.Refusals.{IsOfDatabase, status_of}
use Rattle.dcpi_top.specs.Streams.{Stream, seen}
use Rattle.dcpi_top.specs.Inputs.{ReadsAs}
use Rattle.dcpi_top.specs.Heads.{OpenedWith}
use Rattle.dcpi_top.specs.Moments.{ReadsOnly}
use Rattle.dcpi_top.specs.Replays.{IsReadInto, IsReplayText, LeavesParts, StopsRun, run_of}
use Rattle.dcpi_top.specs.Causes.{IsCause}

-- what holds of each value holds of this one
pub of_told : {A : Type 0} (o : Option A) (P : A → Type 0) (x : A) → Rattle.std.specs.Prelude.IfSome o P → o ≡ Some x → P x
of_told None P x holds e = absurd (cc)
of_told (Some y) P x holds e = subst P (same y x e) holds
  where
    same : {A : Type 0} (y x : A) → Some y ≡ Some x → y ≡ x
    same y x e = cc

-- a fault that stopped the run is its cause
module _ {D : Type 0} (files : D → Option Files) (counts moment : D → ℕ) (left_since : D → ℕ → Files → Type 0) (trace : Recording)
    (input : Stream) (head : Head) (old new : D) (into : IsReadInto input trace (seen files counts old new) head) where
  stops : (fault : DbFault) → is_found_before fault ≡ true → below.Leaves files counts moment left_since trace head old new (Some fault)
      → StopsRun input (seen files counts old new) fault
  stops fault before leaves = record {
    recording = trace;
    head = head;
    reads = into.reads;
    whole = into.whole;
    opened = into.opened;
    stops = λ f told. let (g, now, at) = leaves.store.cause f fault told (of_told (files old) (λ x. HaveHead x head) f into.opened told) refl before in
        (g, now, (leaves.parts, at));
  }

  pub stopped : (fault : DbFault) (refusal : Refusal) → IsOfDatabase fault refusal
      → below.Leaves files counts moment left_since trace head old new (Some fault)
      → IsCause Replay input (seen files counts old new) refusal
  stopped faults.StoreFault refusal is leaves = subst (λ r. IsCause Replay input (seen files counts old new) r) (sym is)
      (tt, into.counted, record { later = leaves.store.count.0; rose = leaves.store.count.1 })
  stopped (faults.Bad file) refusal is leaves = subst (λ r. IsCause Replay input (seen files counts old new) r) (sym is)
      (tt, (into.counted, leaves.store.count), inr (stops (faults.Bad file) refl leaves))
  stopped (faults.Full what held added) refusal is leaves = subst (λ r. IsCause Replay input (seen files counts old new) r) (sym is)
      ((into.counted, leaves.store.count), stops (faults.Full what held added) refl leaves)
  stopped faults.Memory refusal is leaves = subst (λ r. IsCause Replay input (seen files counts old new) r) (sym is)
      (into.counted, leaves.store.count)

  -- the summary of a whole run is the text
  pub done : (outcome : Outcome) (text : List ℕ) → below.IsReplayOf trace head outcome
      → below.Leaves files counts moment left_since trace head old new None
      → text ≡ summary_of outcome.kept outcome.stats.items → IsReplayText input (seen files counts old new) text
  done outcome text run leaves printed = record {
    recording = trace;
    head = head;
    outcome = outcome;
    reads = into.reads;
    whole = into.whole;
    opened = into.opened;
    run = run;
    printed = printed;
    grown = λ f told. let (g, now, has, grown) = leaves.store.grown f told (of_told (files old) (λ x. HaveHead x head) f into.opened told) refl in (
      g,
      leaves.head,
      now,
      has,
      subst (λ kept. HeadGrownBy trace kept (part_count (records_in trace)) head leaves.head) (sym run.kept)
          (subst (λ parts. HeadGrownBy trace (run_of trace head) parts head leaves.head) (leaves.whole refl) (leaves.store.heads refl)),
      subst (λ kept. Grown trace.images (records_in trace) kept (part_count (records_in trace)) (database_of head f) (database_of leaves.head g)) (sym run.kept)
          (subst (λ parts. Grown trace.images (records_in trace) (run_of trace head) parts (database_of head f) (database_of leaves.head g)) (leaves.whole refl) grown),
    );
  }

-- what the status of an ending says of the parts
pub record IsStatus (failure : Option DbFault) (status : ℕ) : Type 0 where
  pub begun : (status ≢ 1) × (status ≢ 2) × (status ≢ 3)
  pub sure : (parts : ℕ) → status ≢ 4 → status ≢ 6 → parts_at_most parts failure ≡ parts
  pub all : (status ≡ 0) ⊎ (status ≡ 5) → failure ≡ None

-- the status of a fault
pub status_is : (fault : DbFault) (refusal : Refusal) → IsOfDatabase fault refusal → IsStatus (Some fault) (status_of refusal)
status_is faults.StoreFault refusal is = subst (λ r. IsStatus (Some faults.StoreFault) (status_of r)) (sym is) (record {
  begun = (λ e. absurd (cc), λ e. absurd (cc), λ e. absurd (cc));
  sure = λ parts four six. absurd (four refl);
  all = λ e. absurd (elim e [ inl a ↦ absurd (cc) | inr b ↦ absurd (cc) ]);
})
status_is (faults.Bad file) refusal is = subst (λ r. IsStatus (Some (faults.Bad file)) (status_of r)) (sym is) (record {
  begun = (λ e. absurd (cc), λ e. absurd (cc), λ e. absurd (cc));
  sure = λ parts four six. refl;
  all = λ e. absurd (elim e [ inl a ↦ absurd (cc) | inr b ↦ absurd (cc) ]);
})
status_is (faults.Full what held added) refusal is = subst (λ r. IsStatus (Some (faults.Full what held added)) (status_of r)) (sym is) (record {
  begun = (λ e. absurd (cc), λ e. absurd (cc), λ e. absurd (cc));
  sure = λ parts four six. refl;
  all = λ e. absurd (elim e [ inl a ↦ absurd (cc) | inr b ↦ absurd (cc) ]);
})
status_is faults.Memory refusal is = subst (λ r. IsStatus (Some faults.Memory) (status_of r)) (sym is) (record {
  begun = (λ e. absurd (cc), λ e. absurd (cc), λ e. absurd (cc));
  sure = λ parts four six. absurd (six refl);
  all = λ e. absurd (elim e [ inl a ↦ absurd (cc) | inr b ↦ absurd (cc) ]);
})

-- a run that came to its end, with its summary or without the memory for it
pub ended_well : IsStatus None 0
ended_well = record { begun = (λ e. absurd (cc), λ e. absurd (cc), λ e. absurd (cc)); sure = λ parts four six. refl; all = λ e. refl }

pub ended_short : IsStatus None 6
ended_short = record { begun = (λ e. absurd (cc), λ e. absurd (cc), λ e. absurd (cc)); sure = λ parts four six. refl; all = λ e. refl }

-- the parts are at most one more
few : (parts : ℕ) (failure : Option DbFault) → (parts ≤ parts_at_most parts failure) × (parts_at_most parts failure ≤ parts + 1)
few parts None = (omega arith, omega arith)
few parts (Some faults.StoreFault) = (omega arith, omega arith)
few parts (Some (faults.Bad file)) = (omega arith, omega arith)
few parts (Some (faults.Full what held added)) = (omega arith, omega arith)
few parts (Some faults.Memory) = (omega arith, omega arith)

-- files have one head
abbrev pub OneHead : Type 0
OneHead = (files : Files) (h k : Head) → HaveHead files h → HaveHead files k → h ≡ k

-- what a run leaves at any moment
pub leaves_run : {D : Type 0} (files : D → Option Files) (counts moment : D → ℕ) (left_since : D → ℕ → Files → Type 0) (trace : Recording)
    (input : Stream) (head : Head) (old new : D) (failure : Option DbFault) (status : ℕ) → OneHead → ReadsAs input trace
    → OpenedWith (seen files counts old new) head → IsStatus failure status
    → below.Leaves files counts moment left_since trace head old new failure → LeavesParts files moment left_since input old new status
leaves_run files counts moment left_since trace input head old new failure status one reads opened is leaves = record {
  recording = trace;
  parts = leaves.parts;
  most = parts_at_most leaves.parts failure;
  reads = reads;
  begun = is.begun;
  within = leaves.store.within;
  few = few leaves.parts failure;
  sure = is.sure leaves.parts;
  all = λ e. leaves.whole (is.all e);
  any_moment = λ h f tells. let same : head ≡ h = one f head h (of_told (files old) (λ x. HaveHead x head) f opened tells.told) tells.has_head in
      subst (λ x. LeavesOnly moment left_since old new (MayBeGrown trace (run_of trace x) 0 (parts_at_most leaves.parts failure) (database_of x f))) same
      (leaves.store.any_moment f (subst (λ x. TellsNow files moment left_since old x f) (sym same) tells));
  present = λ h f g tells now. let same : head ≡ h = one f head h (of_told (files old) (λ x. HaveHead x head) f opened tells.told) tells.has_head in
      subst (λ x. MayBeGrown trace (run_of trace x) leaves.parts (parts_at_most leaves.parts failure) (database_of x f) g) same
      (leaves.store.present f g (subst (λ x. TellsNow files moment left_since old x f) (sym same) tells) now);
}

-- before the first part
pub none_yet : (trace : Recording) (kept : Recorded) (most : ℕ) (h : Head) (f c : Files) → HaveHead c h → database_of h c ≡ database_of h f
    → MayBeGrown trace kept 0 most (database_of h f) c
none_yet trace kept most h f c has same = (
  0,
  omega arith,
  omega arith,
  (
    database_of h f,
    record {
      within = omega arith;
      run = λ some. absurd (omega (arith, some));
      first_epoch = λ some. absurd (omega (arith, some));
      steps = refl;
    },
    (h, has, same),
  ),
)

-- a run after calls that only read
pub after_opening : {D : Type 0} (files : D → Option Files) (moment : D → ℕ) (left_since : D → ℕ → Files → Type 0) (input : Stream) (old middle new : D)
    (status : ℕ) → ReadsOnly files moment left_since old middle → LeavesParts files moment left_since input middle new status
    → LeavesParts files moment left_since input old new status
after_opening {D} files moment left_since input old middle new status reads parts = record {
  recording = parts.recording;
  parts = parts.parts;
  most = parts.most;
  reads = parts.reads;
  begun = parts.begun;
  within = parts.within;
  few = parts.few;
  sure = parts.sure;
  all = parts.all;
  any_moment = λ h f tells. after_reads (MayBeGrown parts.recording (run_of parts.recording h) 0 parts.most (database_of h f))
      (λ c here. none_yet parts.recording (run_of parts.recording h) parts.most h f c (tells.crash c here).0 (tells.crash c here).1)
      reads.time (parts.any_moment h f (later h f tells));
  present = λ h f g tells now. parts.present h f g (later h f tells) now;
}
  where
    later : (h : Head) (f : Files) → TellsNow files moment left_since old h f → TellsNow files moment left_since middle h f
    later h f tells = record {
      told = reads.files ∙ tells.told;
      has_head = tells.has_head;
      crash = λ c here. tells.crash c (reads.crash c here);
    }

-- a run whose summary was not written
pub unwritten : {D : Type 0} (files : D → Option Files) (moment : D → ℕ) (left_since : D → ℕ → Files → Type 0) (input : Stream) (old new : D)
    → LeavesParts files moment left_since input old new 0 → LeavesParts files moment left_since input old new 5
unwritten files moment left_since input old new parts = record {
  recording = parts.recording;
  parts = parts.parts;
  most = parts.most;
  reads = parts.reads;
  begun = (λ e. absurd (cc), λ e. absurd (cc), λ e. absurd (cc));
  within = parts.within;
  few = parts.few;
  sure = λ four six. parts.sure (λ e. absurd (cc)) (λ e. absurd (cc));
  all = λ e. parts.all (inl refl);
  any_moment = parts.any_moment;
  present = parts.present;
}
