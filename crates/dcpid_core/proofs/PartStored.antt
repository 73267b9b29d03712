-- A part that goes into the store: what the calls that make its change and commit it promise together.
use Rattle.std.proofs.Common.{arith, ◌≡◌, ℕ, ◌+◌, ◌<◌, ◌≤◌, inl, inr, refl, sym, ◌∙◌, ap, subst, true, Option, Some, Err}
use Rattle.outside_io.specs.Causes.{Rose}
use Rattle.store_io.specs.Files.{Files}
use Rattle.store_io.specs.Crashes.{LeavesOnly, LeftNow, OnlyReads}
use Rattle.store_io.proofs.Chains.{after_reads, leaves_wider, only_reads}
use Rattle.database_state.specs.Database.{Database}
use Rattle.database_state.specs.Heads.{Head, is_in_range, row_count}
use Rattle.database_state.specs.Standing.{CrashesSay, HaveHead, StandsFor, database_of}
use Rattle.database_state.specs.Updates.{Fits, Update, head_after, rows_added, updated}
use Rattle.database_state.specs.declared.faults.DbFault.{DbFault}
use Rattle.database_state.specs.declared.faults.DbFault.TheVariants.{StoreFault, Bad, Full, Memory}
use Rattle.epoch_store.specs.Commits.{BeforeOrAfter, FilesChanged, IsRoomFault, StaysAt}
use Rattle.epoch_store.specs.Faults.{IsWriteCause}
use Rattle.epoch_store.proofs.NextHead.{rows_after}
use Rattle.growth_model.specs.Fitting.{HeadGrows}
use Rattle.growth_model.specs.Growth.{Grows}
use Rattle.profile_merge.specs.Changing.{GrowsFiles, HasFaultCause, IsAnswered, IsChangeCause}
use Rattle.dcpid_core.specs.Storing.{BeforeOrGrown, HasCause, HasFailed, IsCommitted, Part, PartGrows, StopsPart, TellsNow, added_by, is_found_before}

-- ---- what a change that was made brings

-- the change of a part that was made, over the head of before
pub record IsChangeOf {D : Type 0} (files : D → Option Files) (faults moment : D → ℕ)
    (left : D → ℕ → Files → Type 0) (part : Part) (u : Update) (old mid : D) : Type 0 where
  pub segment_is : u.segment ≡ part.segment
  pub epoch_is : u.epoch ≡ part.epoch
  pub range : is_in_range part.head ≡ true
  pub fits : Fits part.head.epoch part.head.runs part.head.names u
  pub grows : GrowsFiles part.images (added_by part) part.head part.segment u (files old)
  pub head : HeadGrows part.images (added_by part) part.epoch part.segment part.head (head_after u part.head)
  pub sound : (f : Files) (fault : DbFault) → files old ≡ Some f → StopsPart part f fault → ⊥
  pub reads : OnlyReads (files old) (files mid) (moment old) (moment mid) (left old) (left mid)
  pub count : faults mid ≡ faults old

-- the database with the change has grown by the part
grown : {D : Type 0} {files : D → Option Files} {faults moment : D → ℕ} {left : D → ℕ → Files → Type 0} {part : Part} {u : Update} {old mid : D} → IsChangeOf files faults moment left part u old mid → (f : Files) → files old ≡ Some f → PartGrows part (database_of part.head f) (updated u (database_of part.head f))
grown {part} {u} made f told = subst (λ e. Grows part.images (added_by part) e part.segment (database_of part.head f) (updated u (database_of part.head f))) made.epoch_is (made.grows f told)

-- files that have the head stand for what they say
stands : (h : Head) (f : Files) → HaveHead f h → StandsFor f (database_of h f)
stands h f has = (h, has, refl)

-- so do those that a crash leaves
left_stands : (h : Head) (db : Database) (c : Files) → HaveHead c h × (database_of h c ≡ db) → StandsFor c db
left_stands h db c says = (h, says.0, says.1)

-- after the change was made a crash leaves what it left before
crash_after : {D : Type 0} {files : D → Option Files} {faults moment : D → ℕ} {left : D → ℕ → Files → Type 0} {part : Part} {u : Update} {old mid : D} → IsChangeOf files faults moment left part u old mid → (f : Files) → TellsNow files moment left old part.head f → CrashesSay (LeftNow moment left mid) part.head (database_of part.head f)
crash_after made f tells c here = tells.crash c (made.reads.crash c here)

-- the database before the change or the changed one is the one before the part or the grown one
part_wide : {D : Type 0} {files : D → Option Files} {faults moment : D → ℕ} {left : D → ℕ → Files → Type 0} {part : Part} {u : Update} {old mid : D} → IsChangeOf files faults moment left part u old mid → (f : Files) → files old ≡ Some f → (c : Files) → BeforeOrAfter u (database_of part.head f) c → BeforeOrGrown part (database_of part.head f) c
part_wide {part} {u} made f told c = λ either. elim either [ inl before ↦ inl before | inr after ↦ inr (updated u (database_of part.head f), grown made f told, after) ]

-- what a commit promises of every moment
abbrev pub CommitLeaves : {D : Type 0} → (D → ℕ) → (D → ℕ → Files → Type 0) → Head → Update → D → D → Type 0
CommitLeaves moment left h u mid new = (said : Database) → CrashesSay (LeftNow moment left mid) h said → LeavesOnly moment left mid new (BeforeOrAfter u said)

-- at any moment of both calls
part_any_moment : {D : Type 0} {files : D → Option Files} {faults moment : D → ℕ} {left : D → ℕ → Files → Type 0} {part : Part} {u : Update} {old mid : D} (new : D) → IsChangeOf files faults moment left part u old mid → CommitLeaves moment left part.head u mid new → (f : Files) → TellsNow files moment left old part.head f → LeavesOnly moment left old new (BeforeOrGrown part (database_of part.head f))
part_any_moment {part} new made leaves f tells = after_reads _ (λ c here. inl (left_stands part.head _ c (tells.crash c here))) made.reads.time (leaves_wider (part_wide made f tells.told) (leaves _ (crash_after made f tells)))

-- ---- the part was committed

-- two equal files under `Some`
one_file : (f g : Files) → Some f ≡ Some g → f ≡ g
one_file f g is = cc

pub part_committed : {D : Type 0} (files : D → Option Files) (faults moment : D → ℕ) (left : D → ℕ → Files → Type 0) (part : Part) (u : Update) (next : Head) (old mid new : D)
    → IsChangeOf files faults moment left part u old mid
    → next ≡ head_after u part.head
    → FilesChanged u part.head next (files mid) (files new)
    → row_count part.head + rows_added u part.head ≤ 65536
    → CommitLeaves moment left part.head u mid new
    → ((said : Database) → CrashesSay (LeftNow moment left mid) part.head said → CrashesSay (LeftNow moment left new) next (updated u said))
    → faults new ≡ faults mid
    → IsCommitted files faults moment left part next old new
part_committed files faults moment left part u next old mid new made next_is changed room leaves after count = record {
  head = subst (λ h. HeadGrows part.images (added_by part) part.epoch part.segment part.head h) (sym next_is) made.head;
  rows = subst (λ h. row_count h ≤ 65536) (sym next_is) (omega (arith, rows_after part.head u made.range made.fits, room));
  sound = made.sound;
  count = count ∙ made.count;
  grows = λ f told has. let c = changed f (made.reads.files ∙ told) has in (c.0, c.1, c.2, subst (λ db. PartGrows part (database_of part.head f) db) (sym c.3) (grown made f told));
  any_moment = part_any_moment new made leaves;
  after_it = λ f g tells is. let c = changed f (made.reads.files ∙ tells.told) tells.has_head in let same = one_file c.0 g (sym c.1 ∙ is) in record {
    told = is;
    has_head = subst (λ x. HaveHead x next) same c.2;
    crash = subst (λ db. CrashesSay (LeftNow moment left new) next db) (sym c.3 ∙ ap (λ x. database_of next x) same) (after _ (crash_after made f tells));
  };
}

-- ---- the part was not committed

-- no change was made
pub part_not_made : {D : Type 0} (files : D → Option Files) (faults moment : D → ℕ) (left : D → ℕ → Files → Type 0) (part : Part) (fault : DbFault) (old new : D)
    → OnlyReads (files old) (files new) (moment old) (moment new) (left old) (left new)
    → IsChangeCause (faults old) (faults new) fault
    → ((f : Files) → files old ≡ Some f → HasFaultCause part.images (added_by part) part.head f fault)
    → ((f : Files) (other : DbFault) → files old ≡ Some f → StopsPart part f other → IsAnswered {T = Unit {0}} other (Err fault))
    → HasFailed files faults moment left part fault old new
part_not_made files faults moment left part fault old new reads count cause first = record {
  count = count;
  cause = λ f told. with_cause part f fault (cause f told);
  first = first;
  reads = λ e. reads;
  any_moment = λ f tells. only_reads _ (λ c here. inl (left_stands part.head _ c (tells.crash c here))) reads.time;
  present = λ f g tells is. inl (left_stands part.head _ g (subst (λ x. HaveHead x part.head × (database_of part.head x ≡ database_of part.head f)) (one_file f g (sym tells.told ∙ (sym reads.files ∙ is))) (tells.has_head, refl)));
}
  where
    with_cause : (part : Part) (f : Files) (fault : DbFault) → HasFaultCause part.images (added_by part) part.head f fault → HasCause part f fault
    with_cause part f StoreFault h = tt
    with_cause part f (Bad file) h = h
    with_cause part f (Full what held added) h = inl h
    with_cause part f Memory h = tt

-- the change was made and its commit failed
pub part_not_committed : {D : Type 0} (files : D → Option Files) (faults moment : D → ℕ) (left : D → ℕ → Files → Type 0) (part : Part) (u : Update) (fault : DbFault) (old mid new : D)
    → IsChangeOf files faults moment left part u old mid
    → IsRoomFault (row_count part.head) (rows_added u part.head) fault
    → StaysAt mid new fault
    → IsWriteCause (faults mid) (faults new) fault
    → CommitLeaves moment left part.head u mid new
    → ((said : Database) → CrashesSay (LeftNow moment left mid) part.head said → (f : Files) → files new ≡ Some f → BeforeOrAfter u said f)
    → HasFailed files faults moment left part fault old new
part_not_committed files faults moment left part u fault old mid new made room stays count leaves present = record {
  count = counted fault made.count count;
  cause = λ f told. caused fault room f;
  first = λ f other told stops. absurd (made.sound f other told stops);
  reads = λ before. only_read fault before stays room;
  any_moment = part_any_moment new made leaves;
  present = λ f g tells is. part_wide made f tells.told g (present _ (crash_after made f tells) g is);
}
  where
    counted : (fault : DbFault) → faults mid ≡ faults old → IsWriteCause (faults mid) (faults new) fault → IsChangeCause (faults old) (faults new) fault
    counted StoreFault same h = subst (λ n. (n ≤ faults new) × Rose n (faults new)) same h
    counted (Bad file) same h = absurd h
    counted (Full what held added) same h = h ∙ same
    counted Memory same h = h ∙ same

    caused : (fault : DbFault) → IsRoomFault (row_count part.head) (rows_added u part.head) fault → (f : Files) → HasCause part f fault
    caused StoreFault h f = tt
    caused (Bad file) h f = absurd h
    caused (Full what held added) h f = inr (
      h.0,
      record {
        next = head_after u part.head;
        grows = made.head;
        is_held = h.1;
        total = ap (λ n. n + added) h.1 ∙ (ap (λ n. row_count part.head + n) h.2 ∙ sym (rows_after part.head u made.range made.fits));
        over = subst (λ n. 65536 < n) (sym (ap (λ n. n + added) h.1 ∙ ap (λ n. row_count part.head + n) h.2)) h.3;
      },
    )
    caused Memory h f = tt

    only_read : (fault : DbFault) → is_found_before fault ≡ true → StaysAt mid new fault → IsRoomFault (row_count part.head) (rows_added u part.head) fault → OnlyReads (files old) (files new) (moment old) (moment new) (left old) (left new)
    only_read StoreFault before stays room = absurd (cc)
    only_read (Bad file) before stays room = absurd room
    only_read (Full what held added) before stays room = subst (λ s. OnlyReads (files old) (files s) (moment old) (moment s) (left old) (left s)) (sym stays) made.reads
    only_read Memory before stays room = absurd (cc)
