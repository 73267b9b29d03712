-- What a step leaves of the store: the parts that ended are in the database, whatever moment is hit.
use Rattle.std.proofs.Common.{◌≡◌, refl, sym, ◌∙◌, ap, subst, ℕ, suc, ◌+◌, ◌≤◌, arith, Bool, true, false, if◌then◌else◌, Some, None, Option, Err, inl, inr}
use Rattle.trace_model.specs.Recording.{Recording}
use Rattle.trace_model.specs.Streams.{records_in}
use Rattle.database_model.specs.Runs.{Recorded}
use Rattle.store_io.specs.Files.{Files}
use Rattle.store_io.specs.Crashes.{LeavesOnly}
use Rattle.store_io.proofs.Chains.{leaves_join, leaves_wider, only_reads, stands_still}
use Rattle.database_state.specs.Database.{Database}
use Rattle.database_state.specs.Heads.{Head}
use Rattle.database_state.specs.Standing.{HaveHead, StandsFor, database_of}
use Rattle.database_state.specs.declared.faults.DbFault.{DbFault}
use Rattle.database_state.specs.declared.faults.DbFault.TheVariants.{StoreFault, Bad, Full, Memory}
use Rattle.growth_model.specs.Growth.{GrowsByPart}
use Rattle.growth_model.specs.Additions.{additions_of}
use Rattle.growth_model.specs.Fitting.{HeadGrows, HeadGrowsTo}
use Rattle.growth_model.specs.Grown.{GrowsTo, epoch_after_parts, part_count}
use Rattle.profile_merge.specs.Changing.{IsAnswered, IsChangeCause}
use Rattle.run_model.specs.Shares.{segment_of}
use Rattle.dcpid_core.specs.Storing.{BeforeOrGrown, HasFailed, IsCommitted, Part, TellsNow, is_found_before}
use Rattle.replay_drive.specs.Growing.{GrownBy, HeadGrownBy, KeepsStore, MayBeGrown, StopsAt, part_at, parts_at_most}
use Rattle.replay_drive.specs.Replaying.{FaultRests}

-- a run's number and first epoch follow on this head
pub record FollowsOn (kept : Recorded) (begin : Head) : Type 0 where
  pub run : kept.run ≡ begin.runs + 1
  pub first_epoch : kept.first_epoch ≡ begin.epoch

-- this part is the next one of the run's record
pub record IsNextPart (trace : Recording) (kept : Recorded) (part : ℕ) (whole : Part) : Type 0 where
  pub same : whole ≡ part_at trace kept part whole.head
  pub within : part + 1 ≤ part_count (records_in trace)

-- nothing of a run
pub none_grown : (trace : Recording) (kept : Recorded) (db : Database) → GrownBy trace kept 0 db db
none_grown trace kept db = record { within = omega arith; run = λ h. absurd (omega (arith, h)); first_epoch = λ h. absurd (omega (arith, h)); steps = refl }

-- as many may be fewer, and more
pub at_most : (trace : Recording) (kept : Recorded) (k l m n : ℕ) (db : Database) (c : Files) → l ≤ k → m ≤ n → MayBeGrown trace kept k m db c → MayBeGrown trace kept l n db c
at_most trace kept k l m n db c low le h = (h.0, omega (arith, h.1, low), omega (arith, h.2, le), h.3)

-- a fault may leave one part more
may_add : (parts : ℕ) (failure : Option DbFault) → parts ≤ parts_at_most parts failure
may_add parts None = omega arith
may_add parts (Some StoreFault) = omega arith
may_add parts (Some (Bad file)) = omega arith
may_add parts (Some (Full what held added)) = omega arith
may_add parts (Some Memory) = omega arith

one_file : (f g : Files) → Some f ≡ Some g → f ≡ g
one_file f g e = cc

none_some : {A B : Type 0} (x : A) → None ≡ Some x → B
none_some x e = absurd cc

some_none : {A B : Type 0} (x : A) → Some x ≡ None → B
some_none x e = absurd cc

-- the files of before are those that stand for so many parts
stands_by : (trace : Recording) (kept : Recorded) (parts : ℕ) (db : Database) (head : Head) (g c : Files) → Some g ≡ Some c → HaveHead g head → GrownBy trace kept parts db (database_of head g)
    → (new : Database) × GrownBy trace kept parts db new × StandsFor c new
stands_by trace kept parts db head g c is has grown =
    let same = one_file g c is in
    (database_of head g, grown, (head, subst (λ (x : Files). HaveHead x head) same has, ap (λ (x : Files). database_of head x) (sym same)))

-- ---- the start

pub store_starts : {D : Type 0} (files : D → Option Files) (faults moment : D → ℕ) (left : D → ℕ → Files → Type 0) (trace : Recording) (kept : Recorded) (begin : Head) (start : D)
    → KeepsStore files faults moment left trace kept begin start start 0 begin None
store_starts files faults moment left trace kept begin start = record {
  within = omega arith;
  heads = λ fine. refl;
  rows = λ fine le. le;
  grown = λ f told has fine. (f, told, has, none_grown trace kept (database_of begin f));
  count = refl;
  cause = λ f fault told has is before. none_some fault is;
  any_moment = λ f tells. only_reads (MayBeGrown trace kept 0 0 (database_of begin f))
      (λ c here. (0, omega arith, omega arith, (database_of begin f, none_grown trace kept (database_of begin f), (begin, (tells.crash c here).0, (tells.crash c here).1))))
      (stands_still (moment start) (left start) (left start (moment start)));
  present = λ f g tells is. (0, omega arith, omega arith, stands_by trace kept 0 (database_of begin f) begin f g (sym tells.told ∙ is) tells.has_head (none_grown trace kept (database_of begin f)));
  after_it = λ f g tells fine is. subst (λ (x : Files). TellsNow files moment left start begin x) (one_file f g (sym tells.told ∙ is)) tells;
}

-- ---- no call of the store

memory_comes : {D : Type 0} (files : D → Option Files) (faults moment : D → ℕ) (left : D → ℕ → Files → Type 0) (trace : Recording) (kept : Recorded) (begin : Head) (start now : D) (parts : ℕ) (head : Head)
    → KeepsStore files faults moment left trace kept begin start now parts head None → KeepsStore files faults moment left trace kept begin start now parts head (Some Memory)
memory_comes files faults moment left trace kept begin start now parts head keeps = record {
  within = keeps.within;
  heads = λ fine. some_none Memory fine;
  rows = λ fine le. some_none Memory fine;
  grown = λ f told has fine. some_none Memory fine;
  count = keeps.count;
  cause = λ f fault told has is before. never fault is before;
  any_moment = λ f tells. leaves_wider (λ c h. at_most trace kept 0 0 parts (parts + 1) (database_of begin f) c (omega arith) (omega arith) h) (keeps.any_moment f tells);
  present = λ f g tells is. at_most trace kept parts parts parts (parts + 1) (database_of begin f) g (omega arith) (omega arith) (keeps.present f g tells is);
  after_it = λ f g tells fine is. some_none Memory fine;
}
  where
    never : {B : Type 0} (fault : DbFault) → Some Memory ≡ Some fault → is_found_before fault ≡ true → B
    never StoreFault is before = absurd cc
    never (Bad file) is before = absurd cc
    never (Full what held added) is before = absurd cc
    never Memory is before = absurd cc

pub store_rests : {D : Type 0} (files : D → Option Files) (faults moment : D → ℕ) (left : D → ℕ → Files → Type 0) (trace : Recording) (kept : Recorded) (begin : Head) (start now : D) (parts : ℕ) (head : Head) (o p : Option DbFault)
    → FaultRests o p → KeepsStore files faults moment left trace kept begin start now parts head o → KeepsStore files faults moment left trace kept begin start now parts head p
store_rests files faults moment left trace kept begin start now parts head (Some fault) p rests keeps =
    subst (λ (q : Option DbFault). KeepsStore files faults moment left trace kept begin start now parts head q) (sym rests) keeps
store_rests files faults moment left trace kept begin start now parts head None p (inl none) keeps =
    subst (λ (q : Option DbFault). KeepsStore files faults moment left trace kept begin start now parts head q) (sym none) keeps
store_rests files faults moment left trace kept begin start now parts head None p (inr some) keeps =
    subst (λ (q : Option DbFault). KeepsStore files faults moment left trace kept begin start now parts head q) (sym some) (memory_comes files faults moment left trace kept begin start now parts head keeps)

-- ---- a part that is committed, or fails

-- one part more
one_grown : (trace : Recording) (kept : Recorded) (part : ℕ) (db before new : Database) → part + 1 ≤ part_count (records_in trace) → kept.run ≡ db.runs + 1 → kept.first_epoch ≡ db.last_epoch
    → GrownBy trace kept part db before
    → GrowsByPart trace.images (records_in trace) (epoch_after_parts kept.first_epoch (records_in trace) (part + 1)) (segment_of (records_in trace) kept part) before new
    → GrownBy trace kept (part + 1) db new
one_grown trace kept part db before new within run first grown grows =
    let more : suc part ≡ part + 1 = omega arith in
    record {
      within = within;
      run = λ h. run;
      first_epoch = λ h. first;
      steps = subst (λ (n : ℕ). GrowsTo trace.images (records_in trace) kept n db new) more
          (before, grown.steps, subst (λ (n : ℕ). GrowsByPart trace.images (records_in trace) (epoch_after_parts kept.first_epoch (records_in trace) n) (segment_of (records_in trace) kept part) before new) (sym more) grows);
    }

-- one head more
one_head : (trace : Recording) (kept : Recorded) (part : ℕ) (begin before new : Head) → HeadGrownBy trace kept part begin before
    → HeadGrows trace.images (additions_of trace.images (records_in trace) (segment_of (records_in trace) kept part).drains) (epoch_after_parts kept.first_epoch (records_in trace) (part + 1)) (segment_of (records_in trace) kept part) before new
    → HeadGrownBy trace kept (part + 1) begin new
one_head trace kept part begin before new grown grows =
    let more : suc part ≡ part + 1 = omega arith in
    subst (λ (n : ℕ). HeadGrowsTo trace.images (records_in trace) kept n begin new) more (
      before,
      grown,
      subst (λ (n : ℕ). HeadGrows trace.images (additions_of trace.images (records_in trace) (segment_of (records_in trace) kept part).drains) (epoch_after_parts kept.first_epoch (records_in trace) n) (segment_of (records_in trace) kept part) before new) (sym more) grows,
    )

-- the database before the part or the grown one is one of the first parts
either_grown : (trace : Recording) (kept : Recorded) (begin : Head) (part : ℕ) (head : Head) (f : Files) (before : Database) (c : Files) → FollowsOn kept begin → part + 1 ≤ part_count (records_in trace)
    → GrownBy trace kept part (database_of begin f) before → BeforeOrGrown (part_at trace kept part head) before c → MayBeGrown trace kept part (part + 1) (database_of begin f) c
either_grown trace kept begin part head f before c follows within grown (inl stands) = (part, omega arith, omega arith, (before, grown, stands))
either_grown trace kept begin part head f before c follows within grown (inr (new, grows, stands)) =
    (part + 1, omega arith, omega arith, (new, one_grown trace kept part (database_of begin f) before new within follows.run follows.first_epoch grown grows, stands))

-- the part was committed
pub store_grows : {D : Type 0} (files : D → Option Files) (faults moment : D → ℕ) (left : D → ℕ → Files → Type 0) (trace : Recording) (kept : Recorded) (begin head next : Head) (start now after : D) (parts : ℕ)
    → FollowsOn kept begin → parts + 1 ≤ part_count (records_in trace)
    → KeepsStore files faults moment left trace kept begin start now parts head None → IsCommitted files faults moment left (part_at trace kept parts head) next now after
    → KeepsStore files faults moment left trace kept begin start after (parts + 1) next None
store_grows files faults moment left trace kept begin head next start now after parts follows within keeps committed = record {
  within = within;
  heads = λ fine. one_head trace kept parts begin head next (keeps.heads refl) committed.head;
  rows = λ fine le. committed.rows;
  grown = λ f is has fine. told f is has;
  count = committed.count ∙ keeps.count;
  cause = λ f fault first has is before. none_some fault is;
  any_moment = λ f tells. let g = keeps.grown f tells.told tells.has_head refl in
      leaves_join (MayBeGrown trace kept 0 (parts + 1) (database_of begin f))
      (λ c h. at_most trace kept 0 0 parts (parts + 1) (database_of begin f) c (omega arith) (omega arith) h)
      (λ c h. at_most trace kept parts 0 (parts + 1) (parts + 1) (database_of begin f) c (omega arith) (omega arith) (either_grown trace kept begin parts head f (database_of head g.0) c follows within g.3 h))
      (keeps.any_moment f tells) (committed.any_moment g.0 (keeps.after_it f g.0 tells refl g.1));
  present = λ f c tells is. let mine = told f tells.told tells.has_head in
      (parts + 1, omega arith, omega arith, stands_by trace kept (parts + 1) (database_of begin f) next mine.0 c (sym mine.1 ∙ is) mine.2 mine.3);
  after_it = λ f c tells fine is. let g = keeps.grown f tells.told tells.has_head refl in committed.after_it g.0 c (keeps.after_it f g.0 tells refl g.1) is;
}
  where
    told : (f : Files) → files start ≡ Some f → HaveHead f begin → (g : Files) × (files after ≡ Some g) × HaveHead g next × GrownBy trace kept (parts + 1) (database_of begin f) (database_of next g)
    told f is has =
        let g = keeps.grown f is has refl in
        let grown = committed.grows g.0 g.1 g.2 in
        (grown.0, grown.1, grown.2, one_grown trace kept parts (database_of begin f) (database_of head g.0) (database_of next grown.0) within follows.run follows.first_epoch g.3 grown.3)

-- the fault that is answered is the first one of the part
first_fault : (part : Part) (other fault : DbFault) → is_found_before fault ≡ true → IsAnswered {T = Unit {0}} other (Err fault) → other ≡ fault
first_fault part other StoreFault before is = absurd cc
first_fault part other (Bad file) before is = is
first_fault part other (Full what held added) before is = is
first_fault part other Memory before is = absurd cc

-- it failed
pub store_fails : {D : Type 0} (files : D → Option Files) (faults moment : D → ℕ) (left : D → ℕ → Files → Type 0) (trace : Recording) (kept : Recorded) (begin head : Head) (start now after : D) (parts : ℕ) (fault : DbFault)
    → FollowsOn kept begin → parts + 1 ≤ part_count (records_in trace)
    → KeepsStore files faults moment left trace kept begin start now parts head None → HasFailed files faults moment left (part_at trace kept parts head) fault now after
    → KeepsStore files faults moment left trace kept begin start after parts head (Some fault)
store_fails {D = D} files faults moment left trace kept begin head start now after parts fault follows within keeps failed = record {
  within = omega (arith, within);
  heads = λ fine. some_none fault fine;
  rows = λ fine le. some_none fault fine;
  grown = λ f told has fine. some_none fault fine;
  count = subst (λ (n : ℕ). IsChangeCause n (faults after) fault) keeps.count failed.count;
  cause = λ f other told has is before. let same : fault ≡ other = cc in
      subst (λ (x : DbFault). (g : Files) × (files after ≡ Some g) × StopsAt trace kept parts begin f g x) same (stops f told has (subst (λ (x : DbFault). is_found_before x ≡ true) (sym same) before));
  any_moment = λ f tells. moments f tells (is_found_before fault) refl;
  present = λ f c tells is. stays f c tells is (is_found_before fault) refl;
  after_it = λ f c tells fine is. some_none fault fine;
}
  where
    stops : (f : Files) → files start ≡ Some f → HaveHead f begin → is_found_before fault ≡ true → (g : Files) × (files after ≡ Some g) × StopsAt trace kept parts begin f g fault
    stops f told has before =
        let g = keeps.grown f told has refl in (
          g.0,
          (failed.reads before).files ∙ g.1,
          record {
            there = omega (arith, within);
            head = head;
            heads = keeps.heads refl;
            has_head = g.2;
            grown = g.3;
            cause = failed.cause g.0 g.1;
            first = λ other wrong. first_fault (part_at trace kept parts head) other fault before (failed.first g.0 other g.1 wrong);
          },
        )

    moments : (f : Files) → TellsNow files moment left start begin f → (b : Bool) → is_found_before fault ≡ b → LeavesOnly moment left start after (MayBeGrown trace kept 0 (if b then parts else parts + 1) (database_of begin f))
    moments f tells true before =
        let g = keeps.grown f tells.told tells.has_head refl in
        let here = keeps.after_it f g.0 tells refl g.1 in
        leaves_join (MayBeGrown trace kept 0 parts (database_of begin f))
        (λ c h. h)
        (λ c h. h)
        (keeps.any_moment f tells)
        (only_reads (MayBeGrown trace kept 0 parts (database_of begin f)) (λ c now_c. (parts, omega arith, omega arith, (database_of head g.0, g.3, (head, (here.crash c now_c).0, (here.crash c now_c).1)))) (failed.reads before).time)
    moments f tells false before =
        let g = keeps.grown f tells.told tells.has_head refl in
        leaves_join (MayBeGrown trace kept 0 (parts + 1) (database_of begin f))
        (λ c h. at_most trace kept 0 0 parts (parts + 1) (database_of begin f) c (omega arith) (omega arith) h)
        (λ c h. at_most trace kept parts 0 (parts + 1) (parts + 1) (database_of begin f) c (omega arith) (omega arith) (either_grown trace kept begin parts head f (database_of head g.0) c follows within g.3 h))
        (keeps.any_moment f tells) (failed.any_moment g.0 (keeps.after_it f g.0 tells refl g.1))

    stays : (f c : Files) → TellsNow files moment left start begin f → files after ≡ Some c → (b : Bool) → is_found_before fault ≡ b → MayBeGrown trace kept parts (if b then parts else parts + 1) (database_of begin f) c
    stays f c tells is true before =
        let g = keeps.grown f tells.told tells.has_head refl in
        (parts, omega arith, omega arith, stands_by trace kept parts (database_of begin f) head g.0 c (sym ((failed.reads before).files ∙ g.1) ∙ is) g.2 g.3)
    stays f c tells is false before =
        let g = keeps.grown f tells.told tells.has_head refl in
        either_grown trace kept begin parts head f (database_of head g.0) c follows within g.3 (failed.present g.0 c (keeps.after_it f g.0 tells refl g.1) is)
