-- A run inside its scope: what holds before its first round, and that its joined lanes can be ended.
use Rattle.std.proofs.Common.{◌≡◌, refl, sym, ◌∙◌, ap, subst, arith, ℕ, ◌+◌, List, [], ◌∷◌, length, Option}
use Rattle.std.proofs.lemmas.List.{length-map}
use Rattle.sample_key.specs.declared.losses.Pace.{Pace}
use Rattle.trace_model.specs.Recording.{Recording}
use Rattle.store_io.specs.Files.{Files}
use Rattle.database_state.specs.Heads.{Head}
use Rattle.lane_side.specs.Fixed.{Fixed}
use Rattle.shared_side.specs.Shown.{Shown}
use Rattle.run_model.specs.Daemon.{new_daemon}
use Rattle.lane_threads.specs.Pairs.{Pairwise}
use Rattle.lane_threads.specs.Promising.{IsOfWork}
use Rattle.lane_threads.specs.Starting.{AllStart, AreEndsOfOne}
use Rattle.lane_threads.specs.Working.{Working, IsEnded}
use Rattle.lane_threads.specs.declared.starts.Waiting.{Waiting}
use Rattle.lane_threads.proofs.Pairing.{pairs_then}
use Rattle.dcpid_core.specs.Collection.{Collection, new_collection}
use Rattle.replay_drive.specs.Growing.{KeepsStore}
use Rattle.replay_drive.proofs.StoreKept.{store_starts}
use Rattle.daemon_rounds.specs.Beginning.{NewDaemonsKnow}
use Rattle.daemon_rounds.specs.Knowing.{Knows}
use Rattle.daemon_rounds.specs.Sides.{AreIdle, AreNew}
use Rattle.daemon_rounds.specs.Storing.{KeepsRun, StopsEarly}
use Rattle.run_drive.specs.Ending.{AllEnded, HasJoined, IsJoining}
use Rattle.run_drive.specs.Running.{Finishes, IsReady, IsUnderWay, plain_sides}
use Rattle.run_drive.proofs.Driving.{fixed_in}

-- ---- lists whose elements belong together

pub pairs_length : {A B : Type 0} (R : A → B → Type 0) (xs : List A) (ys : List B) → Pairwise R xs ys → length xs ≡ length ys
pairs_length R [] [] p = refl
pairs_length R [] (y ∷ ys) p = absurd p
pairs_length R (x ∷ xs) [] p = absurd p
pairs_length R (x ∷ xs) (y ∷ ys) p = omega (arith, pairs_length R xs ys p.1)

turned : {A B : Type 0} (R : A → B → Type 0) (xs : List A) (ys : List B) → Pairwise R xs ys → Pairwise (λ y x. R x y) ys xs
turned R [] [] p = tt
turned R [] (y ∷ ys) p = absurd p
turned R (x ∷ xs) [] p = absurd p
turned R (x ∷ xs) (y ∷ ys) p = (p.0, turned R xs ys p.1)

-- a work and a side of one processor at the start are ends of the same cells
pub ends_at_start : (pace : Pace) (trace : Recording) (cpu : ℕ) (works : List Working) (sides : List Shown) → AllStart pace trace cpu works sides → Pairwise AreEndsOfOne works sides
ends_at_start pace trace cpu [] [] start = tt
ends_at_start pace trace cpu [] (s ∷ ss) start = absurd start
ends_at_start pace trace cpu (w ∷ ws) [] start = absurd start
ends_at_start pace trace cpu (w ∷ ws) (s ∷ ss) start = (start.0.ends, ends_at_start pace trace (cpu + 1) ws ss start.1)

fixed_pairs : (sides after : List Shown) → fixed_in after ≡ fixed_in sides → Pairwise (λ (s t : Shown). t.fixed ≡ s.fixed) sides after
fixed_pairs [] [] same = tt
fixed_pairs [] (t ∷ ts) same = absurd cc
fixed_pairs (s ∷ ss) [] same = absurd cc
fixed_pairs (s ∷ ss) (t ∷ ts) same = (cc, fixed_pairs ss ts cc)

-- ---- before the first round

sides_new : (pace : Pace) (trace : Recording) (cpu : ℕ) (works : List Working) (sides : List Shown) → AllStart pace trace cpu works sides → AreNew trace cpu (plain_sides sides)
sides_new pace trace cpu [] [] start = tt
sides_new pace trace cpu [] (s ∷ ss) start = absurd start
sides_new pace trace cpu (w ∷ ws) [] start = absurd start
sides_new pace trace cpu (w ∷ ws) (s ∷ ss) start =
    let new = start.0.daemons in
    (record { cpu_is = new.cpu_is; samples = new.samples; seen = new.seen; far = new.far }, sides_new pace trace (cpu + 1) ws ss start.1)

-- What the daemon knows and keeps before its first round.
pub record HasBegun {D : Type 0} (files : D → Option Files) (faults moment : D → ℕ) (left : D → ℕ → Files → Type 0) (pace : Pace) (trace : Recording) (begin : Head) (start : D) (daemon : Collection) (sides : List Shown) : Type 0 where
  pub knows : Knows pace trace (begin.runs + 1) begin.epoch (new_daemon begin.epoch) daemon (plain_sides sides)
  pub idle : AreIdle (plain_sides sides)
  pub store : KeepsRun files faults moment left trace begin start start (new_daemon begin.epoch) daemon
  pub early : StopsEarly daemon

pub has_begun : {D : Type 0} (files : D → Option Files) (faults moment : D → ℕ) (left : D → ℕ → Files → Type 0) → NewDaemonsKnow → (pace : Pace) (trace : Recording) (begin : Head) (start : D) (waiting : List Waiting) (sides : List Shown) (daemon : Collection)
    → IsReady pace trace begin waiting sides daemon → HasBegun files faults moment left pace trace begin start daemon sides
has_begun files faults moment left law pace trace begin start waiting sides daemon ready =
    let many : length (plain_sides sides) ≡ trace.cpus =
    length-map sides _ ∙ sym (pairs_length AreEndsOfOne ready.works sides (ends_at_start pace trace 0 ready.works sides ready.start)) ∙ ready.count in
    let new = law pace trace begin (plain_sides sides) ready.fit.cpus many (sides_new pace trace 0 ready.works sides ready.start) in
    let is : new_collection trace pace begin ≡ daemon = sym ready.daemon_is in
    record {
      knows = subst (λ (d : Collection). Knows pace trace (begin.runs + 1) begin.epoch (new_daemon begin.epoch) d (plain_sides sides)) is new.0;
      idle = new.1;
      store = λ kept goes. subst (λ (d : Collection). KeepsStore files faults moment left trace kept begin start start d.part d.head d.failure) is
          (store_starts files faults moment left trace kept begin start);
      early = subst (λ (d : Collection). StopsEarly d) is (λ fault some other. absurd cc);
    }

pub under_way : {D : Type 0} (files : D → Option Files) (faults moment : D → ℕ) (left : D → ℕ → Files → Type 0) (pace : Pace) (trace : Recording) (begin : Head) (start : D) (daemon : Collection) (sides : List Shown)
    → HasBegun files faults moment left pace trace begin start daemon sides → IsUnderWay files faults moment left start daemon sides
under_way files faults moment left pace trace begin start daemon sides h = (pace, trace, begin, start, new_daemon begin.epoch, h.knows, h.store)

-- ---- after the last

all_ended : (pace : Pace) (trace : Recording) (cpu : ℕ) (works ended : List Working) (sides : List Shown) → AllStart pace trace cpu works sides → Pairwise IsEnded works ended → AllEnded pace trace cpu ended
all_ended pace trace cpu [] [] sides start p = tt
all_ended pace trace cpu [] (e ∷ es) sides start p = absurd p
all_ended pace trace cpu (w ∷ ws) [] sides start p = absurd p
all_ended pace trace cpu (w ∷ ws) (e ∷ es) [] start p = absurd start
all_ended pace trace cpu (w ∷ ws) (e ∷ es) (s ∷ ss) start p = (
  record { setup = p.0.later.same.setup ∙ start.0.setup; buckets = p.0.later.same.buckets ∙ start.0.buckets; done = p.0.done },
  all_ended pace trace (cpu + 1) ws es ss start.1 p.1,
)

ends_at_end : (pace : Pace) (trace : Recording) (works ended : List Working) (sides after : List Shown) → AllStart pace trace 0 works sides → Pairwise IsEnded works ended → fixed_in after ≡ fixed_in sides
    → Pairwise AreEndsOfOne ended after
ends_at_end pace trace works ended sides after start p fixed =
    pairs_then AreEndsOfOne (λ (s t : Shown). t.fixed ≡ s.fixed) AreEndsOfOne ended sides after
    (λ (e : Working) (s t : Shown) ends same. ends ∙ ap (λ (z : Fixed). z.ends) (sym same))
    (pairs_then (λ (e w : Working). IsEnded w e) AreEndsOfOne AreEndsOfOne ended works sides
    (λ (e w : Working) (s : Shown) is ends. ap (λ (z : Fixed). z.ends) is.later.same.fixed ∙ ends)
    (turned IsEnded works ended p) (ends_at_start pace trace 0 works sides start))
    (fixed_pairs sides after fixed)

pub has_joined : {D : Type 0} (files : D → Option Files) (faults moment : D → ℕ) (left : D → ℕ → Files → Type 0) → NewDaemonsKnow → (pace : Pace) (trace : Recording) (begin : Head) (start now : D)
    (waiting : List Waiting) (sides after : List Shown) (daemon last : Collection) (ended : List Working)
    → ((works : List Working) → Pairwise IsOfWork works waiting → Pairwise IsEnded works ended) → fixed_in after ≡ fixed_in sides
    → Finishes files faults moment left daemon sides start last after now → IsReady pace trace begin waiting sides daemon
    → HasJoined files faults moment left pace trace begin start now last ended after
has_joined files faults moment left law pace trace begin start now waiting sides after daemon last ended ends fixed finishes ready =
    let p = ends ready.works ready.wait in
    let begun = has_begun files faults moment left law pace trace begin start waiting sides daemon ready in
    record {
      fit = ready.fit;
      count = sym (pairs_length IsEnded ready.works ended p) ∙ ready.count;
      ended = all_ended pace trace 0 ready.works ended sides ready.start p;
      ends = ends_at_end pace trace ready.works ended sides after ready.start p fixed;
      finished = finishes pace trace begin start (new_daemon begin.epoch) begun.knows begun.store begun.early;
    }

pub is_joining : {D : Type 0} (files : D → Option Files) (faults moment : D → ℕ) (left : D → ℕ → Files → Type 0) (pace : Pace) (trace : Recording) (begin : Head) (start now : D) (last : Collection) (ended : List Working) (after : List Shown)
    → HasJoined files faults moment left pace trace begin start now last ended after → IsJoining pace trace (begin.runs + 1) begin.epoch last ended after
is_joining files faults moment left pace trace begin start now last ended after h = record {
  fit = h.fit;
  count = h.count;
  ended = h.ended;
  ends = h.ends;
  over = h.finished.over;
  until = h.finished.until;
  knows = h.finished.knows;
}
