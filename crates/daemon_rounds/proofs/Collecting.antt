-- What the daemon drained of a processor is what it took, through each take; and what it took since a fault was kept comes after it.
use Rattle.std.proofs.Common.{◌≡◌, refl, sym, ◌∙◌, ap, subst, ℕ, List, [], ◌∷◌, ◌++◌, append_assoc, append-nil, eq-eqb, Bool, true, false, if◌then◌else◌}
use Rattle.std.specs.Prelude.{◌==◌, ◌&&◌}
use Rattle.sample_key.specs.Sent.{Sent}
use Rattle.sample_key.specs.declared.losses.Pace.{Pace}
use Rattle.trace_model.specs.Recording.{Recording}
use Rattle.trace_model.specs.Streams.{records_in, stream_of}
use Rattle.driver_model.specs.Lists.{AllOf}
use Rattle.driver_model.specs.Handover.{FarSide}
use Rattle.driver_laws.proofs.Lists.{all_push}
use Rattle.database_model.specs.Runs.{Drained}
use Rattle.run_model.specs.Daemon.{Daemon, drain_of, noted}
use Rattle.run_model.specs.Shares.{drains_of, is_of}
use Rattle.run_model.specs.Validity.{IsDueAt}
use Rattle.run_laws.proofs.Basics.{eqb_apart}
use Rattle.run_laws.proofs.Systems.{drains_other, drains_push}
use Rattle.run_joins.specs.Collecting.{Collects}
use Rattle.daemon_rounds.specs.Knowing.{AreFrontOf, IsCollected, WasCollected}

-- ---- what was taken first

pub same_front : (taken : List Sent) → AreFrontOf taken taken
same_front taken = ([], append-nil taken)

pub one_more : (taken : List Sent) (batch : Sent) → AreFrontOf taken (taken ++ batch ∷ [])
one_more taken batch = (batch ∷ [], refl)

front_on : (front taken later : List Sent) → AreFrontOf front taken → AreFrontOf taken later → AreFrontOf front later
front_on front taken later (rest, is) (more, on) = (rest ++ more, sym (append_assoc front rest more) ∙ ap (λ z. z ++ more) is ∙ on)

-- Of each cell there was taken what had been taken, and maybe more.
pub record TookOn (before after : FarSide) : Type 0 where
  pub first : AreFrontOf before.first.taken after.first.taken
  pub second : AreFrontOf before.second.taken after.second.taken
  pub third : AreFrontOf before.third.taken after.third.taken

-- a fault was kept: what is drained is what was taken
pub was_then : (pace : Pace) (trace : Recording) (cpu : ℕ) (until : Daemon) (far : FarSide) → IsCollected pace trace cpu until far → WasCollected pace trace cpu until far
was_then pace trace cpu until far collected = record {
  then = far;
  collected = collected;
  first = same_front far.first.taken;
  second = same_front far.second.taken;
  third = same_front far.third.taken;
}

-- and stays so, whatever is taken later
pub was_later : (pace : Pace) (trace : Recording) (cpu : ℕ) (until : Daemon) (far later : FarSide) → TookOn far later → WasCollected pace trace cpu until far → WasCollected pace trace cpu until later
was_later pace trace cpu until far later on was = record {
  then = was.then;
  collected = was.collected;
  first = front_on was.then.first.taken far.first.taken later.first.taken was.first on.first;
  second = front_on was.then.second.taken far.second.taken later.second.taken was.second on.second;
  third = front_on was.then.third.taken far.third.taken later.third.taken was.third on.third;
}

-- ---- one drain more

-- the drains of a cell, after one more of this cell
abbrev pub with_drain : ℕ → ℕ → List Drained → Drained → List Drained
with_drain cell mine drains drain = if cell == mine then drains ++ drain ∷ [] else drains

pub drains_more : (cpu cell mine : ℕ) (drains : List Drained) (drain : Drained) → drain.batch.note.cpu ≡ cpu → drain.batch.note.cell ≡ cell
    → drains_of cpu mine (drains ++ drain ∷ []) ≡ with_drain cell mine (drains_of cpu mine drains) drain
drains_more cpu cell mine drains drain cpu_is cell_is = by (cell == mine) own
  where
    own : is_of cpu mine drain ≡ (cell == mine)
    own = ap (λ (t : Bool). t && (drain.batch.note.cell == mine)) (eq-eqb drain.batch.note.cpu cpu cpu_is) ∙ ap (λ (k : ℕ). k == mine) cell_is

    by : (t : Bool) → is_of cpu mine drain ≡ t → drains_of cpu mine (drains ++ drain ∷ []) ≡ (if t then drains_of cpu mine drains ++ drain ∷ [] else drains_of cpu mine drains)
    by true is = sym (drains_push cpu mine drains drain is)
    by false is = sym (drains_other cpu mine drains drain is)

-- a drain of another processor leaves them
pub drains_apart : (cpu mine : ℕ) (drains : List Drained) (drain : Drained) → (drain.batch.note.cpu ≡ cpu → ⊥) → drains_of cpu mine (drains ++ drain ∷ []) ≡ drains_of cpu mine drains
drains_apart cpu mine drains drain apart =
    sym (drains_other cpu mine drains drain (ap (λ (t : Bool). t && (drain.batch.note.cell == mine)) (eqb_apart drain.batch.note.cpu cpu apart)))

all_with : (P : Drained → Type 0) (t : Bool) (drains : List Drained) (drain : Drained) → AllOf P drains → P drain → AllOf P (if t then drains ++ drain ∷ [] else drains)
all_with P true drains drain all one = all_push P drains drain all one
all_with P false drains drain all one = all

pub all_more : (P : Drained → Type 0) (cpu cell mine : ℕ) (drains : List Drained) (drain : Drained) → drain.batch.note.cpu ≡ cpu → drain.batch.note.cell ≡ cell
    → AllOf P (drains_of cpu mine drains) → P drain → AllOf P (drains_of cpu mine (drains ++ drain ∷ []))
all_more P cpu cell mine drains drain cpu_is cell_is all one =
    subst (λ (z : List Drained). AllOf P z) (sym (drains_more cpu cell mine drains drain cpu_is cell_is)) (all_with P (cell == mine) (drains_of cpu mine drains) drain all one)

-- the same of lists that are equal
pub collects_as : (pace : Pace) (trace : Recording) (daemon : Daemon) (far : FarSide) (f f' g g' h h' : List Drained) → f ≡ f' → g ≡ g' → h ≡ h'
    → Collects pace (records_in trace) daemon f g h far → Collects pace (records_in trace) daemon f' g' h' far
collects_as pace trace daemon far f f' g g' h h' a b c collects =
    subst (λ (z : List Drained). Collects pace (records_in trace) daemon f' g' z far) c
    (subst (λ (z : List Drained). Collects pace (records_in trace) daemon f' z h far) b
    (subst (λ (z : List Drained). Collects pace (records_in trace) daemon z g h far) a collects))

-- what is known of another processor
pub collected_other : (pace : Pace) (trace : Recording) (cpu : ℕ) (until : Daemon) (far : FarSide) (batch : Sent) → (batch.note.cpu ≡ cpu → ⊥)
    → IsCollected pace trace cpu until far → IsCollected pace trace cpu (noted (records_in trace) until batch) far
collected_other pace trace cpu until far batch apart is =
    let drain : Drained = drain_of (records_in trace) until batch in
    let same0 = sym (drains_apart cpu 0 until.drains drain apart) in
    let same1 = sym (drains_apart cpu 1 until.drains drain apart) in
    let same2 = sym (drains_apart cpu 2 until.drains drain apart) in
    let now : Collects pace (records_in trace) (noted (records_in trace) until batch) (drains_of cpu 0 until.drains) (drains_of cpu 1 until.drains) (drains_of cpu 2 until.drains) far =
    record {
      taken0 = is.collects.taken0;
      taken1 = is.collects.taken1;
      taken2 = is.collects.taken2;
      before0 = is.collects.before0;
      before1 = is.collects.before1;
      before2 = is.collects.before2;
      collected = is.collects.collected;
    } in
    record {
      collects = collects_as pace trace (noted (records_in trace) until batch) far _ _ _ _ _ _ same0 same1 same2 now;
      due0 = subst (λ (z : List Drained). AllOf (IsDueAt (stream_of cpu trace)) z) same0 is.due0;
      due1 = subst (λ (z : List Drained). AllOf (IsDueAt (stream_of cpu trace)) z) same1 is.due1;
      due2 = subst (λ (z : List Drained). AllOf (IsDueAt (stream_of cpu trace)) z) same2 is.due2;
    }
