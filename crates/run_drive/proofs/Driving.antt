-- The daemon's rounds, from the first to any.
use Rattle.std.proofs.Common.{◌≡◌, ap, subst, sym, ◌∙◌, ℕ, ◌+◌, List, Option, length, map}
use Rattle.std.proofs.lemmas.List.{length-map}
use Rattle.sample_key.specs.declared.losses.Pace.{Pace}
use Rattle.trace_model.specs.Recording.{Recording}
use Rattle.store_io.specs.Files.{Files}
use Rattle.database_state.specs.Heads.{Head}
use Rattle.run_model.specs.Daemon.{Daemon}
use Rattle.lane_side.specs.Fixed.{Fixed}
use Rattle.shared_side.specs.Shown.{Shown}
use Rattle.dcpid_core.specs.Collection.{Collection}
use Rattle.daemon_rounds.specs.Going.{IsGoing, IsOver}
use Rattle.daemon_rounds.specs.Knowing.{Knows}
use Rattle.daemon_rounds.specs.Sides.{AreIdle}
use Rattle.daemon_rounds.specs.Storing.{GoesOn, KeepsRun, StopsEarly}
use Rattle.run_drive.specs.Running.{Finishes, IsUnderWay, plain_sides}

-- After some rounds the daemon knows its sides still, and has kept the store.
abbrev pub GoesSince : {D : Type 0} (files : D → Option Files) (faults moment : D → ℕ) (left : D → ℕ → Files → Type 0) → Collection → List Shown → D → Collection → List Shown → D → Type 0
GoesSince {D} files faults moment left before sides old after more new =
    (pace : Pace) (trace : Recording) (begin : Head) (start : D) (until : Daemon)
    → Knows pace trace (begin.runs + 1) begin.epoch until before (plain_sides sides)
    → KeepsRun files faults moment left trace begin start old until before
    → (later : Daemon) × Knows pace trace (begin.runs + 1) begin.epoch later after (plain_sides more)
    × KeepsRun files faults moment left trace begin start new later after

-- before the first
pub none_since : {D : Type 0} (files : D → Option Files) (faults moment : D → ℕ) (left : D → ℕ → Files → Type 0) (daemon : Collection) (sides : List Shown) (store : D)
    → GoesSince files faults moment left daemon sides store daemon sides store
none_since files faults moment left daemon sides store = λ pace trace begin start until knows keeps. (until, knows, keeps)

-- one more
pub more_since : {D : Type 0} (files : D → Option Files) (faults moment : D → ℕ) (left : D → ℕ → Files → Type 0) (d e f : Collection) (ds es fs : List Shown) (s t u : D)
    → GoesSince files faults moment left d ds s e es t → GoesOn files faults moment left e (plain_sides es) t f (plain_sides fs) u
    → GoesSince files faults moment left d ds s f fs u
more_since files faults moment left d e f ds es fs s t u first next = λ pace trace begin start until knows keeps.
    let so = first pace trace begin start until knows keeps in
    let one = next pace trace begin start so.0 so.1 so.2 in (one.later, one.knows, one.store)

-- a run that is under way stays so
pub stays_under_way : {D : Type 0} (files : D → Option Files) (faults moment : D → ℕ) (left : D → ℕ → Files → Type 0) (d e : Collection) (ds es : List Shown) (s t : D)
    → GoesSince files faults moment left d ds s e es t → IsUnderWay files faults moment left s d ds → IsUnderWay files faults moment left t e es
stays_under_way files faults moment left d e ds es s t since way =
    let so = since way.0 way.1 way.2 way.3 way.4 way.5 way.6 in (way.0, way.1, way.2, way.3, so.0, so.1, so.2)

pub goes_under_way : {D : Type 0} (files : D → Option Files) (faults moment : D → ℕ) (left : D → ℕ → Files → Type 0) (d : Collection) (ds : List Shown) (s : D)
    → IsUnderWay files faults moment left s d ds → IsGoing d (plain_sides ds)
goes_under_way files faults moment left d ds s way = (way.0, way.1, way.2.runs + 1, way.2.epoch, way.4, way.5)

-- the last
pub finishes_then : {D : Type 0} (files : D → Option Files) (faults moment : D → ℕ) (left : D → ℕ → Files → Type 0) (d f : Collection) (ds fs : List Shown) (s u : D)
    → GoesSince files faults moment left d ds s f fs u → IsOver f (plain_sides fs) → (StopsEarly d → StopsEarly f)
    → Finishes files faults moment left d ds s f fs u
finishes_then files faults moment left d f ds fs s u since over early = λ pace trace begin start until knows keeps soon.
    let so = since pace trace begin start until knows keeps in
    record { until = so.0; over = over; knows = so.1; store = so.2; early = early soon }

-- ---- one round more

-- what no call changes of the sides
abbrev pub fixed_in : List Shown → List Fixed
fixed_in sides = map (λ side. side.fixed) sides

-- there are as many sides as there were
pub as_many : (es mid fs : List Shown) (n : ℕ) → mid ≡ es → n ≡ length es → fixed_in fs ≡ fixed_in mid → length fs ≡ n
as_many es mid fs n value count fixed =
    sym (length-map fs (λ (side : Shown). side.fixed)) ∙ ap (λ (z : List Fixed). length z) fixed ∙ length-map mid (λ (side : Shown). side.fixed)
    ∙ ap (λ (z : List Shown). length z) value ∙ sym count

-- What a round leaves of the sides that were lent and came back.
pub record IsRoundOver {D : Type 0} (files : D → Option Files) (faults moment : D → ℕ) (left : D → ℕ → Files → Type 0) (d f : Collection) (ds last : List Shown) (s u : D) : Type 0 where
  pub since : GoesSince files faults moment left d ds s f last u
  pub early : StopsEarly d → StopsEarly f
  pub idle : AreIdle (plain_sides last)
  pub fixed : fixed_in last ≡ fixed_in ds

pub round_over : {D : Type 0} (files : D → Option Files) (faults moment : D → ℕ) (left : D → ℕ → Files → Type 0) (d e f : Collection) (ds es mid fs last : List Shown) (s t u : D)
    → mid ≡ es → last ≡ fs → GoesSince files faults moment left d ds s e es t → (StopsEarly d → StopsEarly e) → fixed_in es ≡ fixed_in ds
    → GoesOn files faults moment left e (plain_sides mid) t f (plain_sides fs) u → (StopsEarly e → StopsEarly f) → AreIdle (plain_sides fs) → fixed_in fs ≡ fixed_in mid
    → IsRoundOver files faults moment left d f ds last s u
round_over files faults moment left d e f ds es mid fs last s t u value back since early fixed goes soon idle same =
    subst (λ (z : List Shown). IsRoundOver files faults moment left d f ds z s u) (sym back) (record {
      since = more_since files faults moment left d e f ds es fs s t u since (subst (λ (z : List Shown). GoesOn files faults moment left e (plain_sides z) t f (plain_sides fs) u) value goes);
      early = λ first. soon (early first);
      idle = idle;
      fixed = same ∙ ap (λ (z : List Shown). fixed_in z) value ∙ fixed;
    })
