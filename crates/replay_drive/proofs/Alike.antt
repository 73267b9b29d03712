-- An advance does not look at the drains: daemons that differ in them alone do alike.
use Rattle.std.proofs.Common.{◌≡◌, refl, sym, ◌∙◌, ap, ℕ, List, Bool, true, false, if◌then◌else◌, Some, None, Option}
use Rattle.std.specs.Prelude.{slice_get}
use Rattle.sample_key.specs.declared.losses.Pace.{Pace}
use Rattle.trace_model.specs.declared.notices.Record.{Record}
use Rattle.driver_model.specs.Handover.{FarSide}
use Rattle.database_model.specs.Runs.{Drained}
use Rattle.run_model.specs.Daemon.{Daemon, Advancing, advance, ask, begin, first_waiting, flush_before, go_on, move, needs_flush, settle}
use Rattle.replay_drive.specs.Standing.{without_drains}

-- a daemon with these drains
abbrev pub with_drains : List Drained → Daemon → Daemon
with_drains drains d = record d { drains = drains }

-- what an advance does, with these drains
abbrev pub doing_with : List Drained → Advancing → Advancing
doing_with drains a = record a { daemon = with_drains drains a.daemon }

settle_alike : (ds : List Drained) (d : Daemon) (found : Option Record) → settle (with_drains ds d) found ≡ doing_with ds (settle d found)
settle_alike ds d None = refl
settle_alike ds d (Some notice) = refl

go_alike : (ds : List Drained) (d : Daemon) (records : List Record) (waiting : Option ℕ) → go_on records (with_drains ds d) waiting ≡ doing_with ds (go_on records d waiting)
go_alike ds d records None = settle_alike ds d (slice_get records d.applied)
go_alike ds d records (Some cpu) = refl

begin_alike : (ds : List Drained) (d : Daemon) (pace : Pace) (found : Option Record) → begin pace (with_drains ds d) found ≡ doing_with ds (begin pace d found)
begin_alike ds d pace None = refl
begin_alike ds d pace (Some notice) = by (needs_flush pace notice)
  where
    by : (t : Bool) → (if t then ask (with_drains ds d) else move (with_drains ds d) notice) ≡ doing_with ds (if t then ask d else move d notice)
    by true = refl
    by false = refl

advance_alike : (ds : List Drained) (d : Daemon) (pace : Pace) (records : List Record) (fars : List FarSide) → advance pace records fars (with_drains ds d) ≡ doing_with ds (advance pace records fars d)
advance_alike ds d pace records fars = by d.asking
  where
    waiting : Option ℕ
    waiting = first_waiting (flush_before d.applied) 0 fars

    by : (t : Bool) → (if t then go_on records (with_drains ds d) waiting else begin pace (with_drains ds d) (slice_get records d.applied))
        ≡ doing_with ds (if t then go_on records d waiting else begin pace d (slice_get records d.applied))
    by true = go_alike ds d records waiting
    by false = begin_alike ds d pace (slice_get records d.applied)

-- daemons that differ in their drains alone
pub alike : (d w : Daemon) (pace : Pace) (records : List Record) (fars : List FarSide) → without_drains d ≡ without_drains w
    → advance pace records fars w ≡ doing_with w.drains (advance pace records fars d)
alike d w pace records fars same =
    let is : w ≡ with_drains w.drains d = λ i. with_drains w.drains (sym same i) in
    ap (advance pace records fars) is ∙ advance_alike w.drains d pace records fars

-- an advance leaves the drains
settle_drains : (d : Daemon) (found : Option Record) → (settle d found).daemon.drains ≡ d.drains
settle_drains d None = refl
settle_drains d (Some notice) = refl

go_drains : (d : Daemon) (records : List Record) (waiting : Option ℕ) → (go_on records d waiting).daemon.drains ≡ d.drains
go_drains d records None = settle_drains d (slice_get records d.applied)
go_drains d records (Some cpu) = refl

begin_drains : (d : Daemon) (pace : Pace) (found : Option Record) → (begin pace d found).daemon.drains ≡ d.drains
begin_drains d pace None = refl
begin_drains d pace (Some notice) = by (needs_flush pace notice)
  where
    by : (t : Bool) → (if t then ask d else move d notice).daemon.drains ≡ d.drains
    by true = refl
    by false = refl

pub advance_drains : (d : Daemon) (pace : Pace) (records : List Record) (fars : List FarSide) → (advance pace records fars d).daemon.drains ≡ d.drains
advance_drains d pace records fars = by d.asking
  where
    waiting : Option ℕ
    waiting = first_waiting (flush_before d.applied) 0 fars

    by : (t : Bool) → (if t then go_on records d waiting else begin pace d (slice_get records d.applied)).daemon.drains ≡ d.drains
    by true = go_drains d records waiting
    by false = begin_drains d pace (slice_get records d.applied)
