-- What an advance does beyond its kind: a record that waited for a flush, and the close, were found complete of all processors.
use Rattle.std.proofs.Common.{arith, ◌≡◌, ℕ, ◌+◌, refl, sym, ◌∙◌, subst, Bool, true, false, if◌then◌else◌, List, [], ◌∷◌, Option, Some, None}
use Rattle.std.specs.Prelude.{slice_get}
use Rattle.std.specs.List.{AllByRecursion}
use Rattle.std.proofs.lemmas.Option.{slice_get_within}
use Rattle.sample_key.specs.declared.losses.Pace.{Pace}
use Rattle.trace_model.specs.declared.notices.Record.{Record}
use Rattle.driver_model.specs.Handover.{FarSide}
use Rattle.run_model.specs.Books.{AsksInNeed, StandsWell}
use Rattle.run_model.specs.Daemon.{Advancing, Daemon, advance, ask, begin, first_waiting, flush_before, go_on, is_flushed, move, needs_flush, settle}
use Rattle.dcpid_core.specs.Advancing.{is_moved}
use Rattle.replay_drive.specs.Standing.{ends_run, without_drains}

-- of all processors the flush that this value asks for was found complete
abbrev pub AreFlushed : ℕ → List FarSide → Type 0
AreFlushed value fars = AllByRecursion (λ far. is_flushed value far ≡ true) fars

-- where none is waited for
none_waits : (value cpu : ℕ) (fars : List FarSide) → first_waiting value cpu fars ≡ None → AreFlushed value fars
none_waits value cpu [] none = tt
none_waits value cpu (far ∷ fars) none = by (is_flushed value far) refl (none_waits value (cpu + 1) fars) none
  where
    by : (t : Bool) → is_flushed value far ≡ t → (first_waiting value (cpu + 1) fars ≡ None → AreFlushed value fars)
        → (if t then first_waiting value (cpu + 1) fars else Some cpu) ≡ None → AreFlushed value (far ∷ fars)
    by true is rest none = (is, rest none)
    by false is rest none = absurd cc

-- The run was closed: no record was left, and the close was found complete of all processors.
pub record Closes (records : List Record) (fars : List FarSide) (d : Daemon) (done : Advancing) : Type 0 where
  pub over : slice_get records d.applied ≡ None
  pub flushed : AreFlushed (flush_before d.applied) fars
  pub daemon : done.daemon ≡ record d { finished = true }
  pub ring : done.ring ≡ None

-- Where it stands afterwards, and what was found complete.
pub record GoesRight (pace : Pace) (records : List Record) (fars : List FarSide) (d : Daemon) (done : Advancing) : Type 0 where
  pub well : StandsWell pace records done.daemon
  pub moved : is_moved done.answer ≡ true → (notice : Record) → slice_get records d.applied ≡ Some notice → needs_flush pace notice ≡ true → AreFlushed (flush_before d.applied) fars
  pub ended : ends_run done.answer ≡ true → Closes records fars d done

never : {A : Type 0} → false ≡ true → A
never e = absurd cc

moves_right : (pace : Pace) (records : List Record) (fars : List FarSide) (d : Daemon) (notice : Record) → slice_get records d.applied ≡ Some notice
    → (needs_flush pace notice ≡ true → AreFlushed (flush_before d.applied) fars) → GoesRight pace records fars d (move d notice)
moves_right pace records fars d notice there all = record {
  well = record { within = omega (arith, slice_get_within records d.applied notice there); need = λ e. never e };
  moved = λ m other here needs. all (subst (λ (x : Record). needs_flush pace x ≡ true) (same (slice_get records d.applied) other notice here there) needs);
  ended = λ e. never e;
}
  where
    same : (o : Option Record) (x y : Record) → o ≡ Some x → o ≡ Some y → x ≡ y
    same o x y e f = cc

asks_right : (pace : Pace) (records : List Record) (fars : List FarSide) (d : Daemon) → StandsWell pace records d → AsksInNeed pace (slice_get records d.applied) → GoesRight pace records fars d (ask d)
asks_right pace records fars d well need = record {
  well = record { within = well.within; need = λ e. need };
  moved = λ m. never m;
  ended = λ e. never e;
}

settles_right : (pace : Pace) (records : List Record) (fars : List FarSide) (d : Daemon) (found : Option Record) → slice_get records d.applied ≡ found → StandsWell pace records d
    → AreFlushed (flush_before d.applied) fars → GoesRight pace records fars d (settle d found)
settles_right pace records fars d None there well all = record {
  well = record { within = well.within; need = well.need };
  moved = λ m. never m;
  ended = λ e. record { over = there; flushed = all; daemon = refl; ring = refl };
}
settles_right pace records fars d (Some notice) there well all = moves_right pace records fars d notice there (λ needs. all)

waits_right : (pace : Pace) (records : List Record) (fars : List FarSide) (d : Daemon) (waiting : Option ℕ) → StandsWell pace records d
    → (waiting ≡ None → AreFlushed (flush_before d.applied) fars) → GoesRight pace records fars d (go_on records d waiting)
waits_right pace records fars d None well all = settles_right pace records fars d (slice_get records d.applied) refl well (all refl)
waits_right pace records fars d (Some cpu) well all = record { well = well; moved = λ m. never m; ended = λ e. never e }

begins_right : (pace : Pace) (records : List Record) (fars : List FarSide) (d : Daemon) (found : Option Record) → slice_get records d.applied ≡ found → StandsWell pace records d
    → GoesRight pace records fars d (begin pace d found)
begins_right pace records fars d None there well = asks_right pace records fars d well (subst (λ (o : Option Record). AsksInNeed pace o) (sym there) tt)
begins_right pace records fars d (Some notice) there well = by (needs_flush pace notice) refl
  where
    by : (t : Bool) → needs_flush pace notice ≡ t → GoesRight pace records fars d (if t then ask d else move d notice)
    by true is = asks_right pace records fars d well (subst (λ (o : Option Record). AsksInNeed pace o) (sym there) is)
    by false is = moves_right pace records fars d notice there (λ needs. never (sym is ∙ needs))

pub goes_right : (pace : Pace) (records : List Record) (fars : List FarSide) (d : Daemon) → StandsWell pace records d → GoesRight pace records fars d (advance pace records fars d)
goes_right pace records fars d well = by d.asking
  where
    waiting : Option ℕ
    waiting = first_waiting (flush_before d.applied) 0 fars

    by : (t : Bool) → GoesRight pace records fars d (if t then go_on records d waiting else begin pace d (slice_get records d.applied))
    by true = waits_right pace records fars d waiting well (λ none. none_waits (flush_before d.applied) 0 fars none)
    by false = begins_right pace records fars d (slice_get records d.applied) refl well

-- a daemon that differs in its drains alone stands as well
pub well_like : (pace : Pace) (records : List Record) (x y : Daemon) → without_drains x ≡ without_drains y → StandsWell pace records y → StandsWell pace records x
well_like pace records x y same well =
    let bare : StandsWell pace records (without_drains y) = record { within = well.within; need = well.need } in
    let mine = subst (λ (z : Daemon). StandsWell pace records z) (sym same) bare in
    record { within = mine.within; need = mine.need }

-- and is the same where its drains are
pub same_daemon : (x y : Daemon) → without_drains x ≡ without_drains y → x.drains ≡ y.drains → x ≡ y
same_daemon x y same drains = λ i. record (same i) { drains = drains i }
