-- After an advance the replay stands where the run stands after that advance.
use Rattle.std.proofs.Common.{◌≡◌, refl, sym, ◌∙◌, ap, subst, ℕ, suc, ◌+◌, ◌<◌, ◌≤◌, List, [], ◌∷◌, length, map, arith, Bool, true, false, if◌then◌else◌, Some, None, Option}
use Rattle.std.specs.Prelude.{slice_get, is_none, ◌&&◌}
use Rattle.sample_key.specs.declared.losses.Pace.{Pace}
use Rattle.sample_key.specs.declared.losses.Pace.TheVariants.{Free}
use Rattle.trace_model.specs.Recording.{Recording}
use Rattle.trace_model.specs.Streams.{records_in}
use Rattle.trace_model.specs.declared.notices.Record.{Record}
use Rattle.driver_model.specs.Handover.{FarSide}
use Rattle.store_io.specs.Files.{Files}
use Rattle.database_state.specs.declared.faults.DbFault.{DbFault}
use Rattle.lane_side.specs.Plain.{Plain}
use Rattle.cpu_lane.specs.Seen.{Seen}
use Rattle.run_model.specs.Books.{AsksInNeed, StandsWell}
use Rattle.run_model.specs.Daemon.{Daemon, Advancing, advance, ask, begin, first_waiting, flush_before, go_on, in_force, move, needs_flush, rungs_of, settle}
use Rattle.run_model.specs.Running.{Processor, System, after_advance, advance_in, fars_of, rung, rung_if}
use Rattle.run_model.specs.declared.advances.Advanced.{Advanced}
use Rattle.run_laws.proofs.Systems.{HoldsAt, SystemHolds}
use Rattle.dcpid_core.specs.Advancing.{EndsPart, FaultAfter, Outcome, advance_of, commits, is_moved}
use Rattle.dcpid_core.specs.Counting.{AdvancesAsTheRun, Agree, CountsAgree, fars_in}
use Rattle.dcpid_core.specs.Collection.{Collection, FitFrom, rang, rang_if}
use Rattle.dcpid_core.specs.declared.flushes.Flush.{Flush}
use Rattle.dcpid_core.proofs.Rungs.{fit_rang, fit_same, rungs_asked, rungs_moved}
use Rattle.replay_drive.specs.Players.{ArePlayers, processor_of, processors_of}
use Rattle.replay_drive.specs.Standing.{StandsAt, ends_run, without_drains}
use Rattle.replay_drive.proofs.Alike.{alike, advance_drains}
use Rattle.replay_drive.proofs.PollStands.{player_with, same_applied}

-- ---- what an advance left of the daemon

pub record Went (done : Advancing) (d e : Collection) : Type 0 where
  pub trace : e.trace ≡ d.trace
  pub pace : e.pace ≡ d.pace
  pub run : e.run ≡ d.run
  pub first_epoch : e.first_epoch ≡ d.first_epoch
  pub flushes : e.flushes ≡ d.flushes
  pub state : without_drains e.state ≡ without_drains done.daemon
  pub drains : e.failure ≡ None → (d.failure ≡ None) × (e.state.drains ≡ done.daemon.drains)

some_none : {A B : Type 0} (o : Option A) (x : A) → o ≡ Some x → o ≡ None → B
some_none o x e n = cc

pub none_before : (o : Option DbFault) (x : Advanced) (n : Option DbFault) → FaultAfter o x n → n ≡ None → o ≡ None
none_before None x n h none = refl
none_before (Some f) x n h none = some_none n f h none

pub is_none_none : (o : Option DbFault) → is_none o ≡ true → o ≡ None
is_none_none None e = refl
is_none_none (Some f) e = absurd cc

pub both_hold : (a b c : Bool) → (a && b && c) ≡ true → b ≡ true
both_hold true true c e = refl
both_hold true false c e = absurd cc
both_hold false b c e = absurd cc

ends_went : {D : Type 0} (files : D → Option Files) (faults moment : D → ℕ) (left : D → ℕ → Files → Type 0) (d e : Collection) (done : Advancing) (store after : D) (o : Option DbFault)
    → e.failure ≡ o → d.failure ≡ None → EndsPart files faults moment left d done store o e after → Went done d e
ends_went files faults moment left d e done store after None is fine h = record {
  trace = ap (λ (c : Collection). c.trace) h.0;
  pace = ap (λ (c : Collection). c.pace) h.0;
  run = ap (λ (c : Collection). c.run) h.0;
  first_epoch = ap (λ (c : Collection). c.first_epoch) h.0;
  flushes = ap (λ (c : Collection). c.flushes) h.0;
  state = ap (λ (c : Collection). without_drains c.state) h.0;
  drains = λ none. (fine, ap (λ (c : Collection). c.state.drains) h.0);
}
ends_went files faults moment left d e done store after (Some f) is fine h = record {
  trace = ap (λ (c : Collection). c.trace) h.0;
  pace = ap (λ (c : Collection). c.pace) h.0;
  run = ap (λ (c : Collection). c.run) h.0;
  first_epoch = ap (λ (c : Collection). c.first_epoch) h.0;
  flushes = ap (λ (c : Collection). c.flushes) h.0;
  state = ap (λ (c : Collection). without_drains c.state) h.0;
  drains = λ none. some_none e.failure f is none;
}

pub outcome_went : {D : Type 0} (files : D → Option Files) (faults moment : D → ℕ) (left : D → ℕ → Files → Type 0) (d e : Collection) (done : Advancing) (store after : D) (b : Bool)
    → commits d done.answer ≡ b → Outcome files faults moment left b d done store e after → Went done d e
outcome_went files faults moment left d e done store after true is h =
    ends_went files faults moment left d e done store after e.failure refl (is_none_none d.failure (both_hold _ _ _ is)) h
outcome_went files faults moment left d e done store after false is h = record {
  trace = ap (λ (c : Collection). c.trace) h.moved;
  pace = ap (λ (c : Collection). c.pace) h.moved;
  run = ap (λ (c : Collection). c.run) h.moved;
  first_epoch = ap (λ (c : Collection). c.first_epoch) h.moved;
  flushes = ap (λ (c : Collection). c.flushes) h.moved;
  state = ap (λ (c : Collection). without_drains c.state) h.moved;
  drains = λ none. (none_before d.failure done.answer e.failure h.fault none, ap (λ (c : Collection). c.state.drains) h.moved);
}

-- ---- the kinds of advances

-- whether an answer says that a record was put in force, and whether it ends the run
abbrev pub IsAnswer : Bool → Bool → Advanced → Type 0
IsAnswer moved ended answer = (is_moved answer ≡ moved) × (ends_run answer ≡ ended)

pub data Kind (pace : Pace) (records : List Record) (d : Daemon) (done : Advancing) : Type 0 where
  Waits : done.daemon ≡ d → done.ring ≡ None → IsAnswer false false done.answer → Kind pace records d done
  Ends : done.daemon ≡ record d { finished = true } → done.ring ≡ None → IsAnswer false true done.answer → Kind pace records d done
  Asks : d.asking ≡ false → done.daemon ≡ record d { asking = true } → done.ring ≡ Some (flush_before d.applied) → IsAnswer false false done.answer → Kind pace records d done
  Moves : (notice : Record) → slice_get records d.applied ≡ Some notice → d.asking ≡ needs_flush pace notice → done.daemon ≡ (move d notice).daemon
      → done.ring ≡ Some (in_force (d.applied + 1)) → IsAnswer true false done.answer → Kind pace records d done

settle_kind : (pace : Pace) (records : List Record) (d : Daemon) (found : Option Record) → slice_get records d.applied ≡ found → d.asking ≡ true → AsksInNeed pace found → Kind pace records d (settle d found)
settle_kind pace records d None there asking need = Ends refl refl (refl, refl)
settle_kind pace records d (Some notice) there asking need = Moves notice there (asking ∙ sym need) refl refl (refl, refl)

go_kind : (pace : Pace) (records : List Record) (d : Daemon) (waiting : Option ℕ) → d.asking ≡ true → AsksInNeed pace (slice_get records d.applied) → Kind pace records d (go_on records d waiting)
go_kind pace records d None asking need = settle_kind pace records d (slice_get records d.applied) refl asking need
go_kind pace records d (Some cpu) asking need = Waits refl refl (refl, refl)

begin_kind : (pace : Pace) (records : List Record) (d : Daemon) (found : Option Record) → slice_get records d.applied ≡ found → d.asking ≡ false → Kind pace records d (begin pace d found)
begin_kind pace records d None there asking = Asks asking refl refl (refl, refl)
begin_kind pace records d (Some notice) there asking = by (needs_flush pace notice) refl
  where
    by : (t : Bool) → needs_flush pace notice ≡ t → Kind pace records d (if t then ask d else move d notice)
    by true e = Asks asking refl refl (refl, refl)
    by false e = Moves notice there (asking ∙ sym e) refl refl (refl, refl)

pub kinds : (pace : Pace) (records : List Record) (fars : List FarSide) (d : Daemon) → StandsWell pace records d → Kind pace records d (advance pace records fars d)
kinds pace records fars d well = by d.asking refl
  where
    waiting : Option ℕ
    waiting = first_waiting (flush_before d.applied) 0 fars

    by : (t : Bool) → d.asking ≡ t → Kind pace records d (if t then go_on records d waiting else begin pace d (slice_get records d.applied))
    by true e = go_kind pace records d waiting e (well.need e)
    by false e = begin_kind pace records d (slice_get records d.applied) refl e

-- ---- all bells

rung_processors : (value : ℕ) (ls : List Seen) (ss : List Plain) → map (rung value) (processors_of ls ss) ≡ processors_of ls (map (rang value) ss)
rung_processors value [] ss = refl
rung_processors value (l ∷ ls) [] = refl
rung_processors value (l ∷ ls) (s ∷ ss) = ap {B = List Processor} (λ z. processor_of l (rang value s) ∷ z) (rung_processors value ls ss)

pub ring_processors : (ring : Option ℕ) (ls : List Seen) (ss : List Plain) → rung_if ring (processors_of ls ss) ≡ processors_of ls (rang_if ring ss)
ring_processors None ls ss = refl
ring_processors (Some value) ls ss = rung_processors value ls ss

pub fars_same : (trace : Recording) (cpu : ℕ) (ls : List Seen) (ss : List Plain) → ArePlayers Free trace cpu ls ss → map (λ (p : Processor). p.far) (processors_of ls ss) ≡ fars_in ss
fars_same trace cpu [] [] all = refl
fars_same trace cpu [] (s ∷ ss) all = absurd all
fars_same trace cpu (l ∷ ls) [] all = absurd all
fars_same trace cpu (l ∷ ls) (s ∷ ss) all = ap {B = List FarSide} (λ z. s.far ∷ z) (fars_same trace (cpu + 1) ls ss all.1)

rang_players : (trace : Recording) (daemon : Daemon) (value cpu : ℕ) (ls : List Seen) (ss : List Plain) → daemon.applied ≤ length (records_in trace) → ArePlayers Free trace cpu ls ss
    → ((k : ℕ) (p : Processor) → slice_get (processors_of ls (map (rang value) ss)) k ≡ Some p → HoldsAt Free trace daemon (cpu + k) p)
    → ArePlayers Free trace cpu ls (map (rang value) ss)
rang_players trace daemon value cpu [] [] within all holds = tt
rang_players trace daemon value cpu [] (s ∷ ss) within all holds = absurd all
rang_players trace daemon value cpu (l ∷ ls) [] within all holds = absurd all
rang_players trace daemon value cpu (l ∷ ls) (s ∷ ss) within all holds = (
  player_with trace cpu _ _ _ _ _ l (rang value s) within
      (subst (λ (n : ℕ). HoldsAt Free trace daemon n (processor_of l (rang value s))) (omega arith) (holds 0 (processor_of l (rang value s)) refl))
      all.0.setup all.0.fixed all.0.runs.left,
  rang_players trace daemon value (cpu + 1) ls ss within all.1
      (λ k p at. subst (λ (n : ℕ). HoldsAt Free trace daemon n p) (omega arith) (holds (suc k) p at)),
)

ring_players : (trace : Recording) (daemon : Daemon) (ring : Option ℕ) (ls : List Seen) (ss : List Plain) → daemon.applied ≤ length (records_in trace) → ArePlayers Free trace 0 ls ss
    → ((k : ℕ) (p : Processor) → slice_get (processors_of ls (rang_if ring ss)) k ≡ Some p → HoldsAt Free trace daemon k p)
    → ArePlayers Free trace 0 ls (rang_if ring ss)
ring_players trace daemon None ls ss within all holds = all
ring_players trace daemon (Some value) ls ss within all holds =
    rang_players trace daemon value 0 ls ss within all (λ k p at. subst (λ (n : ℕ). HoldsAt Free trace daemon n p) (omega arith) (holds k p at))

rang_counts : CountsAgree → (value bell : ℕ) (flushes : List Flush) (ss : List Plain) → Agree value flushes (fars_in ss) → Agree value flushes (fars_in (map (rang bell) ss))
rang_counts laws value bell [] [] all = tt
rang_counts laws value bell [] (s ∷ ss) all = absurd all
rang_counts laws value bell (f ∷ flushes) [] all = absurd all
rang_counts laws value bell (f ∷ flushes) (s ∷ ss) all = (laws.rang value bell s.seen.first.tries f s.far all.0, rang_counts laws value bell flushes ss all.1)

later_counts : CountsAgree → (value later : ℕ) (flushes : List Flush) (fars : List FarSide) → value < later → Agree value flushes fars → Agree later flushes fars
later_counts laws value later [] [] lt all = tt
later_counts laws value later [] (far ∷ fars) lt all = absurd all
later_counts laws value later (f ∷ flushes) [] lt all = absurd all
later_counts laws value later (f ∷ flushes) (far ∷ fars) lt all = (laws.goes_on value later f far lt all.0, later_counts laws value later flushes fars lt all.1)

-- ---- fitting sides and counts, by the kind

-- the values rung, of a daemon that stands like this one
rungs_like : (d e : Collection) (x : Daemon) → e.trace ≡ d.trace → e.pace ≡ d.pace → without_drains e.state ≡ without_drains x
    → rungs_of e.pace (records_in e.trace) e.state ≡ rungs_of d.pace (records_in d.trace) x
rungs_like d e x trace pace state =
    ap (λ (p : Pace). rungs_of p (records_in e.trace) e.state) pace
    ∙ ap (λ (t : Recording). rungs_of d.pace (records_in t) e.state) trace
    ∙ ap (λ (z : Daemon). rungs_of d.pace (records_in d.trace) z) state

pub by_kind : CountsAgree → (d e : Collection) (sides : List Plain) (done : Advancing) → Kind d.pace (records_in d.trace) d.state done → Went done d e → FitFrom d 0 sides
    → Agree (flush_before d.state.applied) d.flushes (fars_in sides)
    → FitFrom e 0 (rang_if done.ring sides) × Agree (flush_before e.state.applied) e.flushes (fars_in (rang_if done.ring sides))
by_kind laws d e sides done (Waits is ring answer) went fits counts =
    let rungs = rungs_like d e done.daemon went.trace went.pace went.state ∙ ap (λ (z : Daemon). rungs_of d.pace (records_in d.trace) z) is in
    let applied : e.state.applied ≡ d.state.applied = same_applied e done.daemon went.state ∙ ap (λ (z : Daemon). z.applied) is in (
      subst (λ (o : Option ℕ). FitFrom e 0 (rang_if o sides)) (sym ring) (fit_same d e 0 sides went.trace rungs fits),
      subst (λ (o : Option ℕ). Agree (flush_before e.state.applied) e.flushes (fars_in (rang_if o sides))) (sym ring)
          (subst (λ (n : ℕ). Agree (flush_before n) e.flushes (fars_in sides)) (sym applied)
          (subst (λ (z : List Flush). Agree (flush_before d.state.applied) z (fars_in sides)) (sym went.flushes) counts)),
    )
by_kind laws d e sides done (Ends is ring answer) went fits counts =
    let rungs = rungs_like d e done.daemon went.trace went.pace went.state ∙ ap (λ (z : Daemon). rungs_of d.pace (records_in d.trace) z) is in
    let applied : e.state.applied ≡ d.state.applied = same_applied e done.daemon went.state ∙ ap (λ (z : Daemon). z.applied) is in (
      subst (λ (o : Option ℕ). FitFrom e 0 (rang_if o sides)) (sym ring) (fit_same d e 0 sides went.trace rungs fits),
      subst (λ (o : Option ℕ). Agree (flush_before e.state.applied) e.flushes (fars_in (rang_if o sides))) (sym ring)
          (subst (λ (n : ℕ). Agree (flush_before n) e.flushes (fars_in sides)) (sym applied)
          (subst (λ (z : List Flush). Agree (flush_before d.state.applied) z (fars_in sides)) (sym went.flushes) counts)),
    )
by_kind laws d e sides done (Asks was is ring answer) went fits counts =
    let rungs = rungs_like d e done.daemon went.trace went.pace went.state
    ∙ rungs_asked d.pace (records_in d.trace) d.state done.daemon was (ap (λ (z : Daemon). z.asking) is) (ap (λ (z : Daemon). z.applied) is) in
    let applied : e.state.applied ≡ d.state.applied = same_applied e done.daemon went.state ∙ ap (λ (z : Daemon). z.applied) is in (
      subst (λ (o : Option ℕ). FitFrom e 0 (rang_if o sides)) (sym ring) (fit_rang d e 0 (flush_before d.state.applied) sides went.trace rungs fits),
      subst (λ (o : Option ℕ). Agree (flush_before e.state.applied) e.flushes (fars_in (rang_if o sides))) (sym ring)
          (subst (λ (n : ℕ). Agree (flush_before n) e.flushes (fars_in (map (rang (flush_before d.state.applied)) sides))) (sym applied)
          (subst (λ (z : List Flush). Agree (flush_before d.state.applied) z (fars_in (map (rang (flush_before d.state.applied)) sides))) (sym went.flushes)
          (rang_counts laws (flush_before d.state.applied) (flush_before d.state.applied) d.flushes sides counts))),
    )
by_kind laws d e sides done (Moves notice there needs is ring answer) went fits counts =
    let rungs = rungs_like d e done.daemon went.trace went.pace went.state
    ∙ rungs_moved d.pace (records_in d.trace) d.state done.daemon notice there needs (ap (λ (z : Daemon). z.asking) is) (ap (λ (z : Daemon). z.applied) is) in
    let applied : e.state.applied ≡ d.state.applied + 1 = same_applied e done.daemon went.state ∙ ap (λ (z : Daemon). z.applied) is in (
      subst (λ (o : Option ℕ). FitFrom e 0 (rang_if o sides)) (sym ring) (fit_rang d e 0 (in_force (d.state.applied + 1)) sides went.trace rungs fits),
      subst (λ (o : Option ℕ). Agree (flush_before e.state.applied) e.flushes (fars_in (rang_if o sides))) (sym ring)
          (subst (λ (n : ℕ). Agree (flush_before n) e.flushes (fars_in (map (rang (in_force (d.state.applied + 1))) sides))) (sym applied)
          (subst (λ (z : List Flush). Agree (flush_before (d.state.applied + 1)) z (fars_in (map (rang (in_force (d.state.applied + 1))) sides))) (sym went.flushes)
          (rang_counts laws (flush_before (d.state.applied + 1)) (in_force (d.state.applied + 1)) d.flushes sides
          (later_counts laws (flush_before d.state.applied) (flush_before (d.state.applied + 1)) d.flushes (fars_in sides) (omega arith) counts)))),
    )

-- ---- all of it

-- a daemon that stands like one that stands well stands well
well_like : (records : List Record) (d w : Daemon) → without_drains d ≡ without_drains w → StandsWell Free records w → StandsWell Free records d
well_like records d w same well = record {
  within = subst (λ (n : ℕ). n ≤ length records) (sym (ap (λ (z : Daemon). z.applied) same)) well.within;
  need = λ asking. subst (λ (n : ℕ). AsksInNeed Free (slice_get records n)) (sym (ap (λ (z : Daemon). z.applied) same))
      (well.need (sym (ap (λ (z : Daemon). z.asking) same) ∙ asking));
}

-- the run is finished where the answer ends it
pub kind_finished : (pace : Pace) (records : List Record) (d : Daemon) (done : Advancing) → d.finished ≡ false → Kind pace records d done → done.daemon.finished ≡ ends_run done.answer
kind_finished pace records d done going (Waits is ring answer) = ap (λ (z : Daemon). z.finished) is ∙ going ∙ sym answer.1
kind_finished pace records d done going (Ends is ring answer) = ap (λ (z : Daemon). z.finished) is ∙ sym answer.1
kind_finished pace records d done going (Asks was is ring answer) = ap (λ (z : Daemon). z.finished) is ∙ going ∙ sym answer.1
kind_finished pace records d done going (Moves notice there needs is ring answer) = ap (λ (z : Daemon). z.finished) is ∙ going ∙ sym answer.1

-- what an advance of a replay is
pub record IsRunsAdvance (trace : Recording) (d : Collection) (system : System) : Type 0 where
  pub kind : Kind d.pace (records_in d.trace) d.state (advance_of d)
  pub its : advance_in Free trace system ≡ record (advance_of d) { daemon = record (advance_of d).daemon { drains = system.daemon.drains } }
  pub left : (advance_of d).daemon.drains ≡ d.state.drains

pub runs_advance : AdvancesAsTheRun → (trace : Recording) (run first_epoch : ℕ) (lanes : List Seen) (sides : List Plain) (d : Collection) (system : System)
    → StandsAt trace run first_epoch lanes sides d system → SystemHolds Free trace first_epoch system → IsRunsAdvance trace d system
runs_advance law trace run first_epoch lanes sides d system stands holds =
    let fars : fars_of system ≡ fars_in sides = ap (map (λ (p : Processor). p.far)) stands.processors ∙ fars_same trace 0 lanes sides stands.players in
    let mine : advance_of d ≡ advance Free (records_in trace) (fars_in sides) d.state =
    law d sides stands.counts ∙ ap (λ (p : Pace). advance p (records_in d.trace) (fars_in sides) d.state) stands.pace_is
    ∙ ap (λ (t : Recording). advance Free (records_in t) (fars_in sides) d.state) stands.trace_is in
    let well = well_like (records_in trace) d.state system.daemon stands.state holds.books.stands in
    record {
      kind = subst (λ (p : Pace). Kind p (records_in d.trace) d.state (advance_of d)) (sym stands.pace_is)
          (subst (λ (t : Recording). Kind Free (records_in t) d.state (advance_of d)) (sym stands.trace_is)
          (subst (λ (a : Advancing). Kind Free (records_in trace) d.state a) (sym mine) (kinds Free (records_in trace) (fars_in sides) d.state well)));
      its = ap (λ (z : List FarSide). advance Free (records_in trace) z system.daemon) fars
          ∙ alike d.state system.daemon Free (records_in trace) (fars_in sides) stands.state
          ∙ ap (λ (a : Advancing). record a { daemon = record a.daemon { drains = system.daemon.drains } }) (sym mine);
      left = ap (λ (a : Advancing). a.daemon.drains) mine ∙ advance_drains d.state Free (records_in trace) (fars_in sides);
    }

pub advance_stands : AdvancesAsTheRun → CountsAgree → (trace : Recording) (run first_epoch : ℕ) (lanes : List Seen) (sides nsides : List Plain) (d e : Collection) (system : System)
    → StandsAt trace run first_epoch lanes sides d system → SystemHolds Free trace first_epoch system → SystemHolds Free trace first_epoch (after_advance Free trace system)
    → Went (advance_of d) d e → nsides ≡ rang_if (advance_of d).ring sides → StandsAt trace run first_epoch lanes nsides e (after_advance Free trace system)
advance_stands law laws trace run first_epoch lanes sides nsides d e system stands holds held went rings =
    let step = runs_advance law trace run first_epoch lanes sides d system stands holds in
    let ring : (advance_in Free trace system).ring ≡ (advance_of d).ring = ap (λ (a : Advancing). a.ring) step.its in
    let processors : (after_advance Free trace system).processors ≡ processors_of lanes nsides =
    ap (λ (o : Option ℕ). rung_if o system.processors) ring
    ∙ ap (λ (ps : List Processor). rung_if (advance_of d).ring ps) stands.processors
    ∙ ring_processors (advance_of d).ring lanes sides
    ∙ ap (λ (ss : List Plain). processors_of lanes ss) (sym rings) in
    let rest = by_kind laws d e sides (advance_of d) step.kind went stands.fits stands.counts in
    let mid = ring_players trace (after_advance Free trace system).daemon (advance_of d).ring lanes sides held.books.stands.within stands.players
    (λ k p at. held.lanes k p (ap (λ (ps : List Processor). slice_get ps k) processors ∙ ap (λ (ss : List Plain). slice_get (processors_of lanes ss) k) rings ∙ at)) in
    record {
      players = subst (λ (ss : List Plain). ArePlayers Free trace 0 lanes ss) (sym rings) mid;
      processors = processors;
      trace_is = went.trace ∙ stands.trace_is;
      pace_is = went.pace ∙ stands.pace_is;
      run_is = went.run ∙ stands.run_is;
      first_is = went.first_epoch ∙ stands.first_is;
      state = went.state ∙ sym (ap (λ (a : Advancing). without_drains a.daemon) step.its);
      drains = λ none. (went.drains none).1 ∙ step.left ∙ stands.drains (went.drains none).0 ∙ sym (ap (λ (a : Advancing). a.daemon.drains) step.its);
      fits = subst (λ (ss : List Plain). FitFrom e 0 ss) (sym rings) rest.0;
      counts = subst (λ (ss : List Plain). Agree (flush_before e.state.applied) e.flushes (fars_in ss)) (sym rings) rest.1;
    }
