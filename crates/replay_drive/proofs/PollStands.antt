-- After a poll the replay stands where the run stands after that poll.
use Rattle.std.proofs.Common.{◌≡◌, refl, sym, ◌∙◌, ap, subst, ℕ, zero, suc, ◌+◌, ◌*◌, ◌≤◌, List, [], ◌∷◌, ◌++◌, length, arith, Bool, true, false, Some, None, Option, inl, inr}
use Rattle.std.specs.Prelude.{slice_get, slice_set, slice_index_or}
use Rattle.sample_key.specs.Sent.{Sent}
use Rattle.sample_key.specs.declared.keys.Marked.{Marked}
use Rattle.sample_key.specs.declared.losses.Pace.TheVariants.{Free}
use Rattle.trace_model.specs.Recording.{Recording}
use Rattle.trace_model.specs.Streams.{stream_of, records_in}
use Rattle.driver_model.specs.Lists.{SomeOf}
use Rattle.driver_model.specs.Handover.{FarSide, last_from, rung_of, NeverFallsFrom, WasRung}
use Rattle.driver_model.specs.Invariant.{DriverInvariant}
use Rattle.driver_model.specs.Driver.{Setup}
use Rattle.database_model.specs.Runs.{Drained}
use Rattle.lane_side.specs.Fixed.{Fixed, plain_fixed}
use Rattle.lane_side.specs.Plain.{Plain}
use Rattle.cpu_lane.specs.Seen.{Seen}
use Rattle.cpu_lane.specs.Runs.{HasLeft}
use Rattle.run_model.specs.Daemon.{Daemon, drain_of, flush_before, noted, rungs_of}
use Rattle.run_model.specs.Running.{Processor, System, setup_of, waiting_at, polled, noted_if, after_poll}
use Rattle.run_laws.proofs.Lanes.{LaneHolds, bell_of}
use Rattle.run_laws.proofs.Systems.{HoldsAt, SystemHolds}
use Rattle.dcpid_core.specs.Flushes.{flush_took, no_flush}
use Rattle.dcpid_core.specs.Counting.{Agree, Agrees, CountsAgree, fars_in}
use Rattle.dcpid_core.specs.Collection.{Collection, FitFrom, IsFitting}
use Rattle.dcpid_core.specs.Polling.{Polls, drained, passed}
use Rattle.dcpid_core.specs.declared.flushes.Flush.{Flush}
use Rattle.dcpid_core.specs.declared.polled.Polled.{Polled}
use Rattle.dcpid_core.proofs.Rungs.{fit_same}
use Rattle.replay_drive.specs.Players.{IsPlayer, IsGivenBack, processor_of, processors_of}
use Rattle.replay_drive.specs.Standing.{StandsAt, without_drains}
use Rattle.replay_drive.proofs.Among.{player_here, players_side, processor_there, side_set, set_got}
use Rattle.replay_drive.proofs.Polling.{PollStep, TakenBy, polls_as}

-- ---- a player again

-- a lane and its side are a player where this holds of their processor
pub player_with : (trace : Recording) (cpu at : ℕ) (asking : Bool) (f g h : List Drained) (l : Seen) (s : Plain) → at ≤ length (records_in trace)
    → LaneHolds Free trace cpu at asking f g h (processor_of l s) → l.setup ≡ setup_of Free trace cpu → s.fixed ≡ plain_fixed cpu (stream_of cpu trace)
    → HasLeft (length (records_in trace) + 1) l.setup.samples s.seen → IsPlayer Free trace cpu l s
player_with trace cpu at asking f g h l s within holds setup fixed left =
    let low : bell_of asking at ≤ 2 * (length (records_in trace) + 1) = bell_low asking at (length (records_in trace)) within in
    record {
      setup = setup;
      runs = record {
        side = record {
          cpu = ap (λ (x : Fixed). x.cpu) fixed ∙ ap (λ (x : Setup). x.cpu) (sym setup);
          samples = ap (λ (x : Fixed). x.samples) fixed ∙ ap (λ (x : Setup). x.samples) (sym setup);
          size = ap (λ (x : Setup). x.size) setup ∙ holds.size;
        };
        invariant = subst (λ (x : Setup). DriverInvariant x l.driver s.seen) (sym setup) holds.lane;
        left = left;
        told = ap (λ (x : Fixed). x.told) fixed;
        rung = omega (arith, holds.bell.last, low);
        heard = omega (arith, holds.bell.behind, low);
      };
      fixed = fixed;
      back = record { given = holds.idle.given; free0 = holds.idle.free0; free1 = holds.idle.free1; free2 = holds.idle.free2 };
    }
  where
    bell_low : (t : Bool) (n m : ℕ) → n ≤ m → bell_of t n ≤ 2 * (m + 1)
    bell_low true n m le = omega (arith, le)
    bell_low false n m le = omega (arith, le)

-- ---- counts and fitting sides, one by one

pub agrees_at : (value : ℕ) (flushes : List Flush) (fars : List FarSide) (k : ℕ) (far : FarSide) → Agree value flushes fars → slice_get fars k ≡ Some far
    → Agrees value (slice_index_or flushes k no_flush) far
agrees_at value [] [] k far all at = absurd cc
agrees_at value [] (g ∷ fars) k far all at = absurd all
agrees_at value (x ∷ flushes) [] k far all at = absurd all
agrees_at value (x ∷ flushes) (g ∷ fars) zero far all at = let same : g ≡ far = cc in subst (λ (z : FarSide). Agrees value x z) same all.0
agrees_at value (x ∷ flushes) (g ∷ fars) (suc k) far all at = agrees_at value flushes fars k far all.1 at

pub agrees_set : (value : ℕ) (flushes : List Flush) (fars : List FarSide) (k : ℕ) (flush : Flush) (far : FarSide) → Agree value flushes fars → Agrees value flush far
    → Agree value (slice_set flushes k flush) (slice_set fars k far)
agrees_set value [] [] k flush far all one = tt
agrees_set value [] (g ∷ fars) k flush far all one = absurd all
agrees_set value (x ∷ flushes) [] k flush far all one = absurd all
agrees_set value (x ∷ flushes) (g ∷ fars) zero flush far all one = (one, all.1)
agrees_set value (x ∷ flushes) (g ∷ fars) (suc k) flush far all one = (all.0, agrees_set value flushes fars k flush far all.1 one)

-- where only the side changed, and not its half of the daemon
pub agrees_same : (value : ℕ) (flushes : List Flush) (sides : List Plain) (k : ℕ) (s n : Plain) → slice_get sides k ≡ Some s → n.far ≡ s.far
    → Agree value flushes (fars_in sides) → Agree value flushes (fars_in (slice_set sides k n))
agrees_same value flushes [] k s n at same all = absurd cc
agrees_same value [] (x ∷ sides) k s n at same all = absurd all
agrees_same value (f ∷ flushes) (x ∷ sides) zero s n at same all =
    let is : x ≡ s = cc in
    (subst (λ (z : FarSide). Agrees value f z) (ap (λ (p : Plain). p.far) is ∙ sym same) all.0, all.1)
agrees_same value (f ∷ flushes) (x ∷ sides) (suc k) s n at same all = (all.0, agrees_same value flushes sides k s n at same all.1)

pub fars_set : (sides : List Plain) (k : ℕ) (n : Plain) → fars_in (slice_set sides k n) ≡ slice_set (fars_in sides) k n.far
fars_set [] k n = refl
fars_set (x ∷ sides) zero n = refl
fars_set (x ∷ sides) (suc k) n = ap {B = List FarSide} (λ z. x.far ∷ z) (fars_set sides k n)

pub fars_got : (sides : List Plain) (k : ℕ) (s : Plain) → slice_get sides k ≡ Some s → slice_get (fars_in sides) k ≡ Some s.far
fars_got [] k s at = absurd cc
fars_got (x ∷ sides) zero s at = let same : x ≡ s = cc in ap {B = Option FarSide} (λ z. Some z.far) same
fars_got (x ∷ sides) (suc k) s at = fars_got sides k s at

pub fits_at : (d : Collection) (m : ℕ) (sides : List Plain) (k : ℕ) (s : Plain) → FitFrom d m sides → slice_get sides k ≡ Some s → IsFitting d (m + k) s.fixed s.far
fits_at d m [] k s fits at = absurd cc
fits_at d m (x ∷ sides) zero s fits at =
    let same : x ≡ s = cc in
    subst (λ (n : ℕ). IsFitting d n s.fixed s.far) (omega arith) (subst (λ (z : Plain). IsFitting d m z.fixed z.far) same fits.0)
fits_at d m (x ∷ sides) (suc k) s fits at = subst (λ (n : ℕ). IsFitting d n s.fixed s.far) (omega arith) (fits_at d (m + 1) sides k s fits.1 at)

pub fits_set : (d : Collection) (m : ℕ) (sides : List Plain) (k : ℕ) (n : Plain) → FitFrom d m sides → IsFitting d (m + k) n.fixed n.far → FitFrom d m (slice_set sides k n)
fits_set d m [] k n fits one = tt
fits_set d m (x ∷ sides) zero n fits one = (subst (λ (i : ℕ). IsFitting d i n.fixed n.far) (omega arith) one, fits.1)
fits_set d m (x ∷ sides) (suc k) n fits one = (fits.0, fits_set d (m + 1) sides k n fits.1 (subst (λ (i : ℕ). IsFitting d i n.fixed n.far) (omega arith) one))

-- ---- what was rung is at most the value rung last

least_below : (least : ℕ) (xs : List ℕ) → NeverFallsFrom least xs → least ≤ last_from least xs
least_below least [] rising = omega arith
least_below least (x ∷ xs) rising = let rest : x ≤ last_from x xs = least_below x xs rising.1 in omega (arith, rising.0, rest)

some_below : (least : ℕ) (xs : List ℕ) (v : ℕ) → NeverFallsFrom least xs → SomeOf (λ x. x ≡ v) xs → v ≤ last_from least xs
some_below least [] v rising some = absurd some
some_below least (x ∷ xs) v rising (inl e) = let rest : x ≤ last_from x xs = least_below x xs rising.1 in omega (arith, e, rest)
some_below least (x ∷ xs) v rising (inr some) = some_below x xs v rising.1 some

pub rung_below : (rungs : List ℕ) (v : ℕ) → NeverFallsFrom 0 rungs → WasRung v rungs → v ≤ rung_of rungs
rung_below rungs v rising (inl e) = omega (arith, e)
rung_below rungs v rising (inr some) = some_below 0 rungs v rising some

-- ---- the daemon

-- the daemon stands where the run's daemon stands
pub record SameDaemon (trace : Recording) (run first_epoch : ℕ) (d : Collection) (w : Daemon) : Type 0 where
  pub trace_is : d.trace ≡ trace
  pub pace_is : d.pace ≡ Free
  pub run_is : d.run ≡ run
  pub first_is : d.first_epoch ≡ first_epoch
  pub state : without_drains d.state ≡ without_drains w
  pub drains : d.failure ≡ None → d.state.drains ≡ w.drains

none_is_some : {A B : Type 0} (x : A) → Some x ≡ None → B
none_is_some x e = absurd cc

drained_same : (trace : Recording) (run first_epoch : ℕ) (d : Collection) (w : Daemon) (cpu cell : ℕ) (batch : Sent) → d.failure ≡ None → SameDaemon trace run first_epoch d w
    → SameDaemon trace run first_epoch (drained cpu cell batch d) (noted (records_in trace) w batch)
drained_same trace run first_epoch d w cpu cell batch none same = record {
  trace_is = same.trace_is;
  pace_is = same.pace_is;
  run_is = same.run_is;
  first_is = same.first_is;
  state = same.state;
  drains = λ still. ap (λ (z : List Drained). z ++ drain_of (records_in d.trace) d.state batch ∷ []) (same.drains none)
      ∙ ap (λ (t : Recording). w.drains ++ drain_of (records_in t) d.state batch ∷ []) same.trace_is
      ∙ ap (λ (z : Daemon). w.drains ++ drain_of (records_in trace) z batch ∷ []) same.state;
}

passed_same : (trace : Recording) (run first_epoch : ℕ) (d : Collection) (w : Daemon) (cpu cell : ℕ) (batch : Sent) → SameDaemon trace run first_epoch d w
    → SameDaemon trace run first_epoch (passed cpu cell batch d) (noted (records_in trace) w batch)
passed_same trace run first_epoch d w cpu cell batch same = record {
  trace_is = same.trace_is;
  pace_is = same.pace_is;
  run_is = same.run_is;
  first_is = same.first_is;
  state = same.state;
  drains = λ none. none_is_some _ none;
}

taken_same : (trace : Recording) (run first_epoch : ℕ) (d e : Collection) (w : Daemon) (cpu cell : ℕ) (batch : Sent) → TakenBy cpu cell batch d e → SameDaemon trace run first_epoch d w
    → SameDaemon trace run first_epoch e (noted (records_in trace) w batch)
taken_same trace run first_epoch d e w cpu cell batch (inl is) same =
    subst (λ (z : Collection). SameDaemon trace run first_epoch z (noted (records_in trace) w batch)) (sym is.1) (drained_same trace run first_epoch d w cpu cell batch is.0 same)
taken_same trace run first_epoch d e w cpu cell batch (inr is) same =
    subst (λ (z : Collection). SameDaemon trace run first_epoch z (noted (records_in trace) w batch)) (sym is) (passed_same trace run first_epoch d w cpu cell batch same)

-- what taking a batch leaves of the daemon
record Left (cpu cell : ℕ) (batch : Sent) (d e : Collection) : Type 0 where
  trace : e.trace ≡ d.trace
  rungs : rungs_of e.pace (records_in e.trace) e.state ≡ rungs_of d.pace (records_in d.trace) d.state
  applied : e.state.applied ≡ d.state.applied
  flushes : e.flushes ≡ slice_set d.flushes cpu (flush_took (flush_before d.state.applied) (slice_index_or d.flushes cpu no_flush) cell batch.note)

taken_left : (cpu cell : ℕ) (batch : Sent) (d e : Collection) → TakenBy cpu cell batch d e → Left cpu cell batch d e
taken_left cpu cell batch d e (inl is) = subst (λ (z : Collection). Left cpu cell batch d z) (sym is.1) (record { trace = refl; rungs = refl; applied = refl; flushes = refl })
taken_left cpu cell batch d e (inr is) = subst (λ (z : Collection). Left cpu cell batch d z) (sym is) (record { trace = refl; rungs = refl; applied = refl; flushes = refl })

-- ---- all of it

-- what does not change the daemon's half of a side changes no fitting
pub fits_with : (d : Collection) (cpu : ℕ) (s n : Plain) → IsFitting d cpu s.fixed s.far → n.fixed ≡ s.fixed → IsGivenBack n.far → n.far.rungs ≡ s.far.rungs → IsFitting d cpu n.fixed n.far
fits_with d cpu s n fits fixed back rungs = record {
  cpu = ap (λ (x : Fixed). x.cpu) fixed ∙ fits.cpu;
  samples = ap (λ (x : Fixed). x.samples) fixed ∙ fits.samples;
  first = back.free0;
  second = back.free1;
  third = back.free2;
  rungs = rungs ∙ fits.rungs;
}

-- the processors after the poll
polled_processors : (trace : Recording) (lanes : List Seen) (sides : List Plain) (system : System) (cpu cell : ℕ) (l : Seen) (s n : Plain)
    → system.processors ≡ processors_of lanes sides → slice_get lanes cpu ≡ Some l → slice_get system.processors cpu ≡ Some (processor_of l s)
    → processor_of l n ≡ polled (processor_of l s) cell
    → (after_poll trace system cpu cell (slice_get system.processors cpu)).processors ≡ processors_of lanes (slice_set sides cpu n)
polled_processors trace lanes sides system cpu cell l s n same at there polls =
    ap {B = List Processor} (λ found. (after_poll trace system cpu cell found).processors) there
    ∙ ap (λ (ps : List Processor). slice_set ps cpu (polled (processor_of l s) cell)) same
    ∙ ap (λ (p : Processor). slice_set (processors_of lanes sides) cpu p) (sym polls)
    ∙ sym (side_set lanes sides cpu l n at)

-- the daemon after the poll
polled_daemon : (trace : Recording) (system : System) (cpu cell : ℕ) (p : Processor) (found : Option Sent) → slice_get system.processors cpu ≡ Some p → waiting_at p cell ≡ found
    → (after_poll trace system cpu cell (slice_get system.processors cpu)).daemon ≡ noted_if (records_in trace) system.daemon found
polled_daemon trace system cpu cell p found there waits =
    ap {B = Daemon} (λ z. (after_poll trace system cpu cell z).daemon) there
    ∙ ap (λ (z : Option Sent). noted_if (records_in trace) system.daemon z) waits

-- what is left to say of the daemon where a poll made of the side another one
poll_case : CountsAgree → (trace : Recording) (run first_epoch : ℕ) (lanes : List Seen) (sides : List Plain) (d e : Collection) (system : System) (cpu cell : ℕ) (l : Seen) (s n : Plain)
    → StandsAt trace run first_epoch lanes sides d system → slice_get sides cpu ≡ Some s → n.fixed ≡ s.fixed → IsGivenBack n.far
    → (value : ℕ) → rung_of s.far.rungs ≤ flush_before d.state.applied → NeverFallsFrom 0 s.far.rungs
    → slice_get system.processors cpu ≡ Some (processor_of l s)
    → PollStep cpu cell l.driver s n d e
    → SameDaemon trace run first_epoch e (after_poll trace system cpu cell (slice_get system.processors cpu)).daemon
    × FitFrom e 0 (slice_set sides cpu n) × Agree (flush_before e.state.applied) e.flushes (fars_in (slice_set sides cpu n))
poll_case laws trace run first_epoch lanes sides d e system cpu cell l s n stands on fixed back value below rising there (inl (polls, is)) =
    let before : SameDaemon trace run first_epoch d system.daemon = record { trace_is = stands.trace_is; pace_is = stands.pace_is; run_is = stands.run_is; first_is = stands.first_is; state = stands.state; drains = stands.drains } in
    let daemon = polled_daemon trace system cpu cell (processor_of l s) None there polls.waits in
    let one = fits_with d cpu s n (subst (λ (i : ℕ). IsFitting d i s.fixed s.far) (omega arith) (fits_at d 0 sides cpu s stands.fits on)) fixed back (ap (λ (f : FarSide). f.rungs) polls.stays) in
    let fits = fits_set d 0 sides cpu n stands.fits (subst (λ (i : ℕ). IsFitting d i n.fixed n.far) (omega arith) one) in
    let counts = agrees_same (flush_before d.state.applied) d.flushes sides cpu s n on polls.stays stands.counts in (
      subst (λ (z : Collection). SameDaemon trace run first_epoch z (after_poll trace system cpu cell (slice_get system.processors cpu)).daemon) (sym is) (subst (λ (w : Daemon). SameDaemon trace run first_epoch d w) (sym daemon) before),
      subst (λ (z : Collection). FitFrom z 0 (slice_set sides cpu n)) (sym is) fits,
      subst (λ (z : Collection). Agree (flush_before z.state.applied) z.flushes (fars_in (slice_set sides cpu n))) (sym is) counts,
    )
poll_case laws trace run first_epoch lanes sides d e system cpu cell l s n stands on fixed back value below rising there (inr (batch, polls, taken)) =
    let before : SameDaemon trace run first_epoch d system.daemon = record { trace_is = stands.trace_is; pace_is = stands.pace_is; run_is = stands.run_is; first_is = stands.first_is; state = stands.state; drains = stands.drains } in
    let daemon = polled_daemon trace system cpu cell (processor_of l s) (Some batch) there polls.waits in
    let left = taken_left cpu cell batch d e taken in
    let one = fits_with d cpu s n (subst (λ (i : ℕ). IsFitting d i s.fixed s.far) (omega arith) (fits_at d 0 sides cpu s stands.fits on)) fixed back polls.rungs in
    let fits = fits_set d 0 sides cpu n stands.fits (subst (λ (i : ℕ). IsFitting d i n.fixed n.far) (omega arith) one) in
    let asked : batch.note.answers ≤ flush_before d.state.applied = omega (arith, rung_below s.far.rungs batch.note.answers rising polls.answers, below) in
    let agrees = polls.counts laws (flush_before d.state.applied) (slice_index_or d.flushes cpu no_flush) asked
    (agrees_at (flush_before d.state.applied) d.flushes (fars_in sides) cpu s.far stands.counts (fars_got sides cpu s on)) in
    let counts = agrees_set (flush_before d.state.applied) d.flushes (fars_in sides) cpu _ n.far stands.counts agrees in (
      subst (λ (w : Daemon). SameDaemon trace run first_epoch e w) (sym daemon) (taken_same trace run first_epoch d e system.daemon cpu cell batch taken before),
      fit_same d e 0 (slice_set sides cpu n) left.trace left.rungs fits,
      subst (λ (k : ℕ). Agree (flush_before k) e.flushes (fars_in (slice_set sides cpu n))) (sym left.applied)
          (subst (λ (z : List Flush). Agree (flush_before d.state.applied) z (fars_in (slice_set sides cpu n))) (sym left.flushes)
          (subst (λ (z : List FarSide). Agree (flush_before d.state.applied) (slice_set d.flushes cpu (flush_took (flush_before d.state.applied) (slice_index_or d.flushes cpu no_flush) cell batch.note)) z) (sym (fars_set sides cpu n)) counts)),
    )

-- what a poll leaves of the side
step_left : (cpu cell requests : ℕ) (samples : List Marked) (l : Seen) (s n : Plain) (d e : Collection) → PollStep cpu cell l.driver s n d e → HasLeft requests samples s.seen → HasLeft requests samples n.seen
step_left cpu cell requests samples l s n d e (inl (polls, is)) left = polls.left requests samples left
step_left cpu cell requests samples l s n d e (inr (batch, polls, taken)) left = polls.left requests samples left

step_polls : (cpu cell : ℕ) (l : Seen) (s n : Plain) (d e : Collection) → PollStep cpu cell l.driver s n d e → processor_of l n ≡ polled (processor_of l s) cell
step_polls cpu cell l s n d e (inl (polls, is)) = polls.polls
step_polls cpu cell l s n d e (inr (batch, polls, taken)) = polls.polls

-- the daemon's position by both
pub same_applied : (d : Collection) (w : Daemon) → without_drains d.state ≡ without_drains w → d.state.applied ≡ w.applied
same_applied d w same = ap (λ (z : Daemon). z.applied) same

pub poll_stands : CountsAgree → (trace : Recording) (run first_epoch : ℕ) (lanes : List Seen) (sides : List Plain) (d e : Collection) (system : System) (cpu cell : ℕ)
    (l : Seen) (s n : Plain) (answer : Polled) → cell ≤ 2
    → StandsAt trace run first_epoch lanes sides d system → SystemHolds Free trace first_epoch system
    → SystemHolds Free trace first_epoch (after_poll trace system cpu cell (slice_get system.processors cpu))
    → slice_get lanes cpu ≡ Some l → slice_get sides cpu ≡ Some s → n.fixed ≡ s.fixed
    → Polls cpu cell s.fixed d s.seen s.far answer e n.seen n.far
    → StandsAt trace run first_epoch lanes (slice_set sides cpu n) e (after_poll trace system cpu cell (slice_get system.processors cpu))
poll_stands laws trace run first_epoch lanes sides d e system cpu cell l s n answer le stands holds held at on fixed polls =
    let there : slice_get system.processors cpu ≡ Some (processor_of l s) = ap (λ (ps : List Processor). slice_get ps cpu) stands.processors ∙ processor_there lanes sides cpu l s at on in
    let lane : HoldsAt Free trace system.daemon cpu (processor_of l s) = holds.lanes cpu (processor_of l s) there in
    let player = player_here Free trace lanes sides cpu l s stands.players at on in
    let step = polls_as cpu cell l.driver s n d e answer le player.back lane.cell0.passed.front lane.cell1.passed.front lane.cell2.passed.front polls in
    let processors = polled_processors trace lanes sides system cpu cell l s n stands.processors at there (step_polls cpu cell l s n d e step) in
    let again = ap (λ (ps : List Processor). slice_get ps cpu) processors ∙ processor_there lanes (slice_set sides cpu n) cpu l n at (set_got sides cpu s n on) in
    let lane_after = held.lanes cpu (processor_of l n) again in
    let new = player_with trace cpu _ _ _ _ _ l n held.books.stands.within lane_after player.setup (fixed ∙ player.fixed)
    (step_left cpu cell (length (records_in trace) + 1) l.setup.samples l s n d e step player.runs.left) in
    let below : rung_of s.far.rungs ≤ flush_before d.state.applied = bell_high system.daemon.asking d.state.applied system.daemon.applied (same_applied d system.daemon stands.state) (rung_of s.far.rungs) lane.bell.last in
    let rest = poll_case laws trace run first_epoch lanes sides d e system cpu cell l s n stands on fixed new.back 0 below lane.bell.rising there step in
    record {
      players = players_side Free trace 0 lanes sides cpu l n stands.players at (subst (λ (i : ℕ). IsPlayer Free trace i l n) (omega arith) new);
      processors = processors;
      trace_is = rest.0.trace_is;
      pace_is = rest.0.pace_is;
      run_is = rest.0.run_is;
      first_is = rest.0.first_is;
      state = rest.0.state;
      drains = rest.0.drains;
      fits = rest.1;
      counts = rest.2;
    }
  where
    bell_high : (t : Bool) (a b : ℕ) → a ≡ b → (r : ℕ) → r ≡ bell_of t b → r ≤ flush_before a
    bell_high true a b same r is = omega (arith, same, is)
    bell_high false a b same r is = omega (arith, same, is)
