-- After a poll of a cell the daemon knows its sides still, and committed nothing.
use Rattle.std.proofs.Common.{arith, ◌≡◌, refl, sym, ◌∙◌, ap, subst, ℕ, ◌+◌, ◌<◌, ◌≤◌, List, [], ◌∷◌, length, inl, inr, Option, Some, None}
use Rattle.std.specs.Prelude.{slice_get, slice_set, slice_index_or, unwrap_or}
use Rattle.std.proofs.lemmas.List.{length-set, map-set}
use Rattle.std.proofs.lemmas.Option.{slice_get_within}
use Rattle.sample_key.specs.Sent.{Sent}
use Rattle.sample_key.specs.declared.losses.Pace.{Pace}
use Rattle.trace_model.specs.Recording.{Recording}
use Rattle.trace_model.specs.Streams.{records_in, stream_of}
use Rattle.driver_model.specs.Sides.{Side}
use Rattle.driver_model.specs.Handover.{FarSide, WasRung}
use Rattle.database_state.specs.declared.faults.DbFault.{DbFault}
use Rattle.database_state.specs.declared.faults.DbFault.TheVariants.{Memory}
use Rattle.lane_side.specs.Fixed.{Fixed}
use Rattle.lane_side.specs.Plain.{Plain}
use Rattle.run_model.specs.Daemon.{Daemon, drain_of, flush_before, noted, rungs_of}
use Rattle.run_laws.specs.Laws.{Extends}
use Rattle.run_laws.proofs.Growing.{extends_on, extends_same}
use Rattle.run_laws.proofs.Systems.{map_got}
use Rattle.run_joins.specs.Collecting.{BooksAreKept, DaemonsCollect}
use Rattle.run_joins.proofs.Knowing.{asked_drain}
use Rattle.run_closes.specs.Closes.{PollsAreTimely}
use Rattle.dcpid_core.specs.Collection.{Collection, FitFrom, IsFitting, views}
use Rattle.dcpid_core.specs.Counting.{Agree, CountsAgree, fars_in}
use Rattle.dcpid_core.specs.Flushes.{flush_took, no_flush}
use Rattle.dcpid_core.specs.Polling.{Polls, drained, passed}
use Rattle.dcpid_core.specs.declared.polled.Polled.{Polled}
use Rattle.dcpid_core.proofs.Rungs.{fit_same}
use Rattle.replay_drive.specs.Growing.{KeepsParts}
use Rattle.replay_drive.specs.Replaying.{FaultRests, LeavesStore}
use Rattle.replay_drive.proofs.PollStands.{agrees_at, agrees_same, agrees_set, fars_got, fars_set, fits_at, fits_set}
use Rattle.replay_drive.proofs.StepsTaken.{poll_leaves}
use Rattle.daemon_rounds.specs.Going.{HasPolled, IsGoing, PollsOn}
use Rattle.daemon_rounds.specs.Knowing.{IsCollected, Knows, KnowsFrom, KnowsOf, WasCollected}
use Rattle.daemon_rounds.specs.Sides.{IsTriedAt}
use Rattle.daemon_rounds.proofs.Collecting.{collected_other, was_later}
use Rattle.daemon_rounds.proofs.KnowingEach.{knows_at, knows_set, knows_was}
use Rattle.daemon_rounds.proofs.PollingOne.{IsFree, TakesOne, TakesStep, collected_one, takes_as, tried_as}

-- the laws of the daemon that a poll cites
pub record PollLaws : Type 0 where
  pub books : BooksAreKept
  pub collects : DaemonsCollect
  pub timely : PollsAreTimely
  pub counts : CountsAgree

never : {A : Type 0} (fault : DbFault) → Some fault ≡ None → A
never fault e = absurd cc

-- a side that fits, with its halves that the daemon holds none of
fit_with : (d : Collection) (number : ℕ) (s n : Plain) → IsFitting d number s.fixed s.far → n.fixed ≡ s.fixed → IsFree n.far → n.far.rungs ≡ s.far.rungs → IsFitting d number n.fixed n.far
fit_with d number s n fits fixed free rungs = record {
  cpu = ap (λ (x : Fixed). x.cpu) fixed ∙ fits.cpu;
  samples = ap (λ (x : Fixed). x.samples) fixed ∙ fits.samples;
  first = free.first;
  second = free.second;
  third = free.third;
  rungs = rungs ∙ fits.rungs;
}

free_of : (d : Collection) (number : ℕ) (s : Plain) → IsFitting d number s.fixed s.far → IsFree s.far
free_of d number s fits = record { first = fits.first; second = fits.second; third = fits.third }

-- ---- none waited

home_knows : (pace : Pace) (trace : Recording) (run first : ℕ) (until : Daemon) (d : Collection) (sides : List Plain) (cpu : ℕ) (s n : Plain) → Knows pace trace run first until d sides
    → slice_get sides cpu ≡ Some s → n.fixed ≡ s.fixed → n.far ≡ s.far → Knows pace trace run first until d (slice_set sides cpu n)
home_knows pace trace run first until d sides cpu s n knows at fixed far =
    let fits : IsFitting d (0 + cpu) s.fixed s.far = fits_at d 0 sides cpu s knows.fits at in
    let free : IsFree n.far = subst (λ (f : FarSide). IsFree f) (sym far) (free_of d (0 + cpu) s fits) in
    let known : KnowsOf pace trace (0 + cpu) until d.failure s.far = knows_at pace trace until d.failure 0 cpu sides s knows.each at in
    record {
      trace_is = knows.trace_is;
      pace_is = knows.pace_is;
      run_is = knows.run_is;
      first_is = knows.first_is;
      same = knows.same;
      well = knows.well;
      books = knows.books;
      parts = knows.parts;
      few = knows.few;
      count = length-set sides cpu n ∙ knows.count;
      fits = fits_set d 0 sides cpu n knows.fits (fit_with d (0 + cpu) s n fits fixed free (ap (λ (f : FarSide). f.rungs) far));
      counts = agrees_same (flush_before d.state.applied) d.flushes sides cpu s n at far knows.counts;
      each = knows_set pace trace until until d.failure d.failure 0 cpu sides n (λ i f apart is. is)
          (subst (λ (f : FarSide). KnowsOf pace trace (0 + cpu) until d.failure f) (sym far) known) knows.each;
    }

-- ---- one waited

-- the sides fit the daemon still, whose state rings the same
fits_taken : (d e : Collection) (sides : List Plain) (cpu cell : ℕ) (s n : Plain) (batch : Sent) → FitFrom d 0 sides → slice_get sides cpu ≡ Some s → n.fixed ≡ s.fixed → TakesOne cell s n batch
    → e.trace ≡ d.trace → rungs_of e.pace (records_in e.trace) e.state ≡ rungs_of d.pace (records_in d.trace) d.state → FitFrom e 0 (slice_set sides cpu n)
fits_taken d e sides cpu cell s n batch all at fixed takes trace rungs =
    let fits : IsFitting d (0 + cpu) s.fixed s.far = fits_at d 0 sides cpu s all at in
    fit_same d e 0 (slice_set sides cpu n) trace rungs
    (fits_set d 0 sides cpu n all (fit_with d (0 + cpu) s n fits fixed (takes.free (free_of d (0 + cpu) s fits)) takes.rungs))

-- what was rung, by where the daemon stands
rung_here : (pace : Pace) (trace : Recording) (run first : ℕ) (until : Daemon) (d : Collection) (sides : List Plain) (cpu : ℕ) (s : Plain) → Knows pace trace run first until d sides
    → slice_get sides cpu ≡ Some s → s.far.rungs ≡ rungs_of pace (records_in trace) d.state
rung_here pace trace run first until d sides cpu s knows at =
    let fits : IsFitting d (0 + cpu) s.fixed s.far = fits_at d 0 sides cpu s knows.fits at in
    fits.rungs ∙ ap (λ (p : Pace). rungs_of p (records_in d.trace) d.state) knows.pace_is ∙ ap (λ (t : Recording). rungs_of pace (records_in t) d.state) knows.trace_is

-- the counts agree with the sides still
counts_taken : CountsAgree → (pace : Pace) (trace : Recording) (run first : ℕ) (until : Daemon) (d : Collection) (sides : List Plain) (cpu cell : ℕ) (s n : Plain) (batch : Sent)
    → Knows pace trace run first until d sides → slice_get sides cpu ≡ Some s → TakesOne cell s n batch
    → Agree (flush_before d.state.applied) (slice_set d.flushes cpu (flush_took (flush_before d.state.applied) (slice_index_or d.flushes cpu no_flush) cell batch.note)) (fars_in (slice_set sides cpu n))
counts_taken laws pace trace run first until d sides cpu cell s n batch knows at takes =
    let value : ℕ = flush_before d.state.applied in
    let rung : WasRung batch.note.answers (rungs_of pace (records_in trace) d.state) =
    subst (λ (z : List ℕ). WasRung batch.note.answers z) (rung_here pace trace run first until d sides cpu s knows at) takes.answers in
    let asked : batch.note.answers ≤ value = (asked_drain pace (records_in trace) d.state batch knows.well rung).by_then in
    let agrees = takes.counts laws value (slice_index_or d.flushes cpu no_flush) asked
    (agrees_at value d.flushes (fars_in sides) cpu s.far knows.counts (fars_got sides cpu s at)) in
    subst (λ (z : List FarSide). Agree value (slice_set d.flushes cpu (flush_took value (slice_index_or d.flushes cpu no_flush) cell batch.note)) z) (sym (fars_set sides cpu n))
    (agrees_set value d.flushes (fars_in sides) cpu _ n.far knows.counts agrees)

-- it was noted
drained_knows : PollLaws → (pace : Pace) (trace : Recording) (run first : ℕ) (until : Daemon) (d : Collection) (sides : List Plain) (cpu cell : ℕ) (s n : Plain) (batch : Sent)
    → Knows pace trace run first until d sides → slice_get sides cpu ≡ Some s → n.fixed ≡ s.fixed → cell ≤ 2 → TakesOne cell s n batch → d.failure ≡ None
    → KeepsParts trace (drained cpu cell batch d) → Knows pace trace run first (noted (records_in trace) until batch) (drained cpu cell batch d) (slice_set sides cpu n)
drained_knows laws pace trace run first until d sides cpu cell s n batch knows at fixed le takes none parts =
    let later : Daemon = noted (records_in trace) until batch in
    let fits : IsFitting d (0 + cpu) s.fixed s.far = fits_at d 0 sides cpu s knows.fits at in
    let mine : batch.note.cpu ≡ 0 + cpu = takes.cpu ∙ fits.cpu in
    let within : cpu < length sides = slice_get_within sides cpu s at in
    let small : batch.note.cpu < trace.cpus = omega (arith, mine, within, knows.count) in
    let low : batch.note.cell ≤ 2 = omega (arith, takes.own, le) in
    let samples : s.fixed.samples ≡ stream_of (0 + cpu) trace = fits.samples ∙ ap (λ (t : Recording). stream_of (0 + cpu) t) knows.trace_is in
    let rungs : s.far.rungs ≡ rungs_of pace (records_in trace) until =
    rung_here pace trace run first until d sides cpu s knows at ∙ ap (λ (z : Daemon). rungs_of pace (records_in trace) z) (knows.same none) in
    let each : KnowsFrom pace trace 0 until None sides = subst (λ (o : Option DbFault). KnowsFrom pace trace 0 until o sides) none knows.each in
    let one : IsCollected pace trace (0 + cpu) later n.far = collected_one laws.collects laws.timely pace trace (0 + cpu) cell until s n batch takes fits.cpu samples rungs knows.books.stands
    (knows_at pace trace until None 0 cpu sides s each at) in
    record {
      trace_is = knows.trace_is;
      pace_is = knows.pace_is;
      run_is = knows.run_is;
      first_is = knows.first_is;
      same = λ still. ap (λ (t : Recording). noted (records_in t) d.state batch) knows.trace_is ∙ ap (λ (z : Daemon). noted (records_in trace) z batch) (knows.same none);
      well = record { within = knows.well.within; need = knows.well.need };
      books = laws.books.noted pace trace first until batch small low knows.books;
      parts = parts;
      few = knows.few;
      count = length-set sides cpu n ∙ knows.count;
      fits = fits_taken d (drained cpu cell batch d) sides cpu cell s n batch knows.fits at fixed takes refl refl;
      counts = counts_taken laws.counts pace trace run first until d sides cpu cell s n batch knows at takes;
      each = subst (λ (o : Option DbFault). KnowsFrom pace trace 0 later o (slice_set sides cpu n)) (sym none)
          (knows_set pace trace until later None None 0 cpu sides n (λ i f apart is. collected_other pace trace i until f batch (λ e. apart (sym e ∙ mine)) is) one each);
    }

-- or passed over
passed_knows : CountsAgree → (pace : Pace) (trace : Recording) (run first : ℕ) (until : Daemon) (d : Collection) (sides : List Plain) (cpu cell : ℕ) (s n : Plain) (batch : Sent)
    → Knows pace trace run first until d sides → slice_get sides cpu ≡ Some s → n.fixed ≡ s.fixed → TakesOne cell s n batch
    → KeepsParts trace (passed cpu cell batch d) → Knows pace trace run first until (passed cpu cell batch d) (slice_set sides cpu n)
passed_knows laws pace trace run first until d sides cpu cell s n batch knows at fixed takes parts =
    let fault : DbFault = unwrap_or d.failure Memory in
    let was : WasCollected pace trace (0 + cpu) until s.far = knows_was pace trace (0 + cpu) until d.failure s.far (knows_at pace trace until d.failure 0 cpu sides s knows.each at) in
    record {
      trace_is = knows.trace_is;
      pace_is = knows.pace_is;
      run_is = knows.run_is;
      first_is = knows.first_is;
      same = λ none. never fault none;
      well = knows.well;
      books = knows.books;
      parts = parts;
      few = knows.few;
      count = length-set sides cpu n ∙ knows.count;
      fits = fits_taken d (passed cpu cell batch d) sides cpu cell s n batch knows.fits at fixed takes refl refl;
      counts = counts_taken laws pace trace run first until d sides cpu cell s n batch knows at takes;
      each = knows_set pace trace until until d.failure (Some fault) 0 cpu sides n (λ i f apart is. knows_was pace trace i until d.failure f is)
          (was_later pace trace (0 + cpu) until s.far n.far takes.on was) knows.each;
    }

-- ---- all of it

extends_noted : (trace : Recording) (until : Daemon) (batch : Sent) → Extends until (noted (records_in trace) until batch)
extends_noted trace until batch = record {
  applied = omega arith;
  more = drain_of (records_in trace) until batch ∷ [];
  drains = refl;
  later = (omega arith, tt);
}

poll_goes : PollLaws → (pace : Pace) (trace : Recording) (run first : ℕ) (until : Daemon) (d e : Collection) (sides : List Plain) (cpu cell : ℕ) (s n : Plain)
    → Knows pace trace run first until d sides → slice_get sides cpu ≡ Some s → n.fixed ≡ s.fixed → cell ≤ 2 → LeavesStore trace d e → TakesStep cpu cell s n d e
    → HasPolled pace trace run first until d e (slice_set sides cpu n)
poll_goes laws pace trace run first until d e sides cpu cell s n knows at fixed le leaves (inl (none, is)) = record {
  later = until;
  extends = extends_same until until (omega arith) refl;
  knows = subst (λ (z : Collection). Knows pace trace run first until z (slice_set sides cpu n)) (sym is) (home_knows pace trace run first until d sides cpu s n knows at fixed none.stays);
  leaves = leaves;
  finished = ap (λ (z : Collection). z.state.finished) is;
}
poll_goes laws pace trace run first until d e sides cpu cell s n knows at fixed le leaves (inr (batch, takes, inl (none, is))) = record {
  later = noted (records_in trace) until batch;
  extends = extends_noted trace until batch;
  knows = subst (λ (z : Collection). Knows pace trace run first (noted (records_in trace) until batch) z (slice_set sides cpu n)) (sym is)
      (drained_knows laws pace trace run first until d sides cpu cell s n batch knows at fixed le takes none (subst (λ (z : Collection). KeepsParts trace z) is (leaves.parts knows.parts)));
  leaves = leaves;
  finished = ap (λ (z : Collection). z.state.finished) is;
}
poll_goes laws pace trace run first until d e sides cpu cell s n knows at fixed le leaves (inr (batch, takes, inr is)) = record {
  later = until;
  extends = extends_same until until (omega arith) refl;
  knows = subst (λ (z : Collection). Knows pace trace run first until z (slice_set sides cpu n)) (sym is)
      (passed_knows laws.counts pace trace run first until d sides cpu cell s n batch knows at fixed takes (subst (λ (z : Collection). KeepsParts trace z) is (leaves.parts knows.parts)));
  leaves = leaves;
  finished = ap (λ (z : Collection). z.state.finished) is;
}

-- ---- as contracts say it

-- a side as contracts see it
abbrev pub view_of : {S : Type 0} → (S → Side) → (S → FarSide) → (S → Fixed) → S → Plain
view_of seen far fixed side = record { seen = seen side; far = far side; fixed = fixed side }

pub poll_on : {S : Type 0} (seen : S → Side) (far : S → FarSide) (fixed : S → Fixed) → PollLaws → (d e : Collection) (xs : List S) (cpu cell : ℕ) (x y : S) (answer : Polled) → cell ≤ 2
    → slice_get xs cpu ≡ Some x → fixed y ≡ fixed x → Polls cpu cell (fixed x) d (seen x) (far x) answer e (seen y) (far y)
    → PollsOn d (views seen far fixed xs) e (views seen far fixed (slice_set xs cpu y))
poll_on seen far fixed laws d e xs cpu cell x y answer le at same polls = λ pace trace run first until knows.
    subst (λ (z : List Plain). HasPolled pace trace run first until d e z) (sym (map-set (view_of seen far fixed) xs cpu y))
    (poll_goes laws pace trace run first until d e (views seen far fixed xs) cpu cell (view_of seen far fixed x) (view_of seen far fixed y) knows
    (map_got (view_of seen far fixed) xs cpu x at) same le
    (poll_leaves trace cpu cell cell (fixed x) d e (seen x) (seen y) (far x) (far y) answer knows.trace_is (omega (arith, le)) polls)
    (takes_as cpu cell (view_of seen far fixed x) (view_of seen far fixed y) d e answer le polls))

pub tried_on : {S : Type 0} (seen : S → Side) (far : S → FarSide) (fixed : S → Fixed) → (d e : Collection) (xs : List S) (cpu cell : ℕ) (x y : S) (answer : Polled) → cell ≤ 2
    → slice_get xs cpu ≡ Some x → fixed y ≡ fixed x → Polls cpu cell (fixed x) d (seen x) (far x) answer e (seen y) (far y)
    → IsTriedAt cell cpu (views seen far fixed xs) (views seen far fixed (slice_set xs cpu y))
tried_on seen far fixed d e xs cpu cell x y answer le at same polls = record {
  was = view_of seen far fixed x;
  side = view_of seen far fixed y;
  at = map_got (view_of seen far fixed) xs cpu x at;
  set = map-set (view_of seen far fixed) xs cpu y;
  tried = tried_as cpu cell (view_of seen far fixed x) (view_of seen far fixed y) d e same (takes_as cpu cell (view_of seen far fixed x) (view_of seen far fixed y) d e answer le polls);
}

-- one poll after another
rests_on : (a b c : Option DbFault) → FaultRests a b → FaultRests b c → FaultRests a c
rests_on (Some fault) b c ab bc = subst (λ (o : Option DbFault). FaultRests o c) ab bc
rests_on None b c (inl ab) bc = subst (λ (o : Option DbFault). FaultRests o c) ab bc
rests_on None b c (inr ab) bc = let rest : FaultRests (Some Memory) c = subst (λ (o : Option DbFault). FaultRests o c) ab bc in inr rest

leaves_on : (trace : Recording) (a b c : Collection) → LeavesStore trace a b → LeavesStore trace b c → LeavesStore trace a c
leaves_on trace a b c ab bc = record {
  part = bc.part ∙ ab.part;
  head = bc.head ∙ ab.head;
  fault = rests_on a.failure b.failure c.failure ab.fault bc.fault;
  parts = λ keeps. bc.parts (ab.parts keeps);
}

pub polls_on : (a b c : Collection) (xs ys zs : List Plain) → PollsOn a xs b ys → PollsOn b ys c zs → PollsOn a xs c zs
polls_on a b c xs ys zs ab bc = λ pace trace run first until knows.
    let one = ab pace trace run first until knows in
    let two = bc pace trace run first one.later one.knows in
    record {
      later = two.later;
      extends = extends_on until one.later two.later one.extends two.extends;
      knows = two.knows;
      leaves = leaves_on trace a b c one.leaves two.leaves;
      finished = two.finished ∙ one.finished;
    }

-- no poll
pub polls_none : (d : Collection) (sides : List Plain) → PollsOn d sides d sides
polls_none d sides = λ pace trace run first until knows. record {
  later = until;
  extends = extends_same until until (omega arith) refl;
  knows = knows;
  leaves = record { part = refl; head = refl; fault = still d.failure; parts = λ keeps. keeps };
  finished = refl;
}
  where
    still : (o : Option DbFault) → FaultRests o o
    still (Some fault) = refl
    still None = inl refl

-- it goes on from where it went
pub going_on : (a b : Collection) (xs ys : List Plain) → IsGoing a xs → PollsOn a xs b ys → IsGoing b ys
going_on a b xs ys (pace, trace, run, first, until, knows) on =
    let now = on pace trace run first until knows in
    (pace, trace, run, first, now.later, now.knows)
